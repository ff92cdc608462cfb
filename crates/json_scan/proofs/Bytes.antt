-- White space, byte by byte; and which bytes lie between two.
use mathlib.Core.Path.{◌≡◌, refl, sym, subst}
use mathlib.Core.Bool.{Bool, true, false, ◌&&◌}
use mathlib.Core.Logic.{◌⊎◌, inl, inr, ⊎_elim}
use Prim.Native.Nat.{ℕ, ◌<◌, ◌≤◌}
use native.Mathlib.Omega.{arith}
use borrow.Author.Tests.{leb-true, le-leb, lt-leb, eqb-true, eqb-false, ne_eqb}
use lib.Dec.{eqb, leb}
use Rattle.bytes_number.proofs.Truth.{outcome, clash, and_left, and_right}
use Rattle.json_scan.specs.Scan.{is_white, is_within, is_digit}

-- a byte is white space as soon as it is one of them
white_is : (x c : ℕ) → true ≡ is_white x → c ≡ x → true ≡ is_white c
white_is x c w e = subst (λ (y : ℕ). true ≡ is_white y) (sym e) w

pub white_blank : (c : ℕ) → (c ≡ 13) ⊎ (c ≡ 32) → true ≡ is_white c
unfolding is_white
white_blank c (inl e) = white_is 13 c refl e
white_blank c (inr e) = white_is 32 c refl e

pub white_tab : (c : ℕ) → 9 ≤ c → c ≤ 10 → true ≡ is_white c
unfolding is_white
white_tab c l m =
    ⊎_elim
    (λ t. white_is 9 c refl (eqb-true c 9 t))
    (λ t. white_is 10 c refl (omega (arith, eqb-false c 9 t)))
    (outcome (eqb c 9))

pub white_none : (c : ℕ) → (c ≡ 32 → ⊥) → (c ≡ 9 → ⊥) → (c ≡ 10 → ⊥) → (c ≡ 13 → ⊥) → false ≡ is_white c
unfolding is_white
white_none c a b d e = rw (ne_eqb c 32 a, ne_eqb c 9 b, ne_eqb c 10 d, ne_eqb c 13 e) refl

-- ---- from the one to the other

pub within : (a b c : ℕ) → a ≤ c → c ≤ b → is_within a b c ≡ true
unfolding is_within
within a b c l m = rw (le-leb a c l, le-leb c b m) refl

pub below : (a b c : ℕ) → c < a → is_within a b c ≡ false
unfolding is_within
below a b c l = rw (lt-leb a c l) refl

pub above : (a b c : ℕ) → b < c → is_within a b c ≡ false
unfolding is_within
above a b c l = go (leb a c)
  where
    go : (t : Bool) → (t && leb c b) ≡ false
    go true = lt-leb c b l
    go false = refl

pub is_within_lem : (a b c : ℕ) → is_within a b c ≡ true → (a ≤ c) × (c ≤ b)
unfolding is_within
is_within_lem a b c e = (leb-true a c (and_left (leb a c) (leb c b) e), leb-true c b (and_right (leb a c) (leb c b) e))

-- a byte that is no digit is no zero
pub no_zero_lem : (c : ℕ) → is_digit c ≡ false → c ≡ 48 → ⊥
unfolding is_within
no_zero_lem c e z = clash (is_digit c) (subst (λ (x : ℕ). is_digit x ≡ true) (sym z) refl) e
