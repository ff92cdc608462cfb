-- The bytes of a string: hex digits, and escapes.
use mathlib.Core.Path.{◌≡◌, refl, sym, subst}
use mathlib.Core.Bool.{Bool, true, false, ◌||◌}
use mathlib.Core.Logic.{inl, inr}
use Prim.Native.Nat.{ℕ, ◌<◌, ◌≤◌}
use native.Mathlib.Omega.{arith}
use borrow.Author.Tests.{ne_eqb, le-leb, lt-leb}
use lib.Dec.{leb}
use types.Run.{OneOf}
use mathlib.Core.List.{[], ◌∷◌}
use Rattle.json_scan.specs.Scan.{is_within, is_hex_digit, is_escape, hex, holds}
use Rattle.json_scan.proofs.Bytes.{below, above}

-- ---- hex digits

pub hex_holds : (c : ℕ) → holds hex c ≡ is_hex_digit c
unfolding holds
hex_holds c = refl

or_none : (t : Bool) → t ≡ (t || false)
or_none true = refl
or_none false = refl

or_neither_of : (t : Bool) → t ≡ ((t || false) || false)
or_neither_of true = refl
or_neither_of false = refl

pub small_hex : (c : ℕ) → 97 ≤ c → leb c 102 ≡ is_hex_digit c
unfolding is_hex_digit is_within
small_hex c l = rw (above 48 57 c (omega arith), above 65 70 c (omega arith), le-leb 97 c l) refl

pub large_hex : (c : ℕ) → 65 ≤ c → c < 97 → leb c 70 ≡ is_hex_digit c
unfolding is_hex_digit is_within
large_hex c l m = rw (above 48 57 c (omega arith), below 97 102 c m, le-leb 65 c l) (or_none (leb c 70))

pub digit_hex : (c : ℕ) → 48 ≤ c → c < 65 → leb c 57 ≡ is_hex_digit c
unfolding is_hex_digit is_within
digit_hex c l m = rw (below 65 70 c m, below 97 102 c (omega arith), le-leb 48 c l) (or_neither_of (leb c 57))

pub no_hex : (c : ℕ) → c < 48 → leb 48 c ≡ is_hex_digit c
unfolding is_hex_digit
no_hex c l = rw (below 48 57 c l, below 65 70 c (omega arith), below 97 102 c (omega arith)) (lt-leb 48 c l)

-- ---- escapes

abbrev pub Escapes : ℕ → Type 0
Escapes c = OneOf (34 ∷ 47 ∷ 92 ∷ 98 ∷ 102 ∷ 110 ∷ 114 ∷ 116 ∷ []) c

escape_is : (x c : ℕ) → true ≡ is_escape x → c ≡ x → true ≡ is_escape c
escape_is x c w e = subst (λ (y : ℕ). true ≡ is_escape y) (sym e) w

pub escape_one : (c : ℕ) → Escapes c → true ≡ is_escape c
unfolding is_escape
escape_one c (inl e) = escape_is 34 c refl e
escape_one c (inr (inl e)) = escape_is 47 c refl e
escape_one c (inr (inr (inl e))) = escape_is 92 c refl e
escape_one c (inr (inr (inr (inl e)))) = escape_is 98 c refl e
escape_one c (inr (inr (inr (inr (inl e))))) = escape_is 102 c refl e
escape_one c (inr (inr (inr (inr (inr (inl e)))))) = escape_is 110 c refl e
escape_one c (inr (inr (inr (inr (inr (inr (inl e))))))) = escape_is 114 c refl e
escape_one c (inr (inr (inr (inr (inr (inr (inr e))))))) = escape_is 116 c refl e

pub escape_none : (c : ℕ) → (Escapes c → ⊥) → false ≡ is_escape c
unfolding is_escape
escape_none c f =
    rw (
      ne_eqb c 34 (λ e. f (inl e)),
      ne_eqb c 47 (λ e. f (inr (inl e))),
      ne_eqb c 92 (λ e. f (inr (inr (inl e)))),
      ne_eqb c 98 (λ e. f (inr (inr (inr (inl e))))),
      ne_eqb c 102 (λ e. f (inr (inr (inr (inr (inl e)))))),
      ne_eqb c 110 (λ e. f (inr (inr (inr (inr (inr (inl e))))))),
      ne_eqb c 114 (λ e. f (inr (inr (inr (inr (inr (inr (inl e)))))))),
      ne_eqb c 116 (λ e. f (inr (inr (inr (inr (inr (inr (inr e)))))))),
    )
    refl
