-- How many bytes stand behind a first byte, by where that lies; and where the second of them lies.
use mathlib.Core.Path.{◌≡◌, refl, sym, ap}
use mathlib.Core.Bool.{Bool, true, false, cond}
use mathlib.Core.List.{List, [], ◌∷◌}
use Prim.Native.Nat.{ℕ, ◌-◌, ◌<◌, ◌≤◌}
use native.Mathlib.Omega.{arith}
use borrow.Author.Tests.{ne_eqb}
use lib.Dec.{eqb}
use lib.ListN.{length, replicate}
use Rattle.json_scan.proofs.Bytes.{within, below, above}
use Rattle.json_scan.specs.Scan.{is_within, Class, tail, tail_E0, tail_ED, tail_F0, tail_F4, holds, second_of, tails_of}

pub two_bytes_lem : (c : ℕ) → 194 ≤ c → c ≤ 223 → length (tails_of c) ≡ 1
unfolding tails_of
two_bytes_lem c l m = rw (within 194 223 c l m) refl

pub three_bytes_lem : (c : ℕ) → 224 ≤ c → c ≤ 239 → length (tails_of c) ≡ 2
unfolding tails_of
three_bytes_lem c l m = rw (above 194 223 c (omega arith), within 224 239 c l m) refl

pub four_bytes_lem : (c : ℕ) → 240 ≤ c → c ≤ 244 → length (tails_of c) ≡ 3
unfolding tails_of
four_bytes_lem c l m = rw (above 194 223 c (omega arith), above 224 239 c (omega arith), within 240 244 c l m) refl

pub no_lead_below : (c : ℕ) → c < 194 → length (tails_of c) ≡ 0
unfolding tails_of
no_lead_below c l = rw (below 194 223 c (omega arith), below 224 239 c (omega arith), below 240 244 c (omega arith)) refl

pub no_lead_above : (c : ℕ) → 244 < c → length (tails_of c) ≡ 0
unfolding tails_of
no_lead_above c l = rw (above 194 223 c (omega arith), above 224 239 c (omega arith), above 240 244 c (omega arith)) refl

-- the second byte first, and then tails
pub second_first : (c : ℕ) → 0 < length (tails_of c) → tails_of c ≡ second_of c ∷ replicate (length (tails_of c) - 1) tail
unfolding tails_of
second_first c l = go (is_within 194 223 c) (is_within 224 239 c) (is_within 240 244 c) l
  where
    go :
        (t u v : Bool) → let ks : List Class = cond t (second_of c ∷ []) (cond u (second_of c ∷ tail ∷ []) (cond v (second_of c ∷ tail ∷ tail ∷ []) [])) in
        0 < length ks → ks ≡ second_of c ∷ replicate (length ks - 1) tail
    go true u v l = refl
    go false true v l = refl
    go false false true l = refl
    go false false false l = absurd (omega arith)

-- none come behind a byte that is no such first one
pub no_tails : (ks : List Class) → length ks ≡ 0 → ks ≡ []
no_tails [] e = refl
no_tails (k ∷ ks) e = absurd (omega arith)

-- a tail lies between 80 and BF
pub tail_within : (c : ℕ) → holds tail c ≡ is_within 128 191 c
unfolding holds
tail_within c = refl

-- what the second byte is, by a first one that has a class of its own, and by any other
module _ (c lead : ℕ) where
  abbrev Second : ℕ → ℕ → Type 0
  Second l h = is_within l h c ≡ holds (second_of lead) c

  pub second_E0 : lead ≡ 224 → Second 160 191
  unfolding second_of holds
  second_E0 e = ap (λ (x : ℕ). holds (second_of x) c) (sym e)

  pub second_ED : lead ≡ 237 → Second 128 159
  unfolding second_of holds
  second_ED e = ap (λ (x : ℕ). holds (second_of x) c) (sym e)

  pub second_F0 : lead ≡ 240 → Second 144 191
  unfolding second_of holds
  second_F0 e = ap (λ (x : ℕ). holds (second_of x) c) (sym e)

  pub second_F4 : lead ≡ 244 → Second 128 143
  unfolding second_of holds
  second_F4 e = ap (λ (x : ℕ). holds (second_of x) c) (sym e)

  pub second_other : (lead ≡ 224 → ⊥) → (lead ≡ 237 → ⊥) → (lead ≡ 240 → ⊥) → (lead ≡ 244 → ⊥) → holds tail c ≡ holds (second_of lead) c
  unfolding second_of
  second_other p q r s = rw (ne_eqb lead 224 p, ne_eqb lead 237 q, ne_eqb lead 240 r, ne_eqb lead 244 s) refl

-- a zero is neither
pub tail_no_zero : holds tail 0 ≡ false
unfolding holds is_within
tail_no_zero = refl

pub second_no_zero : (lead : ℕ) → holds (second_of lead) 0 ≡ false
unfolding second_of holds is_within
second_no_zero lead = go (eqb lead 224) (eqb lead 237) (eqb lead 240) (eqb lead 244)
  where
    go : (a b c d : Bool) → holds (cond a tail_E0 (cond b tail_ED (cond c tail_F0 (cond d tail_F4 tail)))) 0 ≡ false
    go true b c d = refl
    go false true c d = refl
    go false false true d = refl
    go false false false true = refl
    go false false false false = refl
