-- Laws on bytes compared.
use mathlib.Core.Path.{◌≡◌, refl, sym, ap, ◌∙◌}
use mathlib.Core.Bool.{Bool, true, false, ◌&&◌}
use mathlib.Core.List.{List, [], ◌∷◌}
use mathlib.Core.Logic.{⊎_elim}
use Prim.Native.Nat.{ℕ, suc, ◌+◌, ◌<◌}
use native.Mathlib.Numerals.{add-one}
use native.Mathlib.Omega.{arith}
use borrow.Author.Tests.{eqb-true, eqb-false, eq-eqb, ne_eqb}
use lib.Dec.{eqb}
use lib.ListN.{length, get_or, drop}
use lib.Seq.{drop-cons, drop-length}
use Rattle.table_records.specs.Bytes.{same_bytes}
use Rattle.bytes_number.proofs.Truth.{outcome, and_left as left, and_right as right}

pub same_cons : (x y : ℕ) (xs ys : List ℕ) → same_bytes (x ∷ xs) (y ∷ ys) ≡ (eqb x y && same_bytes xs ys)
unfolding same_bytes
same_cons x y xs ys = refl

pub same_refl : (xs : List ℕ) → same_bytes xs xs ≡ true
unfolding same_bytes
same_refl [] = refl
same_refl (x ∷ xs) = rw (eq-eqb x x refl, same_refl xs) refl

pub same_turned : (xs ys : List ℕ) → same_bytes xs ys ≡ same_bytes ys xs
unfolding same_bytes
same_turned [] [] = refl
same_turned [] (y ∷ ys) = refl
same_turned (x ∷ xs) [] = refl
same_turned (x ∷ xs) (y ∷ ys) = rw (eqb_turned x y, same_turned xs ys) refl
  where
    eqb_turned : (x y : ℕ) → eqb x y ≡ eqb y x
    eqb_turned x y = ⊎_elim (λ t. t ∙ sym (eq-eqb y x (sym (eqb-true x y t)))) (λ f. f ∙ sym (ne_eqb y x (λ e. eqb-false x y f (sym e)))) (outcome (eqb x y))

pub same_equal : (xs ys : List ℕ) → same_bytes xs ys ≡ true → xs ≡ ys
unfolding same_bytes
same_equal [] [] h = refl
same_equal [] (y ∷ ys) h = absurd (let z : ◌≡◌ {A = ℕ} 0 1 = cc in omega arith)
same_equal (x ∷ xs) [] h = absurd (let z : ◌≡◌ {A = ℕ} 0 1 = cc in omega arith)
same_equal (x ∷ xs) (y ∷ ys) h =
    let heads : x ≡ y = eqb-true x y (left (eqb x y) (same_bytes xs ys) h) in
    let tails : xs ≡ ys = same_equal xs ys (right (eqb x y) (same_bytes xs ys) h) in
    cc

pub same_lengths : (xs ys : List ℕ) → (length xs ≡ length ys → ⊥) → same_bytes xs ys ≡ false
unfolding same_bytes
same_lengths [] [] h = absurd (h refl)
same_lengths [] (y ∷ ys) h = refl
same_lengths (x ∷ xs) [] h = refl
same_lengths (x ∷ xs) (y ∷ ys) h = rw (same_lengths xs ys (λ e. h (ap suc e))) (and_no (eqb x y))
  where
    and_no : (b : Bool) → (b && false) ≡ false
    and_no true = refl
    and_no false = refl

-- a turn of a loop that compares: from i on, and from i + 1 on
module _ (xs ys : List ℕ) (i : ℕ) (hx : i < length xs) (hy : i < length ys) where
  pub same_at : get_or xs i 0 ≡ get_or ys i 0 → same_bytes (drop i xs) (drop i ys) ≡ same_bytes (drop (i + 1) xs) (drop (i + 1) ys)
  same_at e =
      rw (add-one, drop-cons xs i 0 hx, drop-cons ys i 0 hy, same_cons (get_or xs i 0) (get_or ys i 0) (drop (suc i) xs) (drop (suc i) ys), eq-eqb (get_or xs i 0) (get_or ys i 0) e) refl

  pub differ_at : (get_or xs i 0 ≡ get_or ys i 0 → ⊥) → same_bytes (drop i xs) (drop i ys) ≡ false
  differ_at e =
      rw (drop-cons xs i 0 hx, drop-cons ys i 0 hy, same_cons (get_or xs i 0) (get_or ys i 0) (drop (suc i) xs) (drop (suc i) ys), ne_eqb (get_or xs i 0) (get_or ys i 0) e) refl

-- both are passed
pub same_end : (xs ys : List ℕ) (i : ℕ) → length xs ≡ length ys → i ≡ length xs → same_bytes (drop i xs) (drop i ys) ≡ true
same_end xs ys i e q = rw (q, drop-length xs, e, drop-length ys) (same_refl [])
