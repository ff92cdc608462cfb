-- Laws on a test of every number below a bound.
use mathlib.Core.Path.{◌≡◌, refl, sym, ap, ◌∙◌}
use mathlib.Core.Bool.{Bool, true, false, ◌&&◌, not}
use mathlib.Core.Logic.{⊎_elim}
use Prim.Native.Nat.{ℕ, zero, suc, ◌+◌, ◌<◌}
use native.Mathlib.Nat.{le_of_suc-le-suc, not-suc-le-zero, eq-or-lt_of_le}
use native.Mathlib.Numerals.{add-one}
use native.Mathlib.Omega.{arith}
use Rattle.table_records.specs.Below.{all_below, none_twice}
use lib.Dec.{ltb}
use borrow.Author.Tests.{ltb-true, ltb-false, not-true}
use Rattle.bytes_number.proofs.Truth.{outcome, clash, and_left as left, and_right as right, and_both as both, and_left_fails as left-fails, and_right_fails as right-fails}

module _ (p : ℕ → Bool) where
  pub all_none : all_below 0 p ≡ true
  unfolding all_below
  all_none = refl

  -- a turn of a loop that counts up
  pub all_more : (n : ℕ) → all_below (n + 1) p ≡ (all_below n p && p n)
  unfolding all_below
  all_more n = rw add-one refl

  pub all_at : (n k : ℕ) → k < n → all_below n p ≡ true → p k ≡ true
  unfolding all_below
  all_at zero k h a = absurd (not-suc-le-zero h)
  all_at (suc n) k h a =
      ⊎_elim (λ e. rw e (right (all_below n p) (p n) a)) (λ l. all_at n k l (left (all_below n p) (p n) a)) (eq-or-lt_of_le (le_of_suc-le-suc h))

  pub all_of : (n : ℕ) → ((k : ℕ) → k < n → p k ≡ true) → all_below n p ≡ true
  unfolding all_below
  all_of zero f = refl
  all_of (suc n) f = both (all_of n (λ k h. f k (omega arith))) (f n (omega arith))

  pub all_fails : (n k : ℕ) → k < n → p k ≡ false → all_below n p ≡ false
  unfolding all_below
  all_fails zero k h e = absurd (not-suc-le-zero h)
  all_fails (suc n) k h e =
      ⊎_elim (λ q. right-fails (all_below n p) (rw (← q) e)) (λ l. left-fails (p n) (all_fails n k l e)) (eq-or-lt_of_le (le_of_suc-le-suc h))

-- two tests that agree below the bound
pub all_agree : (p q : ℕ → Bool) (n : ℕ) → ((k : ℕ) → k < n → p k ≡ q k) → all_below n p ≡ all_below n q
unfolding all_below
all_agree p q zero f = refl
all_agree p q (suc n) f = rw (all_agree p q n (λ k h. f k (omega arith)), f n (omega arith)) refl

-- two ways of being the same that agree on different things
pub none_agree : (p q : ℕ → ℕ → Bool) (n : ℕ) → ((i j : ℕ) → i < n → j < i → p i j ≡ q i j) → none_twice p n ≡ none_twice q n
unfolding none_twice
none_agree p q n f =
    all_agree (λ i. all_below i (λ j. not (p i j))) (λ i. all_below i (λ j. not (q i j))) n
    (λ i hi. all_agree (λ j. not (p i j)) (λ j. not (q i j)) i (λ j hj. ap not (f i j hi hj)))

-- a turn of a loop that looks whether one more is there already
module _ (same : ℕ → ℕ → Bool) where
  pub none-none : none_twice same 0 ≡ true
  unfolding none_twice
  none-none = all_none (λ i. all_below i (λ j. not (same i j)))

  pub none_more : (i : ℕ) → none_twice same i ≡ true → all_below i (λ j. not (same i j)) ≡ true → none_twice same (i + 1) ≡ true
  unfolding none_twice
  none_more i n f = all_more (λ i. all_below i (λ j. not (same i j))) i ∙ both n f

-- where none is there twice, what is the same is one and the same
pub once : (same : ℕ → ℕ → Bool) (n : ℕ) → none_twice same n ≡ true → (i j : ℕ) → i < n → j < n → same i j ≡ true → same j i ≡ true → i ≡ j
unfolding none_twice
once same n h i j hi hj p q =
    ⊎_elim
    (λ l. clash (same j i) q (differ j i hj (ltb-true i j l)))
    (λ l. ⊎_elim (λ e. sym e) (λ m. clash (same i j) p (differ i j hi m)) (eq-or-lt_of_le (ltb-false i j l)))
    (outcome (ltb i j))
  where
    differ : (i j : ℕ) → i < n → j < i → same i j ≡ false
    differ i j hi hj = not-true (same i j) (all_at (λ j. not (same i j)) i j hj (all_at (λ i. all_below i (λ j. not (same i j))) n i hi h))
