-- Laws on the first number that passes a test.
use mathlib.Core.Path.{◌≡◌, refl, ap, ◌∙◌}
use mathlib.Core.Bool.{Bool, true, false}
use mathlib.Core.Logic.{◌⊎◌, inl, inr, ⊎_elim}
use Prim.Native.Nat.{ℕ, zero, suc, ◌+◌, ◌-◌, ◌<◌, ◌≤◌}
use native.Mathlib.Nat.{eq-or-lt_of_le}
use native.Mathlib.Numerals.{add-one}
use native.Mathlib.Omega.{arith}
use Rattle.std.specs.Prelude.{Option, Some, None}
use Rattle.table_records.specs.Search.{first_from, first_of}
use Rattle.bytes_number.proofs.Truth.{outcome, clash}

module _ (p : ℕ → Bool) where
  -- ---- a turn of a loop that searches n numbers, at i

  module _ (n i : ℕ) (h : i < n) where
    one_left : n - i ≡ suc (n - (i + 1))
    one_left = omega arith

    pub first_hit : p i ≡ true → first_from p (n - i) i ≡ Some i
    unfolding first_from
    first_hit e = rw (one_left, e) refl

    pub first_miss : p i ≡ false → first_from p (n - i) i ≡ first_from p (n - (i + 1)) (i + 1)
    unfolding first_from
    first_miss e = rw (one_left, e, add-one i) refl

  pub first_end : (n i : ℕ) → i ≡ n → first_from p (n - i) i ≡ None
  unfolding first_from
  first_end n i e =
      let none : n - i ≡ 0 = omega arith in
      rw none refl

  -- ---- what is found passes, and where nothing is found nothing passes

  pub first_passes : (left i k : ℕ) → first_from p left i ≡ Some k → (k < i + left) × (p k ≡ true)
  unfolding first_from
  first_passes zero i k e = absurd (let z : ◌≡◌ {A = ℕ} 0 1 = cc in omega arith)
  first_passes (suc left) i k e =
      ⊎_elim
      (λ t.
      let here : Some i ≡ Some k = rw t at e in
      let same : i ≡ k = cc in
      (omega arith, rw (← same) t))
      (λ f.
      let later = first_passes left (suc i) k (rw f at e) in
      (omega (arith, later.0), later.1))
      (outcome (p i))

  pub none_passes : (left i : ℕ) → first_from p left i ≡ None → (k : ℕ) → i ≤ k → k < i + left → p k ≡ false
  unfolding first_from
  none_passes zero i e k l h = absurd (omega arith)
  none_passes (suc left) i e k l h =
      ⊎_elim
      (λ t.
      let here : Some i ≡ None = rw t at e in
      absurd (let z : ◌≡◌ {A = ℕ} 0 1 = cc in omega arith))
      (λ f. ⊎_elim (λ q. rw (← q) f) (λ q. none_passes left (suc i) (rw f at e) k q (omega arith)) (eq-or-lt_of_le l))
      (outcome (p i))

  -- a test that agrees with it finds the same
  pub first_agree : (q : ℕ → Bool) (left i : ℕ) → ((k : ℕ) → k < i + left → p k ≡ q k) → first_from p left i ≡ first_from q left i
  unfolding first_from
  first_agree q zero i f = refl
  first_agree q (suc left) i f = rw (f i (omega arith), first_agree q left (suc i) (λ k l. f k (omega arith))) refl

  -- something is found, or nothing
  found_cases : (f : Option ℕ) → ((i : ℕ) × (f ≡ Some i)) ⊎ (f ≡ None)
  found_cases (Some i) = inl (i, refl)
  found_cases None = inr refl

  -- the one number that passes is found
  pub first_only : (n i : ℕ) → i < n → p i ≡ true → ((k : ℕ) → k < n → p k ≡ true → k ≡ i) → first_of p n ≡ Some i
  first_only n i h t only =
      ⊎_elim
      (λ f.
      let found = first_passes n 0 f.0 f.1 in
      let one = only f.0 (omega (arith, found.0)) found.1 in
      f.1 ∙ ap Some one)
      (λ f. clash (p i) t (none_passes n 0 f i (omega arith) (omega arith)))
      (found_cases (first_of p n))
