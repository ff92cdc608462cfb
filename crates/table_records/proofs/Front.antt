-- Laws on what two slices begin with.
use mathlib.Core.Path.{◌≡◌, refl, sym, ap, ◌∙◌}
use mathlib.Core.Bool.{Bool, false}
use mathlib.Core.List.{List, [], ◌∷◌}
use mathlib.Core.Logic.{⊎_elim}
use Prim.Native.Nat.{ℕ, zero, suc, ◌+◌, ◌*◌, ◌-◌, ◌/◌, ◌<◌, ◌≤◌}
use native.Mathlib.Nat.{le_of_suc-le-suc, not-suc-le-zero, sub-zero, zero-add}
use native.Mathlib.Omega.{arith}
use borrow.Author.Tests.{eq-eqb}
use lib.ListN.{length, take, drop, length-take, length-drop}
use lib.Seq.{take-add, drop-drop}
use Rattle.std.specs.List.{zip, prefix_len}
use Rattle.std.specs.Simd.{first_chunks}
use Rattle.bytes_number.specs.Number.{number, four, Bytes}
use Rattle.bytes_number.proofs.Numbers.{four-number, bytes_drop}
use Rattle.bytes_number.proofs.Truth.{outcome}
use Rattle.table_records.specs.Bytes.{same_bytes}
use Rattle.table_records.specs.Working.{equal_fours, equal_in_fours, EqualFront}
use Rattle.table_records.proofs.Bytes.{same_cons, same_refl, same_equal, same_lengths}
use Rattle.table_records.proofs.Records.{number-take}

-- what both begin with does not matter
pub same_front : (n : ℕ) (xs ys : List ℕ) → n ≤ length xs → n ≤ length ys → take n xs ≡ take n ys → same_bytes (drop n xs) (drop n ys) ≡ same_bytes xs ys
same_front zero xs ys hx hy e = refl
same_front (suc n) [] ys hx hy e = absurd (not-suc-le-zero hx)
same_front (suc n) (x ∷ xs) [] hx hy e = absurd (not-suc-le-zero hy)
same_front (suc n) (x ∷ xs) (y ∷ ys) hx hy e =
    let heads : x ≡ y = cc in
    let tails : take n xs ≡ take n ys = cc in
    same_front n xs ys (le_of_suc-le-suc hx) (le_of_suc-le-suc hy) tails ∙ sym (same_cons x y xs ys ∙ rw (eq-eqb x y heads) refl)

-- ---- the bytes that are counted are equal

-- four equal bytes more
front-four : (a b : List ℕ) (n : ℕ) → 4 ≤ length a → take 4 a ≡ take 4 b → EqualFront (drop 4 a) (drop 4 b) n → EqualFront a b (4 + n)
front-four a b n h e f =
    let long : 4 ≤ length b = omega (arith, length-take 4 a, length-take 4 b, ap length e) in
    record {
      fits = omega (arith, f.fits, length-drop 4 a);
      fits_other = omega (arith, f.fits_other, length-drop 4 b);
      equal = rw (take-add 4 n a, take-add 4 n b, e, f.equal) refl;
    }

front_counted : (n : ℕ) (a b : List ℕ) → n * 4 ≤ length a → EqualFront a b (equal_fours n a b)
unfolding equal_fours
front_counted zero a b h = record { fits = omega arith; fits_other = omega arith; equal = refl }
front_counted (suc n) a b h =
    ⊎_elim
    (λ t. rw t (front-four a b (equal_fours n (drop 4 a) (drop 4 b)) (omega arith) (same_equal (take 4 a) (take 4 b) t) (front_counted n (drop 4 a) (drop 4 b) (omega (arith, length-drop 4 a)))))
    (λ f. rw f (record { fits = omega arith; fits_other = omega arith; equal = refl }))
    (outcome (same_bytes (take 4 a) (take 4 b)))

pub front_is : (a b : List ℕ) {n : ℕ} → n ≡ equal_in_fours a b → EqualFront a b n
front_is a b e = rw e (front_counted (length a / 4) a b (omega arith))

-- ---- a turn of the loop that counts: what is counted from i on

abbrev pub fours_from : List ℕ → List ℕ → ℕ → ℕ
fours_from a b i = equal_fours ((length a - i) / 4) (drop i a) (drop i b)

pub fours_start : (a b : List ℕ) → 0 + fours_from a b 0 ≡ equal_in_fours a b
fours_start a b = rw (zero-add, sub-zero) refl

module _ (a b : List ℕ) (i : ℕ) where
  -- less than a group is left
  pub fours_end : i ≤ length a → length a < i + 4 → fours_from a b i ≡ 0
  unfolding equal_fours
  fours_end l h =
      let none : (length a - i) / 4 ≡ 0 = omega arith in
      rw none refl

  module _ (long : i + 4 ≤ length a) where
    one_left : (length a - i) / 4 ≡ suc ((length a - (i + 4)) / 4)
    one_left = omega arith

    -- the next group differs
    fours_differ : same_bytes (take 4 (drop i a)) (take 4 (drop i b)) ≡ false → fours_from a b i ≡ 0
    unfolding equal_fours
    fours_differ f = rw (one_left, f) refl

    -- b ends within it
    pub fours_short : length b < i + 4 → fours_from a b i ≡ 0
    fours_short h =
        fours_differ
        (same_lengths (take 4 (drop i a)) (take 4 (drop i b))
        (λ e. absurd (omega (arith, simp (length-take, length-drop) at e))))

    module _ (other : i + 4 ≤ length b) (bytes : Bytes a) (bytes-other : Bytes b) where
      group : four (number (drop i a)) ≡ take 4 (drop i a)
      group = four-number (drop i a) (simp length-drop (omega arith)) (bytes_drop i a bytes)

      group_other : four (number (drop i b)) ≡ take 4 (drop i b)
      group_other = four-number (drop i b) (simp length-drop (omega arith)) (bytes_drop i b bytes-other)

      -- its numbers differ
      pub fours_stop : (number (drop i a) ≡ number (drop i b) → ⊥) → fours_from a b i ≡ 0
      fours_stop n =
          ⊎_elim
          (λ t.
          let same = same_equal (take 4 (drop i a)) (take 4 (drop i b)) t in
          absurd (n (sym (number-take 4 (drop i a) (omega arith)) ∙ ap number same ∙ number-take 4 (drop i b) (omega arith))))
          (λ f. fours_differ f)
          (outcome (same_bytes (take 4 (drop i a)) (take 4 (drop i b))))

      -- they are equal, and so is the group
      pub fours_more : number (drop i a) ≡ number (drop i b) → fours_from a b i ≡ 4 + fours_from a b (i + 4)
      unfolding equal_fours
      fours_more e =
          let same : take 4 (drop i a) ≡ take 4 (drop i b) = sym group ∙ ap four e ∙ group_other in
          rw (one_left, same, same_refl (take 4 (drop i b)), drop-drop 4 i a, drop-drop 4 i b) refl

-- ---- the pairs of groups

abbrev pub are_same : List ℕ × List ℕ → Bool
are_same pair = same_bytes pair.0 pair.1

-- of n groups and m the equal ones in front, counted in fours
pub groups_front : (n m : ℕ) (a b : List ℕ) → n * 4 ≤ length a → m ≡ length b / 4 → 4 * prefix_len are_same (zip (first_chunks 4 n a) (first_chunks 4 m b)) ≡ equal_fours n a b
unfolding equal_fours
groups_front zero m a b h e = refl
groups_front (suc n) zero a b h e =
    rw (same_lengths (take 4 a) (take 4 b) (λ q. absurd (omega (arith, simp length-take at q)))) refl
groups_front (suc n) (suc m) a b h e =
    let rest = groups_front n m (drop 4 a) (drop 4 b) (omega (arith, length-drop 4 a)) (omega (arith, length-drop 4 b)) in
    ⊎_elim
    (λ t. rw t (omega (arith, rest)))
    (λ f. rw f refl)
    (outcome (same_bytes (take 4 a) (take 4 b)))
