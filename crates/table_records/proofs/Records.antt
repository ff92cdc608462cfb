-- Laws on records of one width.
use mathlib.Core.Path.{◌≡◌, refl, sym, ap, ap₂, ◌∙◌}
use mathlib.Core.Bool.{true, false, ◌&&◌}
use mathlib.Core.List.{List, [], ◌∷◌}
use Prim.Native.Nat.{ℕ, zero, suc, ◌+◌, ◌*◌, ◌-◌, ◌/◌, ◌<◌, ◌≤◌}
use native.Mathlib.Nat.{zero-add, suc-add, mul-le-mul_right, suc-mul, le_trans, div-mul-le_self, lt-div-mul-add}
use native.Mathlib.Omega.{arith}
use lib.ListN.{length, take, drop, length-take, length-drop, drop_of_length-le}
use lib.Seq.{take_all, take-nil, take-take, length-take-le, get_or-take}
use lib.Dec.{leb}
use borrow.Author.Tests.{le-leb, lt-leb}
use Rattle.bytes_number.specs.Number.{number}
use Rattle.table_records.specs.Below.{none_twice}
use Rattle.table_records.specs.Bytes.{same_bytes}
use Rattle.table_records.specs.Records.{record_at}
use Rattle.table_records.specs.Working.{distinct, fresh}
use Rattle.bytes_number.proofs.Truth.{and_right_fails as right-fails}
use Rattle.table_records.proofs.Below.{all_fails, none_agree}

-- a record below the count ends within the records, and within a table that has them
record_ends : (width n i : ℕ) → i < n → i * width + width ≤ n * width
record_ends width n i h = rw (← suc-mul i width) (mul-le-mul_right width h)

pub record_fits : (width n i : ℕ) (table : List ℕ) → i < n → n * width ≤ length table → i * width + width ≤ length table
record_fits width n i table h fits = le_trans (record_ends width n i h) fits

pub length_record : (width i : ℕ) (table : List ℕ) → i * width + width ≤ length table → length (record_at width table i) ≡ width
length_record width i table h = simp (length-take, length-drop) (omega arith)

-- ---- record i by where it lies: whole, cut off at the table's end, or behind it

pub cut_out : (width at : ℕ) (table : List ℕ) → take (at + width - at) (drop at table) ≡ take width (drop at table)
cut_out width at table =
    let size : at + width - at ≡ width = omega arith in
    rw size refl

module _ (width i : ℕ) (table : List ℕ) where
  pub whole_record : i < length table / width → i * width + width ≤ length table
  whole_record h = record_fits width (length table / width) i table h (div-mul-le_self (length table) width)

  pub cut_starts : i ≡ length table / width → i * width ≤ length table
  cut_starts last = rw last (div-mul-le_self (length table) width)

  module _ (some : (width ≡ 0 → ⊥)) where
    past : length table < length table / width * width + width
    past = lt-div-mul-add {a = length table} {b = width} (omega arith)

    pub cut_record : i ≡ length table / width → take (length table - i * width) (drop (i * width) table) ≡ record_at width table i
    cut_record last =
        let short : length (drop (i * width) table) ≤ width = rw last (omega (arith, length-drop (length table / width * width) table, past)) in
        take_all (length table - i * width) (drop (i * width) table) (omega (arith, length-drop (i * width) table)) ∙ sym (take_all width (drop (i * width) table) short)

    pub no_record : length table / width < i → [] ≡ record_at width table i
    no_record h =
        let behind : length table ≤ i * width = omega (arith, past, rw suc-mul at (mul-le-mul_right width h)) in
        sym (ap (take width) (drop_of_length-le table {i = i * width} behind) ∙ take-nil width)

-- what is cut off behind four bytes does not matter to the number in front
pub number-take : (n : ℕ) (xs : List ℕ) → 4 ≤ n → number (take n xs) ≡ number xs
number-take n xs h =
    rw (get_or-take n xs 0 0 (omega arith), get_or-take n xs 1 0 (omega arith), get_or-take n xs 2 0 (omega arith), get_or-take n xs 3 0 (omega arith)) refl

-- ---- the first n records by themselves

drop-take : (m n : ℕ) (xs : List ℕ) → drop m (take (m + n) xs) ≡ take n (drop m xs)
drop-take zero n xs = rw zero-add refl
drop-take (suc m) n [] = rw (take-nil (suc m + n)) (sym (take-nil n))
drop-take (suc m) n (x ∷ xs) = rw suc-add (drop-take m n xs)

module _ (width n : ℕ) (table : List ℕ) where
  pub front_record : (i : ℕ) → i < n → record_at width (take (n * width) table) i ≡ record_at width table i
  front_record i h =
      let fits = record_ends width n i h in
      let parted : n * width ≡ i * width + (n * width - i * width) = omega arith in
      rw (parted, drop-take (i * width) (n * width - i * width) table) (take-take width (n * width - i * width) (drop (i * width) table) (omega arith))

  pub front-distinct : n * width ≤ length table → distinct width (take (n * width) table) n ≡ distinct width table n
  unfolding distinct
  front-distinct whole =
      rw (length-take-le (n * width) table whole, le-leb (n * width) (n * width) (omega arith), le-leb (n * width) (length table) whole)
      (ap (◌&&◌ (leb n 1024))
      (none_agree (λ i j. same_bytes (record_at width (take (n * width) table) i) (record_at width (take (n * width) table) j)) (λ i j. same_bytes (record_at width table i) (record_at width table j)) n
      (λ i j hi hj. ap₂ same_bytes (front_record i hi) (front_record j (omega arith)))))

-- ---- `distinct` by its cases, in its order

module _ (width : ℕ) (table : List ℕ) (n : ℕ) where
  pub distinct-many : 1024 < n → distinct width table n ≡ false
  unfolding distinct
  distinct-many h = simp (lt-leb _ _ h)

  pub distinct_short : length table < n * width → distinct width table n ≡ false
  unfolding distinct
  distinct_short h = simp (lt-leb _ _ h) (right-fails (leb n 1024) refl)

  module _ (few : n ≤ 1024) (whole : n * width ≤ length table) where
    pub distinct_rest : distinct width table n ≡ none_twice (λ i j. same_bytes (record_at width table i) (record_at width table j)) n
    unfolding distinct
    distinct_rest = simp (le-leb _ _ few, le-leb _ _ whole)

    pub distinct_twice : (i : ℕ) → i < n → fresh width table i ≡ false → distinct width table n ≡ false
    unfolding none_twice
    distinct_twice i l f = distinct_rest ∙ all_fails (fresh width table) n i l f

    pub distinct_all : (i : ℕ) → i ≡ n → none_twice (λ i j. same_bytes (record_at width table i) (record_at width table j)) i ≡ true → distinct width table n ≡ true
    distinct_all i e h = distinct_rest ∙ rw e at h
