-- Laws on a table cut into its records, as arrays of one width.
use mathlib.Core.Path.{◌≡◌, refl, sym, ap, ◌∙◌}
use mathlib.Core.Bool.{Bool, true, false, ◌&&◌, not, and-true}
use mathlib.Core.List.{List, [], ◌∷◌}
use mathlib.Core.Logic.{⊎_elim}
use Prim.Native.Nat.{ℕ, zero, suc, ◌+◌, ◌*◌, ◌<◌}
use native.Mathlib.Nat.{zero-add, add-zero, suc-mul, zero-mul, not-suc-le-zero}
use native.Mathlib.Omega.{arith}
use borrow.Author.Tests.{ltb-true, ltb-false, lt-ltb, le-ltb}
use lib.Dec.{ltb}
use lib.ListN.{length, get_or, take, drop}
use lib.Seq.{drop-drop}
use Rattle.std.specs.Prelude.{Option, Some, None, cond}
use Rattle.std.specs.List.{list_all, position, position_or_len}
use Rattle.std.specs.Simd.{first_chunks}
use Rattle.bytes_number.proofs.Truth.{outcome}
use Rattle.table_records.specs.Below.{all_below}
use Rattle.table_records.specs.Records.{record_at}
use Rattle.table_records.specs.Search.{first_from}
use Rattle.table_records.proofs.Below.{all_agree}

pub length_rows : (width n : ℕ) (table : List ℕ) → length (first_chunks width n table) ≡ n
length_rows width zero table = refl
length_rows width (suc n) table = ap suc (length_rows width n (drop width table))

first_record : (width : ℕ) (table : List ℕ) → record_at width table 0 ≡ take width table
first_record width table = rw zero-mul refl

-- record i of what is left behind the first record
next_record : (width i : ℕ) (table : List ℕ) → record_at width (drop width table) i ≡ record_at width table (suc i)
next_record width i table =
    let far : width + i * width ≡ suc i * width = rw suc-mul (omega arith) in
    rw (drop-drop (i * width) width table, far) refl

pub row_at : (width n : ℕ) (table : List ℕ) (i : ℕ) (d : List ℕ) → i < n → get_or (first_chunks width n table) i d ≡ record_at width table i
row_at width zero table i d h = absurd (not-suc-le-zero h)
row_at width (suc n) table zero d h = sym (first_record width table)
row_at width (suc n) table (suc i) d h = row_at width n (drop width table) i d (omega arith) ∙ next_record width i table

-- ---- a test of every record

all_front : (p : ℕ → Bool) (n : ℕ) → all_below (suc n) p ≡ (p 0 && all_below n (λ i. p (suc i)))
unfolding all_below
all_front p zero = sym (and-true (p 0))
all_front p (suc n) = rw (all_front p n) (and_assoc (p 0) (all_below n (λ i. p (suc i))) (p (suc n)))
  where
    and_assoc : (a b c : Bool) → ((a && b) && c) ≡ (a && (b && c))
    and_assoc true b c = refl
    and_assoc false b c = refl

pub rows_all : (test : List ℕ → Bool) (width n : ℕ) (table : List ℕ) → list_all test (first_chunks width n table) ≡ all_below n (λ i. test (record_at width table i))
unfolding all_below
rows_all test width zero table = refl
rows_all test width (suc n) table =
    rw (← first_record width table)
    (ap (◌&&◌ (test (record_at width table 0)))
    (rows_all test width n (drop width table)
    ∙ all_agree (λ i. test (record_at width (drop width table) i)) (λ i. test (record_at width table (suc i))) n (λ i h. ap test (next_record width i table))))
    ∙ sym (all_front (λ i. test (record_at width table i)) n)

-- ---- the first record that passes a test

-- one thing more in front
first_more : (hit : Bool) (m n i : ℕ) {rest : Option ℕ} → cond (ltb m n) (Some (suc i + m)) None ≡ rest
    → cond (ltb (cond (not hit) (1 + m) 0) (suc n)) (Some (i + cond (not hit) (1 + m) 0)) None ≡ cond hit (Some i) rest
first_more true m n i e = rw (lt-ltb 0 (suc n) (omega arith)) (ap Some (add-zero i))
first_more false m n i e =
    ⊎_elim
    (λ t. rw (lt-ltb (1 + m) (suc n) (omega (arith, ltb-true m n t))) (ap Some (omega arith) ∙ (rw t at e)))
    (λ f. rw (le-ltb (1 + m) (suc n) (omega (arith, ltb-false m n f))) (rw f at e))
    (outcome (ltb m n))

position_is : {X : Type 0} (test : X → Bool) (d : X) (xs : List X) (p : ℕ → Bool) (i : ℕ) → ((k : ℕ) → k < length xs → test (get_or xs k d) ≡ p (i + k))
    → cond (ltb (position_or_len test xs) (length xs)) (Some (i + position_or_len test xs)) None ≡ first_from p (length xs) i
unfolding first_from
position_is test d [] p i agree = refl
position_is test d (x ∷ xs) p i agree =
    first_more (test x) (position_or_len test xs) (length xs) i
    (position_is test d xs p (suc i) (λ k h. agree (suc k) (omega arith) ∙ ap p (omega arith)))
    ∙ ap (λ (hit : Bool). cond hit (Some i) (first_from p (length xs) (suc i))) (agree 0 (omega arith) ∙ ap p (add-zero i))

pub rows_first : (test : List ℕ → Bool) (width n : ℕ) (table : List ℕ) → position test (first_chunks width n table) ≡ first_from (λ i. test (record_at width table i)) n 0
rows_first test width n table =
    let rows = first_chunks width n table in
    let p : ℕ → Bool = λ i. test (record_at width table i) in
    ap (λ (i : ℕ). cond (ltb (position_or_len test rows) (length rows)) (Some i) None) (sym (zero-add (position_or_len test rows)))
    ∙ position_is test [] rows p 0 (λ k h. ap test (row_at width n table k [] (omega (arith, length_rows width n table))) ∙ ap p (sym (zero-add k)))
    ∙ ap (λ (k : ℕ). first_from p k 0) (length_rows width n table)
