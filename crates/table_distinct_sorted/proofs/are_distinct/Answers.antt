-- The records below i are in order, and none of them is there twice.
use Rattle.std.proofs.Common.{arith, refl, sym, ◌∙◌, ◌≡◌, ◌<◌, ◌≤◌, ◌*◌, ℕ, true, false, not, List, length, get_or, take}
use lib.ListN.{length-replicate}
use lib.Seq.{length-take-le}
use Rattle.table_records.specs.Below.{none_twice}
use Rattle.table_records.specs.Bytes.{same_bytes}
use Rattle.table_records.specs.Records.{record_at}
use Rattle.table_records.specs.Working.{distinct}
use Rattle.table_records.proofs.Below.{none-none, none_more, all_fails}
use Rattle.table_records.proofs.Records.{front-distinct, distinct-many, distinct_short, distinct_twice, distinct_all}
use Rattle.table_distinct_sorted.proofs.Order.{ordered_none, ordered_more, differs_all}
use Rattle.table_distinct_sorted.proofs.are_distinct.Goals as goal
use Rattle.table_distinct_sorted.proofs.are_distinct.Goals.{then-at-i+else-eq, else-at-i}

pub returns-then-n-gt-MOST_RECORDS : goal.returns-then-n-gt-MOST_RECORDS
returns-then-n-gt-MOST_RECORDS c = sym (distinct-many c.args.width c.args.table.now c.args.n (omega arith))

pub returns-then-n-width : goal.returns-then-n-width
returns-then-n-width c = sym (distinct_short c.args.width c.args.table.now c.args.n (omega arith))

pub loop-i-init : goal.loop-i-init
loop-i-init c = (length-replicate {A = ℕ} 1024 0, ordered_none _ _, none-none _)

-- the table has n records, and the first n * width bytes are they
module _ (width n : ℕ) (table : List ℕ) (many : n ≤ 1024) (whole : n * width ≤ length table) where
  abbrev records : List ℕ
  records = take (n * width) table

  abbrev thing : ℕ → List ℕ
  thing = record_at width records

  by-themselves : n * width ≤ length records
  by-themselves = omega (arith, length-take-le (n * width) table whole)

  -- a record is equal to one before it
  met : (i j : ℕ) → i < n → j < i → same_bytes (thing i) (thing j) ≡ true → false ≡ distinct width table n
  met i j l m equal =
      sym (sym (front-distinct width n table whole) ∙ distinct_twice width records n many by-themselves i l
      (all_fails (λ k. not (same_bytes (thing i) (thing k))) i j m (rw equal refl)))

  -- none is
  all : (i : ℕ) → i ≡ n → none_twice (λ i j. same_bytes (thing i) (thing j)) i ≡ true → true ≡ distinct width table n
  all i e h = sym (sym (front-distinct width n table whole) ∙ distinct_all width records n many by-themselves i e h)

pub returns-then-eq : goal.returns-then-eq
unfolding same_bytes
returns-then-eq c =
    let j = get_or c.loop-i.order c.place-at.result 0 in
    let records = take (c.args.n * c.args.width) c.args.table.now in
    let equal : same_bytes (record_at c.args.width records c.loop-i.i) (record_at c.args.width records j) ≡ true =
    rw (← c.record_at.ensures, ← c.record_at-then-at-i.ensures) (sym c.eq.ensures ∙ c.if-eq.true) in
    met c.args.width c.args.n c.args.table.now (omega arith) (omega arith) c.loop-i.i j (omega arith) (c.loop-i.invariant.1.known c.place-at.result (omega arith)) equal

pub loop-i-preserved : goal.loop-i-preserved
unfolding same_bytes
loop-i-preserved c =
    let records = take (c.args.n * c.args.width) c.args.table.now in
    let thing = record_at c.args.width records in
    let j = get_or c.loop-i.order c.place-at.result 0 in
    let differ : c.place-at.result < c.loop-i.i → same_bytes (thing c.loop-i.i) (thing j) ≡ false =
    λ l. elim c.if-at-i.branch [
      | then-at-i+else-eq w ↦ rw (← w.record_at.ensures, ← w.record_at-then-at-i.ensures) (sym w.eq.ensures ∙ w.if-eq.false)
      | else-at-i w ↦ absurd (omega (arith, w.if-at-i.false))
    ] in (
      c.insert.ensures.long ∙ c.loop-i.invariant.0,
      ordered_more thing c.loop-i.order c.loop-i.i c.place-at.result c.loop-i.invariant.1 c.place-at.ensures c.insert.new.order c.insert.ensures differ,
      none_more (λ i j. same_bytes (thing i) (thing j)) c.loop-i.i c.loop-i.invariant.2 (differs_all thing c.loop-i.order c.loop-i.i c.place-at.result c.loop-i.invariant.1 c.place-at.ensures differ),
    )

pub returns : goal.returns
returns c = all c.args.width c.args.n c.args.table.now (omega arith) (omega arith) c.loop-i.i (omega arith) c.loop-i.invariant.2
