-- The records below i are in their chains, and none of them is there twice.
use Rattle.std.proofs.Common.{arith, sym, ◌∙◌, ◌≡◌, ◌<◌, ◌≤◌, ◌*◌, ℕ, true, false, List, length, take, replicate}
use lib.ListN.{length-replicate, get_or-replicate}
use lib.Seq.{length-take-le}
use Rattle.table_records.specs.Below.{none_twice}
use Rattle.table_records.specs.Bytes.{same_bytes}
use Rattle.table_records.specs.Records.{record_at}
use Rattle.table_records.specs.Working.{distinct, fresh}
use Rattle.table_records.proofs.Records.{front-distinct, distinct-many, distinct_short, distinct_twice, distinct_all}
use Rattle.table_distinct.specs.WorkingChains.{hash_at}
use Rattle.table_distinct.proofs.Chains.{last_le, chained_start, chained_more, start_is}
use Rattle.table_distinct.proofs.are_distinct.Goals as goal

pub returns-then-n-gt-MOST_RECORDS : goal.returns-then-n-gt-MOST_RECORDS
returns-then-n-gt-MOST_RECORDS c = sym (distinct-many c.args.width c.args.table.now c.args.n (omega arith))

pub returns-then-n-size : goal.returns-then-n-size
returns-then-n-size c = sym (distinct_short c.args.width c.args.table.now c.args.n (omega arith))

pub loop-i-init : goal.loop-i-init
loop-i-init c =
    chained_start c.args.width (take (c.args.n * c.args.width) c.args.table.now) (replicate 4096 0) (replicate 1024 0) (length-replicate {A = ℕ} 4096 0) (length-replicate {A = ℕ} 1024 0) (λ h l. get_or-replicate {A = ℕ} 4096 h 0 0 l)

-- the table has n records, and the first n * width bytes are they
module _ (width n : ℕ) (table : List ℕ) (many : n ≤ 1024) (whole : n * width ≤ length table) where
  abbrev records : List ℕ
  records = take (n * width) table

  by-themselves : n * width ≤ length records
  by-themselves = omega (arith, length-take-le (n * width) table whole)

  -- a record is equal to one before it
  met : (i : ℕ) → i < n → fresh width records i ≡ false → false ≡ distinct width table n
  met i l old = sym (sym (front-distinct width n table whole) ∙ distinct_twice width records n many by-themselves i l old)

  -- none is
  all : (i : ℕ) → i ≡ n → none_twice (λ i j. same_bytes (record_at width records i) (record_at width records j)) i ≡ true → true ≡ distinct width table n
  all i e h = sym (sym (front-distinct width n table whole) ∙ distinct_all width records n many by-themselves i e h)

pub overflow_cast-start : goal.overflow_cast-start
overflow_cast-start c =
    let records = take (c.args.n * c.args.width) c.args.table.now in
    let hashes = hash_at c.args.width records in
    let is_hash : c.hash-h.result ≡ hashes c.loop-i.i = rw (← c.record_at.ensures) c.hash-h.ensures.0 in
    let is_first = start_is c.args.width records c.loop-i.head c.loop-i.next c.loop-i.i c.hash-h.result c.loop-i.invariant is_hash c.hash-h.ensures.1 in
    record { fits = omega (arith, is_first, last_le hashes c.loop-i.i (hashes c.loop-i.i)) }

pub returns-in-Twice : goal.returns-in-Twice
returns-in-Twice c =
    met c.args.width c.args.n c.args.table.now (omega arith) (omega arith) c.loop-i.i (omega arith) c.in-Twice.ensures

pub loop-i-preserved : goal.loop-i-preserved
loop-i-preserved c =
    let records = take (c.args.n * c.args.width) c.args.table.now in
    let is_hash : c.hash-h.result ≡ hash_at c.args.width records c.loop-i.i = rw (← c.record_at.ensures) c.hash-h.ensures.0 in
    chained_more c.args.width records c.loop-i.head c.loop-i.next c.loop-i.i c.hash-h.result c.loop-i.invariant _ (omega arith) (omega arith) is_hash c.hash-h.ensures.1 c.in-New.ensures

pub returns : goal.returns
returns c = all c.args.width c.args.n c.args.table.now (omega arith) (omega arith) c.loop-i.i (omega arith) c.loop-i.invariant.none
