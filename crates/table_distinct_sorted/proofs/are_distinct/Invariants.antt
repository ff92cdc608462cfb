use Rattle.std.proofs.Common.{◌≡◌, length, true}
use Rattle.table_records.specs.Below.{none_twice}
use Rattle.table_records.specs.Bytes.{same_bytes}
use Rattle.table_records.specs.Records.{record_at}
use Rattle.table_distinct_sorted.specs.WorkingOrder.{Ordered}
use Rattle.table_distinct_sorted.proofs.are_distinct.Given as goal

-- the records below i are in order, and none of them is there twice
abbrev pub invariant-loop-i : goal.invariant-loop-i
invariant-loop-i l = (length l.order ≡ 1024) × Ordered (record_at l.width l.records) l.order l.i × (none_twice (λ i j. same_bytes (record_at l.width l.records i) (record_at l.width l.records j)) l.i ≡ true)
