use Rattle.std.proofs.Common.{◌-◌}
use Rattle.table_records.specs.Records.{record_at}
use Rattle.table_distinct_sorted.proofs.Order.{Halved}
use Rattle.table_distinct_sorted.proofs.place.Given as goal

-- what is in front of `low` stands before record i, and what is from `high` on does not
abbrev pub invariant-loop-low : goal.invariant-loop-low
invariant-loop-low l = Halved (record_at l.width l.table) l.order l.i l.low l.high

abbrev pub decreases-loop-low : goal.decreases-loop-low
decreases-loop-low l = l.high - l.low
