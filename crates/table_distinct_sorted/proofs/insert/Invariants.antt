use Rattle.std.proofs.Common.{◌≤◌}
use Rattle.table_distinct_sorted.proofs.Order.{Shifted}
use Rattle.table_distinct_sorted.proofs.insert.Given as goal

-- those from j on are one place further back
abbrev pub invariant-loop-j : goal.invariant-loop-j
invariant-loop-j l = (l.at ≤ l.j) × Shifted l.fn.order l.order l.n l.j
