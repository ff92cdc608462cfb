use Rattle.std.proofs.Common.{◌≤◌}
use Rattle.table_tree_check.specs.Working.{Shallow}
use Rattle.table_tree_check.proofs.find_depths.Given as goal

-- the depths of the ranks below r are found, and none is above 16
abbrev pub invariant-loop-r : goal.invariant-loop-r
invariant-loop-r l = (l.n ≤ 1024) × Shallow l.tree l.depths l.r
