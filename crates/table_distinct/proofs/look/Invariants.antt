use Rattle.table_distinct.proofs.Chains.{Among}
use Rattle.table_distinct.proofs.look.Given as goal

-- what was passed on the chain differs, and what is not on the chain differs too
abbrev pub invariant-loop-at : goal.invariant-loop-at
invariant-loop-at l = Among l.width l.table l.i l.at

abbrev pub decreases-loop-at : goal.decreases-loop-at
decreases-loop-at l = l.at
