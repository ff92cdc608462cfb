use Rattle.std.proofs.Common.{◌-◌}
use Rattle.frame_parts.proofs.Passing.{Passed}
use Rattle.frame_parts.proofs.count_parts.Given as goal

abbrev pub invariant-loop-at : goal.invariant-loop-at
invariant-loop-at l = Passed l.most l.body l.at l.counts

abbrev pub decreases-loop-at : goal.decreases-loop-at
decreases-loop-at l = l.most - l.counts.count
