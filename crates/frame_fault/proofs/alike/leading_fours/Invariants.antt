use Rattle.std.proofs.Common.{◌*◌}
use Rattle.frame_fault.specs.WorkingAlike.{Alike}
use Rattle.frame_fault.proofs.alike.leading_fours.Given as goal

abbrev pub invariant-loop-fours : goal.invariant-loop-fours
invariant-loop-fours l = Alike l.body (4 * l.fours)
