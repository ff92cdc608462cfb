use Rattle.frame_fault.specs.WorkingAlike.{Alike}
use Rattle.frame_fault.proofs.alike.leading_alike.Given as goal

abbrev pub invariant-loop-n : goal.invariant-loop-n
invariant-loop-n l = Alike l.body l.n
