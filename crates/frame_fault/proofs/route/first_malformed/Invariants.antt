use Rattle.frame_body.specs.WorkingJudging.{parts_found}
use Rattle.frame_fault.proofs.Routes.{Passes}
use Rattle.frame_fault.proofs.route.first_malformed.Given as goal

abbrev pub invariant-loop-known : goal.invariant-loop-known
invariant-loop-known l = Passes l.body (parts_found l.body) l.known

abbrev pub invariant-loop-n : goal.invariant-loop-n
invariant-loop-n l = Passes l.body (parts_found l.body) l.n
