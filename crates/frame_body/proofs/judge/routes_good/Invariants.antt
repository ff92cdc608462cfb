use Rattle.frame_body.specs.WorkingJudging.{parts_found}
use Rattle.frame_body.proofs.Routing.{Routed}
use Rattle.frame_body.proofs.judge.routes_good.Given as goal

abbrev pub invariant-loop-i : goal.invariant-loop-i
invariant-loop-i l = Routed l.body (parts_found l.body) l.routes l.i
