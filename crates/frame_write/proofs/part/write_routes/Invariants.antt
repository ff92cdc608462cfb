use Rattle.frame_write.proofs.Routes.{Begun}
use Rattle.frame_write.proofs.part.write_routes.Given as goal

abbrev pub invariant-loop-route : goal.invariant-loop-route
invariant-loop-route l =
    (goal.iterator-loop-route).can_next l.route-iterator
    × (goal.iterator-loop-route).is_finite l.route-iterator
    × Begun l.routes l.fn.out l.out l.at l.route-iterator
