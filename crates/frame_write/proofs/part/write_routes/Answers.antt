-- One route more is laid: the one that is yielded.
use Rattle.std.proofs.Common.{arith, refl}
use Rattle.frame_message.specs.Frame.{part_bytes}
use Rattle.bytes_number.proofs.Laying.{lays_rest}
use Rattle.frame_part_write.proofs.Writing.{part_laid}
use Rattle.frame_write.proofs.Routes.{next_room, next}
use Rattle.frame_write.proofs.part.write_routes.Goals as goal

pub loop-route-preserved : goal.loop-route-preserved
loop-route-preserved c =
    let b = c.loop-route.invariant.2 in
    let route = c.in-Some.route in
    let behind = c.next.new.self in
    let room = lays_rest b.lays (part_bytes route.now) (next_room b c.requires.routes_in_bounds route behind c.in-Some.ensures.steps) in
    let laid = next b c.requires.routes_in_bounds route behind c.in-Some.ensures.steps (part_laid refl room (c.write_part-at.ensures.value, c.write_part-at.ensures.out_after)) in
    (omega (arith, laid.left.size), tt, laid)
