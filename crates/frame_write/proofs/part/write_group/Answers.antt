-- The delimiter is laid behind the routes.
use Rattle.std.proofs.Common.{refl, ℕ, List, [], ◌∷◌}
use Rattle.frame_message.specs.Frame.{joined}
use Rattle.frame_message.specs.Writing.{cut}
use Rattle.bytes_number.proofs.Laying.{lays_more, lays_rest}
use Rattle.frame_part_write.proofs.Writing.{part_laid}
use Rattle.frame_write.proofs.Parts.{group_parts}
use Rattle.frame_write.proofs.Bodies.{front_fits}
use Rattle.frame_write.proofs.part.write_group.Goals as goal

-- the data that the code gives the delimiter
abbrev delimiter : List ℕ
delimiter = []

pub write_routes-at-requires-clause-routes_in_bounds : goal.write_routes-at-requires-clause-routes_in_bounds
write_routes-at-requires-clause-routes_in_bounds c =
    front_fits (joined (cut c.args.routes.now)) (0 ∷ []) (rw (group_parts c.args.routes.now c.if-given.true) at c.requires.routes_in_bounds)

pub returns-then-given : goal.returns-then-given
returns-then-given c =
    let parts = group_parts c.args.routes.now c.if-given.true in
    let room = rw parts at c.requires.routes_in_bounds in
    rw parts
    (lays_more c.write_routes-at.ensures (part_laid {p = []} {q = delimiter} refl (lays_rest c.write_routes-at.ensures (0 ∷ []) room) (c.write_part.ensures.value, c.write_part.ensures.out_after)))
