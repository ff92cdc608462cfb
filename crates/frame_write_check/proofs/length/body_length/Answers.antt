-- What each part takes is added up.
use Rattle.std.proofs.Common.{sym}
use Rattle.frame_write_check.proofs.Bodies.{body_length_lem}
use Rattle.frame_write_check.proofs.length.body_length.Goals as goal

pub returns : goal.returns
returns c =
    rw (c.group_length-group.ensures, c.part_length-topic.ensures, c.part_length-payload.ensures)
    (sym (body_length_lem c.args.draft.now c.has_route.ensures c.has_topic.ensures c.has_payload.ensures c.requires.routes_len_bound.1))
