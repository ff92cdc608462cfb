-- The body is moved, the part laid in front of it, and the frame written anew around both.
use Rattle.std.proofs.Common.{arith}
use Rattle.frame_rewrite.proofs.Renewing.{part_put}
use Rattle.frame_rewrite.proofs.put_part.Goals as goal

pub returns-then-n-size : goal.returns-then-n-size
returns-then-n-size c =
    part_put c.args.buffer.now c.args.part.now c.args.size (omega arith) (omega arith) (omega arith) c.move_within.ensures c.write_part.ensures.out_after c.renew.ensures
