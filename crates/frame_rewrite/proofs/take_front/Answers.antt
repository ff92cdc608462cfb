-- What is left of the body is moved to the front, and the frame written anew around it.
use Rattle.std.proofs.Common.{arith}
use Rattle.frame_rewrite.proofs.Renewing.{front-taken}
use Rattle.frame_rewrite.proofs.take_front.Goals as goal

pub returns-then-size-buffer : goal.returns-then-size-buffer
returns-then-size-buffer c =
    front-taken c.args.buffer.now c.args.n c.args.size (omega arith) (omega arith) (omega arith) c.move_within.ensures c.renew.ensures
