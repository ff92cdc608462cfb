-- The header's part is laid behind the body, and the frame written anew around both.
use Rattle.std.proofs.Common.{arith}
use Rattle.frame_rewrite.proofs.Renewing.{header_put}
use Rattle.frame_rewrite.proofs.put_header.Goals as goal

pub returns-then-size-buffer : goal.returns-then-size-buffer
returns-then-size-buffer c =
    header_put c.args.buffer.now c.args.header c.args.size (omega arith) (omega arith) c.write_header.ensures.out_after c.renew.ensures
