-- White space, the zero byte, and nothing behind it.
use Rattle.std.proofs.Common.{arith}
use Rattle.json_check.proofs.Outer.{ends_over, ends_wrong, ends_more, ends_here}
use Rattle.json_check.proofs.payload_end.Goals as goal

pub returns-then-end-bytes : goal.returns-then-end-bytes
returns-then-end-bytes c = λ most. ends_over most c.args.bytes.now c.args.at c.white_end-end.result c.white_end-end.ensures (omega arith)

pub returns-then-bytes-end-ne0 : goal.returns-then-bytes-end-ne0
returns-then-bytes-end-ne0 c = λ most. ends_wrong most c.args.bytes.now c.args.at c.white_end-end.result c.white_end-end.ensures (omega arith) (λ e. omega (arith, e))

pub returns-then-next-bytes : goal.returns-then-next-bytes
returns-then-next-bytes c = λ most. ends_more most c.args.bytes.now c.args.at c.white_end-end.result c.white_end-end.ensures (omega arith) (omega arith)

pub returns-else-next-bytes : goal.returns-else-next-bytes
returns-else-next-bytes c = λ most. ends_here most c.args.bytes.now c.args.at c.white_end-end.result c.white_end-end.ensures (omega arith) (omega arith) (omega arith)
