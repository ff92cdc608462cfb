use Rattle.std.proofs.Common.{arith}
use Rattle.call_specs.proofs.WalkCalls.{plays_on, reports}
use Rattle.call_step.proofs.walks.walk.Goals as goal

pub returns : goal.returns
returns c =
    plays_on (omega arith)
    (reports _ c.walk-walked.ensures c.refusal_in.ensures (omega arith) c.put_row.ensures c.frame_length.ensures c.walk_row-numbers.ensures)
