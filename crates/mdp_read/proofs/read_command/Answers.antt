-- 31 and 30, and then what is judged of the parts.
use Rattle.std.proofs.Common.{arith, ◌∙◌}
use Rattle.bytes_number.proofs.Numbers.{bytes_of_lem}
use Rattle.mdp_command.proofs.Cutting.{cut_refused, cut_counted}
use Rattle.mdp_read.proofs.Opening.{reads_long, reads_wrong, reads_counted, reads_judged}
use Rattle.mdp_read.proofs.read_command.Goals as goal

pub returns-then-bytes-gt-MOST_BYTES : goal.returns-then-bytes-gt-MOST_BYTES
returns-then-bytes-gt-MOST_BYTES c = reads_long c.args.bytes.now (omega arith)

pub judge-requires : goal.judge-requires
judge-requires c =
    let b = c.args.bytes.now in
    reads_counted b (omega arith) (bytes_of_lem b (λ i. (c.type_inv.bytes i).fits)) (cut_counted b c.in-Ok.ensures)

pub returns-in-Ok : goal.returns-in-Ok
returns-in-Ok c = c.judge.ensures ∙ reads_judged c.args.bytes.now (omega arith) (cut_counted c.args.bytes.now c.in-Ok.ensures)

pub returns-in-Err : goal.returns-in-Err
returns-in-Err c = reads_wrong c.args.bytes.now (omega arith) (cut_refused c.args.bytes.now c.in-Err.ensures)
