-- 1, 2 and 3 have byte 0.
use Rattle.std.proofs.Common.{sym, arith}
use Rattle.refusal.specs.Refusals.{number_of}
use Rattle.frame_fault.specs.Fault.{body_in, whole_parts}
use Rattle.frame_fault.proofs.Bodies.{no_byte, fault_at}
use Rattle.frame_fault.proofs.find_fault.Goals as goal

pub returns-in-Err : goal.returns-in-Err
returns-in-Err c =
    let b = c.args.bytes.now in
    let shut = c.in-Err.ensures in
    fault_at b shut.refuses c.from.ensures (sym (no_byte (whole_parts 68 (body_in b)) (number_of c.in-Err.why) (omega (arith, shut.early))))
