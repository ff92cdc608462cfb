use Rattle.std.proofs.Common.{◌≤◌, length, arith}
use Rattle.call_specs.proofs.Telling.{lists_refused, lists_answered}
use Rattle.call_specs.proofs.ReadCalls.{read_short, read_refused, read_accepted}
use Rattle.call_frame.proofs.read.Goals as goal

pub returns-then-row-lt-READ_RECORD : goal.returns-then-row-lt-READ_RECORD
returns-then-row-lt-READ_RECORD c = lists_refused (read_short c.args.bytes.now _ (omega arith)) c.from.ensures

pub returns-in-Err : goal.returns-in-Err
returns-in-Err c =
    lists_refused (read_refused c.args.bytes.now _ (omega arith) c.in-Err.why c.in-Err.ensures) c.from-in-Err.ensures

pub returns-in-Ok : goal.returns-in-Ok
returns-in-Ok c =
    let room : 52 ≤ length c.args.row.now = omega arith in
    lists_answered (read_accepted c.args.bytes.now _ room c.in-Ok.f c.in-Ok.ensures) room c.put_frame.ensures
