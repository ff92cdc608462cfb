use Rattle.std.proofs.Common.{◌≤◌, length, arith}
use Rattle.call_specs.proofs.Telling.{fills_none, fills_refused, fills_counted, fills_on}
use Rattle.call_specs.proofs.WriteCalls.{write_short, write_on, write_refused, write_counted}
use Rattle.call_frame.proofs.write.Goals as goal

pub returns-then-row-lt-COUNT_RECORD : goal.returns-then-row-lt-COUNT_RECORD
returns-then-row-lt-COUNT_RECORD c = fills_none (write_short _ _ _ (omega arith)) c.from.ensures

pub returns-in-Err : goal.returns-in-Err
returns-in-Err c =
    fills_on (write_on _ _ _ (omega arith))
    (fills_refused (write_refused _ c.in-Err.refused c.in-Err.ensures.value) c.from-in-Err.ensures c.in-Err.ensures.out_after)

pub returns-in-Ok : goal.returns-in-Ok
returns-in-Ok c =
    let room : 4 ≤ length c.args.row.now = omega arith in
    fills_on (write_on _ _ _ room)
    (fills_counted (write_counted _ c.in-Ok.n c.in-Ok.ensures.value) c.in-Ok.ensures.out_after room c.put_row.ensures)
