-- `call_mdp::write_command` meets its contract: by the law of each way that it ends.
use Rattle.std.proofs.Common.{length}
use Rattle.mdp_command.specs.CommandWriting.{given_of, command_into}
use Rattle.call_specs.proofs.Telling.{fills_none, fills_refused, fills_counted, fills_on}
use Rattle.call_specs.proofs.WriteCalls.{write_refused, write_counted}
use Rattle.call_specs.proofs.CommandCalls.{given_short, given_on}
use Rattle.call_mdp.proofs.write_command.Goals as goal

pub returns-then-row-lt-COUNT_RECORD : goal.returns-then-row-lt-COUNT_RECORD
returns-then-row-lt-COUNT_RECORD c =
    let s = c.args in
    let g = given_of s.sender s.code s.name.now s.address.now s.body.now in
    fills_none (given_short g (length s.out.now) (length s.row.now) c.if-row-lt-COUNT_RECORD.true) c.from.ensures

pub returns-in-Err : goal.returns-in-Err
returns-in-Err c =
    let s = c.args in
    let g = given_of s.sender s.code s.name.now s.address.now s.body.now in
    let r = c.in-Err in
    fills_on (given_on g (length s.out.now) (length s.row.now) c.if-row-lt-COUNT_RECORD.false)
    (fills_refused (write_refused (command_into (length s.out.now) g) r.r r.ensures.value) c.from-in-Err.ensures r.ensures.out_after)

pub returns-in-Ok : goal.returns-in-Ok
returns-in-Ok c =
    let s = c.args in
    let g = given_of s.sender s.code s.name.now s.address.now s.body.now in
    let n = c.in-Ok in
    let room = c.if-row-lt-COUNT_RECORD.false in
    fills_on (given_on g (length s.out.now) (length s.row.now) room)
    (fills_counted (write_counted (command_into (length s.out.now) g) n.n n.ensures.value) n.ensures.out_after room c.put_row.ensures)
