-- `call_mdp::read_command` meets its contract: by the law of each way that it ends.
use Rattle.std.proofs.Common.{length}
use Rattle.call_specs.proofs.Telling.{lists_refused, lists_answered}
use Rattle.call_specs.proofs.CommandCalls.{command_short, command_refused, command_accepted}
use Rattle.call_mdp.proofs.read_command.Goals as goal

pub returns-then-row-lt-COMMAND_RECORD : goal.returns-then-row-lt-COMMAND_RECORD
returns-then-row-lt-COMMAND_RECORD c =
    lists_refused (command_short c.args.bytes.now (length c.args.row.now) c.if-row-lt-COMMAND_RECORD.true) c.from.ensures

pub returns-in-Err : goal.returns-in-Err
returns-in-Err c =
    lists_refused (command_refused c.args.bytes.now (length c.args.row.now) c.if-row-lt-COMMAND_RECORD.false c.in-Err.why c.in-Err.ensures) c.from-in-Err.ensures

pub returns-in-Ok : goal.returns-in-Ok
returns-in-Ok c =
    let room = c.if-row-lt-COMMAND_RECORD.false in
    lists_answered (command_accepted c.args.bytes.now (length c.args.row.now) room c.in-Ok.f c.in-Ok.ensures) room c.put_places.ensures
