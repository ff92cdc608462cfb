-- The law of the claim, at the lent bytes.
use Rattle.claim_mdp.proofs.Commands.{record_holds_command}
use Rattle.claim_calls.proofs.record_holds_command.Goals as goal

pub returns : goal.returns
returns c = record_holds_command c.args.bytes.now c.are_bytes.ensures
