-- The law of the claim, at the lent bytes.
use Rattle.claim_mdp.proofs.Commands.{read_is_written_back}
use Rattle.claim_calls.proofs.read_command_is_written_back.Goals as goal

pub returns : goal.returns
returns c = read_is_written_back c.args.bytes.now c.are_bytes.ensures
