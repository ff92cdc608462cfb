-- The law of the claim, at the lent bytes.
use Rattle.claim_mdp.proofs.Commands.{given_is_read_back}
use Rattle.claim_calls.proofs.written_command_is_read_back.Goals as goal

pub returns : goal.returns
returns c = given_is_read_back _ c.are_bytes.ensures
