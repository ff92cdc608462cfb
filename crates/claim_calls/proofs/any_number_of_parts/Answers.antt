-- The law of the claim, at the lent bytes.
use Rattle.claim_mdp.proofs.Commands.{any-number_of_parts}
use Rattle.claim_calls.proofs.any_number_of_parts.Goals as goal

pub returns : goal.returns
returns c = any-number_of_parts c.args.bytes.now c.are_bytes.ensures
