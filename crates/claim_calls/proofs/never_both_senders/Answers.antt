-- The law of the claim, at the lent bytes.
use Rattle.claim_mdp.proofs.Commands.{never_both}
use Rattle.claim_calls.proofs.never_both_senders.Goals as goal

pub returns : goal.returns
returns c = never_both c.args.bytes.now c.are_bytes.ensures
