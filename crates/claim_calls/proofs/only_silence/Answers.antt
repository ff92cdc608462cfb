-- The law of the claim, at the lent bytes.
use Rattle.step_routing.specs.Routed.{tables_of}
use Rattle.claim_steps.proofs.ErrorReplies.{only_silence}
use Rattle.claim_calls.proofs.only_silence.Goals as goal

pub returns : goal.returns
returns c = only_silence (tables_of c.args.tree.now c.args.services.now c.args.identities.now) c.args.broker
