-- The law of the claim, at the lent bytes.
use Rattle.step_routing.specs.Routed.{tables_of}
use Rattle.claim_steps.proofs.Deciding.{no_other_answer}
use Rattle.claim_calls.proofs.no_other_answer.Goals as goal

pub returns : goal.returns
returns c = no_other_answer (tables_of c.args.tree.now c.args.services.now c.args.identities.now) c.args.broker
