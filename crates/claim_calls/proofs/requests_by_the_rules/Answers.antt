-- The law of the claim, at the lent bytes.
use Rattle.step_routing.specs.Routed.{tables_of}
use Rattle.claim_steps.proofs.Deciding.{requests_by_the_rules}
use Rattle.claim_calls.proofs.requests_by_the_rules.Goals as goal

pub returns : goal.returns
returns c = requests_by_the_rules (tables_of c.args.tree.now c.args.services.now c.args.identities.now) c.args.broker
