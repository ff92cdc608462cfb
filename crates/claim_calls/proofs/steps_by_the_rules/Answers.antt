-- The law of the claim, at the lent bytes.
use Rattle.step_routing.specs.Messages.{owner_of}
use Rattle.step_routing.specs.Routed.{tables_of}
use Rattle.claim_steps.proofs.Steps.{steps_by_the_rules}
use Rattle.claim_calls.proofs.steps_by_the_rules.Goals as goal

pub returns : goal.returns
returns c = let s = c.args in
    steps_by_the_rules (tables_of s.tree.now s.services.now s.identities.now) (owner_of s.userid s.rolemask) s.rank s.buffer.now c.are_bytes.ensures
