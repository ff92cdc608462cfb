-- The law of the claim, at the lent bytes.
use Rattle.step_routing.specs.Routed.{tables_of}
use Rattle.claim_walks.proofs.Corollaries.{every_walk_is_run}
use Rattle.claim_calls.proofs.every_walk_is_run.Goals as goal

pub returns : goal.returns
returns c = let s = c.args in
    every_walk_is_run (tables_of s.tree.now s.services.now s.identities.now) s.b s.buffer.now c.are_bytes.ensures
