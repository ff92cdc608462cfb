-- The law of the claim, at the lent bytes.
use Rattle.step_routing.specs.Messages.{owner_of}
use Rattle.step_routing.specs.Routed.{tables_of}
use Rattle.claim_walks.proofs.Demand3.{demand_three}
use Rattle.claim_calls.proofs.demand_three.Goals as goal

pub returns : goal.returns
returns c = let s = c.args in
    demand_three (tables_of s.tree.now s.services.now s.identities.now) (owner_of s.userid s.rolemask) s.entry s.buffer.now s.back.now c.are_bytes.ensures c.are_bytes-2.ensures
