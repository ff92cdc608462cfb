-- The law of the claim, at the lent bytes.
use Rattle.std.proofs.Common.{arith}
use Rattle.step_routing.specs.Routed.{tables_of}
use Rattle.claim_walks.proofs.Corollaries.{every_reply_comes_home}
use Rattle.claim_calls.proofs.every_reply_comes_home.Goals as goal

pub returns : goal.returns
returns c = let s = c.args in
    every_reply_comes_home (tables_of s.tree.now s.services.now s.identities.now) _ (omega arith) (omega arith) s.entry s.buffer.now c.are_bytes.ensures
