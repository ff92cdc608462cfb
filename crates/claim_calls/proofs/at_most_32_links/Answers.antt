-- The law of the claim, at the lent bytes.
use Rattle.step_routing.specs.Routed.{tables_of}
use Rattle.claim_walks.proofs.Corollaries.{at_most_32_links}
use Rattle.claim_calls.proofs.at_most_32_links.Goals as goal

pub returns : goal.returns
returns c = let s = c.args in at_most_32_links (tables_of s.tree.now s.services.now s.identities.now) s.entry s.buffer.now
