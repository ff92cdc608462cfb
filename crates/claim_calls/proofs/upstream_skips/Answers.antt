-- The law of the claim, at the lent bytes.
use Rattle.claim_walks.proofs.Upstream.{upstream-skips}
use Rattle.claim_calls.proofs.upstream_skips.Goals as goal

pub returns : goal.returns
returns c = let s = c.args in upstream-skips s.tree.now s.services.now s.entry s.header s.topic.now
