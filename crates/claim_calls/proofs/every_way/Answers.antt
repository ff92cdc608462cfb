-- The law of the claim, at the lent bytes.
use Rattle.claim_tables.proofs.Ways.{every_way}
use Rattle.claim_calls.proofs.every_way.Goals as goal

pub returns : goal.returns
returns c = every_way c.args.tree.now
