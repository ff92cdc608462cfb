-- The law of the claim, at the lent bytes.
use Rattle.claim_tables.proofs.Trees.{tree_is_checked}
use Rattle.claim_calls.proofs.tree_is_checked.Goals as goal

pub returns : goal.returns
returns c = tree_is_checked c.args.tree.now
