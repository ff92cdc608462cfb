use Rattle.std.proofs.Common.{sym, ◌∙◌}
use Rattle.table_tree_hops.proofs.Towards.{towards_is}
use Rattle.table_tree_hops.proofs.next_hop.Goals as goal

pub returns : goal.returns
returns c = c.hop_within.ensures ∙ rw c.depth_of.ensures (sym (towards_is c.args.tree.now c.args.from c.args.target))
