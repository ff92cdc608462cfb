use Rattle.std.proofs.Common.{sym}
use Rattle.table_tree.proofs.Tree.{ranks_are}
use Rattle.table_tree.proofs.ranks_in.Goals as goal

pub returns : goal.returns
returns c = sym (ranks_are c.args.tree.now)
