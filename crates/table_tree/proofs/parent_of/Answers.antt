-- The parent that the rank's record holds, and none where there is no such rank.
use Rattle.std.proofs.Common.{arith, sym, ap, ◌∙◌}
use Rattle.bytes_number.specs.Number.{number}
use Rattle.table_tree.proofs.Tree.{ranks_are, parent_inside, parent_outside}
use Rattle.table_tree.proofs.parent_of.Goals as goal

pub returns-then-r-tree : goal.returns-then-r-tree
returns-then-r-tree c = c.number_at.ensures ∙ ap number c.record_at.ensures ∙ parent_inside c.args.tree.now c.args.rank (omega arith)

pub returns-else-r-tree : goal.returns-else-r-tree
returns-else-r-tree c = sym (parent_outside c.args.tree.now c.args.rank (omega (arith, ranks_are c.args.tree.now)))
