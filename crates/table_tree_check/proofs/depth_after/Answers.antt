-- A rank is one deeper than its parent.
use Rattle.std.proofs.Common.{arith, ◌<◌}
use Rattle.table_tree.specs.Tree.{parent_of}
use Rattle.table_tree.proofs.Depths.{depth_next}
use Rattle.table_tree_check.proofs.depth_after.Goals as goal

pub returns-then-parent-rank : goal.returns-then-parent-rank
returns-then-parent-rank c =
    let inside : parent_of c.args.tree.now c.args.rank < c.args.rank = omega (arith, c.parent_of-parent.ensures, c.if-parent-rank.true) in
    rw c.parent_of-parent.ensures
    (omega (
      arith,
      c.requires.1.right (parent_of c.args.tree.now c.args.rank) inside,
      depth_next c.args.tree.now c.args.rank (λ e. absurd (omega arith)) (c.requires.1.most (parent_of c.args.tree.now c.args.rank) inside),
    ))
