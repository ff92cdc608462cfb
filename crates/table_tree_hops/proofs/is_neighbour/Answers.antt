use Rattle.std.proofs.Common.{arith, sym}
use Rattle.table_tree_hops.proofs.Towards.{outside_neighbour, neighbour_outside, parent_neighbour, other_neighbour}
use Rattle.table_tree_hops.proofs.is_neighbour.Goals as goal

pub returns-then-a-n : goal.returns-then-a-n
returns-then-a-n c = sym (outside_neighbour c.args.tree.now c.args.a c.args.b (omega (arith, c.ranks_in-n.ensures)))

pub returns-then-b-n : goal.returns-then-b-n
returns-then-b-n c =
    sym (neighbour_outside c.args.tree.now c.args.a c.args.b (omega (arith, c.ranks_in-n.ensures)) (omega (arith, c.ranks_in-n.ensures)))

pub returns-then-parent_of-b : goal.returns-then-parent_of-b
returns-then-parent_of-b c =
    sym (parent_neighbour c.args.tree.now c.args.a c.args.b (omega (arith, c.ranks_in-n.ensures)) (omega (arith, c.ranks_in-n.ensures)) (omega (arith, c.parent_of.ensures, c.if-parent_of-b.true)))

pub returns : goal.returns
returns c =
    rw c.parent_of-2.ensures
    (sym (other_neighbour c.args.tree.now c.args.a c.args.b (omega (arith, c.ranks_in-n.ensures)) (omega (arith, c.ranks_in-n.ensures)) (λ e. omega (arith, c.parent_of.ensures, c.if-parent_of-b.false))))
