-- The ways out of the search for the depths.
use Rattle.std.proofs.Common.{arith, sym, ◌∙◌}
use Rattle.table_tree.proofs.Tree.{whole_few}
use Rattle.table_tree_check.proofs.Finding.{bad_whole, bad_top, bad_depth, shallow_none, finds_none, finds_all}
use Rattle.table_tree_check.proofs.find_depths.Goals as goal

pub returns-then-not-is_whole : goal.returns-then-not-is_whole
returns-then-not-is_whole c = finds_none _ _ (bad_whole c.args.tree.now (sym c.is_whole.ensures ∙ c.if-not-is_whole.true))

pub returns-then-parent_of-ne-NO_PARENT : goal.returns-then-parent_of-ne-NO_PARENT
returns-then-parent_of-ne-NO_PARENT c = finds_none _ _ (bad_top c.args.tree.now (λ e. omega (arith, c.parent_of.ensures)))

pub overflow_cast-r-end : goal.overflow_cast-r-end
overflow_cast-r-end c = omega (arith, c.ranks_in-n.ensures, whole_few c.args.tree.now (sym c.is_whole.ensures ∙ c.if-not-is_whole.false))

pub loop-r-init : goal.loop-r-init
loop-r-init c = (omega (arith, c.ranks_in-n.ensures, whole_few c.args.tree.now (sym c.is_whole.ensures ∙ c.if-not-is_whole.false)), shallow_none _ _)

pub returns-then-d-gt16 : goal.returns-then-d-gt16
returns-then-d-gt16 c =
    finds_none _ _ (bad_depth c.args.tree.now c.loop-r.r (omega (arith, c.ranks_in-n.ensures)) (omega (arith, c.depth_after-d.ensures)))

pub returns : goal.returns
returns c =
    finds_all c.args.tree.now (sym c.is_whole.ensures ∙ c.if-not-is_whole.false) (omega (arith, c.parent_of.ensures)) c.loop-r.depths c.loop-r.r (omega (arith, c.ranks_in-n.ensures)) c.loop-r.invariant.1
