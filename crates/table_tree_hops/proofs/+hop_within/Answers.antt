use Rattle.std.proofs.Common.{arith, sym, ◌∙◌}
use Rattle.table_tree_hops.proofs.Towards.{hop_up, hop_child, hop_on}
use Rattle.table_tree_hops.proofs.+hop_within.Goals as goal

pub returns-then-depth-eq0 : goal.returns-then-depth-eq0
returns-then-depth-eq0 t c = c.parent_of.ensures ∙ sym (hop_up c.args.tree.now c.args.from c.args.target c.args.depth (omega arith))

pub returns-then-parent-from : goal.returns-then-parent-from
returns-then-parent-from t c =
    sym (hop_child c.args.tree.now c.args.from c.args.target c.args.depth (λ e. omega arith) (omega (arith, c.parent_of-parent.ensures)))

pub returns : goal.returns
returns t c =
    c.hop_within.ensures ∙ rw c.parent_of-parent.ensures
    (sym (hop_on c.args.tree.now c.args.from c.args.target c.args.depth (λ e. omega arith) (λ e. omega (arith, c.parent_of-parent.ensures, c.if-parent-from.false))))
