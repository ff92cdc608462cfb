-- The check by its ways out: 14, 16, and the count.
use Rattle.std.proofs.Common.{sym, ap, ◌∙◌, Ok, refl}
use Rattle.table_identities_check.proofs.Checking.{check_tree_wrong, check_wrong, check_right}
use Rattle.table_identities_check.proofs.check_identities.Goals as goal

pub returns-then-not-is_tree : goal.returns-then-not-is_tree
returns-then-not-is_tree c = rw (check_tree_wrong c.args.tree.now c.args.identities.now (sym c.is_tree.ensures ∙ c.if-not-is_tree.true)) refl

pub returns-then-not-are_identities : goal.returns-then-not-are_identities
returns-then-not-are_identities c =
    rw (check_wrong c.args.tree.now c.args.identities.now (sym c.is_tree.ensures ∙ c.if-not-is_tree.false) (sym c.are_identities.ensures ∙ c.if-not-are_identities.true)) refl

pub returns : goal.returns
returns c =
    rw (check_right c.args.tree.now c.args.identities.now (sym c.is_tree.ensures ∙ c.if-not-is_tree.false) (sym c.are_identities.ensures ∙ c.if-not-are_identities.false))
    (ap Ok c.ranks_in.ensures)
