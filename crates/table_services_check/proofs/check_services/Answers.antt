-- The check by its ways out: 14, 15, and the count.
use Rattle.std.proofs.Common.{sym, ap, ◌∙◌, Ok, refl}
use Rattle.table_services.proofs.Services.{services_are}
use Rattle.table_services_check.proofs.Checking.{check_tree_wrong, check_wrong, check_right}
use Rattle.table_services_check.proofs.check_services.Goals as goal

pub returns-then-not-is_tree : goal.returns-then-not-is_tree
returns-then-not-is_tree c = rw (check_tree_wrong c.args.tree.now c.args.services.now (sym c.is_tree.ensures ∙ c.if-not-is_tree.true)) refl

pub returns-then-not-are_services : goal.returns-then-not-are_services
returns-then-not-are_services c =
    rw (check_wrong c.args.tree.now c.args.services.now (sym c.is_tree.ensures ∙ c.if-not-is_tree.false) (sym c.are_services.ensures ∙ c.if-not-are_services.true)) refl

pub returns : goal.returns
returns c =
    rw (check_right c.args.tree.now c.args.services.now (sym c.is_tree.ensures ∙ c.if-not-is_tree.false) (sym c.are_services.ensures ∙ c.if-not-are_services.false))
    (ap Ok (sym (services_are c.args.services.now)))
