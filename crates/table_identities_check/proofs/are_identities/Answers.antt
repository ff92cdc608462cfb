-- The table by what may be wrong with it: too many ranks, too few or too many bytes, an identity not of the form, and then one that is there twice.
use Rattle.std.proofs.Common.{◌≡◌, ◌*◌, ◌/◌, sym, ap, ◌∙◌, arith, length}
use Rattle.table_records.specs.Working.{distinct}
use Rattle.table_tree.specs.Tree.{ranks_in}
use Rattle.table_identities_check.proofs.Checking.{bad_many, bad_torn, bad_form, rest_distinct}
use Rattle.table_identities_check.proofs.are_identities.Goals as goal

pub returns-then-n-gt-MOST_RECORDS : goal.returns-then-n-gt-MOST_RECORDS
returns-then-n-gt-MOST_RECORDS c = sym (bad_many c.args.tree.now c.args.identities.now (omega (arith, c.ranks_in-n.ensures)))

pub returns-then-identities-n : goal.returns-then-identities-n
returns-then-identities-n c = sym (bad_torn c.args.tree.now c.args.identities.now (λ e. omega (arith, c.ranks_in-n.ensures)))

pub returns-then-not-are_routes : goal.returns-then-not-are_routes
returns-then-not-are_routes c =
    let as_many : length c.args.identities.now / 37 ≡ ranks_in c.args.tree.now = omega (arith, c.ranks_in-n.ensures) in
    sym (bad_form c.args.tree.now c.args.identities.now (sym (rw as_many at c.are_routes.ensures) ∙ c.if-not-are_routes.true))

pub returns : goal.returns
returns c =
    let tree = c.args.tree.now in
    let identities = c.args.identities.now in
    let long : length identities ≡ ranks_in tree * 37 = omega (arith, c.ranks_in-n.ensures) in
    let as_many : length identities / 37 ≡ ranks_in tree = omega (arith, long) in
    c.are_distinct.ensures
    ∙ ap (distinct 37 identities) c.ranks_in-n.ensures
    ∙ sym (rest_distinct tree identities (omega (arith, c.ranks_in-n.ensures)) long (sym (rw as_many at c.are_routes.ensures) ∙ c.if-not-are_routes.false))
