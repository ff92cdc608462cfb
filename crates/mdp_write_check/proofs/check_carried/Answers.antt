-- The refusals in their order, by what was looked at on the way.
use Rattle.std.proofs.Common.{◌≡◌, Bool, Err, length, arith, rules, sym, ap₂, ◌∙◌}
use Rattle.refusal.specs.declared.Refusal.TheVariants.{CommandPartWrong}
use Rattle.mdp_command.specs.WorkingGiven.{given_in}
use Rattle.mdp_rules.specs.WorkingCarried.{named, addressed}
use Rattle.mdp_rules.proofs.Rules.{fits_as}
use Rattle.mdp_write_check.specs.WorkingChecks.{front_length}
use Rattle.mdp_write_check.proofs.Measuring.{name_short, front_most}
use Rattle.mdp_write_check.proofs.Checking.{cut-none, cut_whole, named_as, addressed_as, check_malformed, check_count, check_name, check_address, check_measured}
use Rattle.mdp_write_check.proofs.check_carried.Goals as goal

pub returns-in_err-parts-clause-value : goal.returns-in_err-parts-clause-value
returns-in_err-parts-clause-value c =
    let k = c.requires in
    let cut = cut-none c.args.command.now.body.now c.in_err-parts.ensures.value in
    let told : c.from_residual.result ≡ Err CommandPartWrong = search rules in
    told ∙ check_malformed c.args.room (given_in c.args.command.now) k.0 cut.1

pub returns-then-not-body_fits-clause-value : goal.returns-then-not-body_fits-clause-value
returns-then-not-body_fits-clause-value c =
    let k = c.requires in
    let cut = cut_whole c.args.command.now.body.now c.in_ok-parts.ensures.value in
    let fits = fits_as _ _ c.in_ok-parts.parts k.3 c.body_fits.ensures in
    check_count c.args.room (given_in c.args.command.now) k.0 cut (fits ∙ c.if-not-body_fits.true)

pub returns-then-not-fits-clause-value : goal.returns-then-not-fits-clause-value
returns-then-not-fits-clause-value c =
    let k = c.requires in
    let cut = cut_whole c.args.command.now.body.now c.in_ok-parts.ensures.value in
    let fits = fits_as _ _ c.in_ok-parts.parts k.3 c.body_fits.ensures in
    let name = named_as _ _ c.args.command.now.name.now (k.1 ∙ sym c.has_name.ensures) c.fits.ensures in
    check_name c.args.room (given_in c.args.command.now) k.0 cut (fits ∙ c.if-not-body_fits.false) (name ∙ c.if-not-fits.true)

pub returns-then-not-fits-2-clause-value : goal.returns-then-not-fits-2-clause-value
returns-then-not-fits-2-clause-value c =
    let k = c.requires in
    let cut = cut_whole c.args.command.now.body.now c.in_ok-parts.ensures.value in
    let fits = fits_as _ _ c.in_ok-parts.parts k.3 c.body_fits.ensures in
    let name = named_as _ _ c.args.command.now.name.now (k.1 ∙ sym c.has_name.ensures) c.fits.ensures in
    let address = addressed_as _ _ c.args.command.now.address.now (k.2 ∙ sym c.has_address.ensures) c.fits-2.ensures in
    check_address c.args.room (given_in c.args.command.now) k.0 cut (fits ∙ c.if-not-body_fits.false) (name ∙ c.if-not-fits.false) (address ∙ c.if-not-fits-2.true)

pub front_length-requires : goal.front_length-requires
front_length-requires c =
    let k = c.requires in
    let name = named_as _ _ c.args.command.now.name.now (k.1 ∙ sym c.has_name.ensures) c.fits.ensures in
    name_short _ _ c.args.command.now.name.now (name ∙ c.if-not-fits.false)

pub overflow_add-whole : goal.overflow_add-whole
overflow_add-whole c =
    let k = c.requires in
    let name = named_as _ _ c.args.command.now.name.now (k.1 ∙ sym c.has_name.ensures) c.fits.ensures in
    let short = name_short _ _ c.args.command.now.name.now (name ∙ c.if-not-fits.false) in
    omega (arith, c.front_length.ensures, front_most (named c.args.carried) (addressed c.args.carried) (length c.args.command.now.name.now) short)

pub returns-clause-value : goal.returns-clause-value
returns-clause-value c =
    let k = c.requires in
    let cut = cut_whole c.args.command.now.body.now c.in_ok-parts.ensures.value in
    let fits = fits_as _ _ c.in_ok-parts.parts k.3 c.body_fits.ensures in
    let name = named_as _ _ c.args.command.now.name.now (k.1 ∙ sym c.has_name.ensures) c.fits.ensures in
    let address = addressed_as _ _ c.args.command.now.address.now (k.2 ∙ sym c.has_address.ensures) c.fits-2.ensures in
    let front = ap₂ (λ (p q : Bool). front_length p q (length c.args.command.now.name.now)) (sym k.1) (sym k.2) in
    check_measured c.args.room (given_in c.args.command.now) k.0 cut (fits ∙ c.if-not-body_fits.false) (name ∙ c.if-not-fits.false) (address ∙ c.if-not-fits-2.false)
    c.cut_body.ensures.body_value (c.front_length.ensures ∙ front) c.fit.ensures
