-- 34, by what the command carries.
use Rattle.std.proofs.Common.{◌-◌, arith, refl, ◌∙◌}
use Rattle.mdp_rules.proofs.Rules.{fits_as}
use Rattle.mdp_read.proofs.judge.Opened.body_parts.Goals as goal

pub returns-then-not-body_fits : goal.returns-then-not-body_fits
returns-then-not-body_fits c =
    let fits = fits_as _ _ (c.args.self.now.count - c.args.front) c.requires.carried.3 c.body_fits.ensures in
    (refl, λ enough. fits ∙ c.if-not-body_fits.true)

pub returns : goal.returns
returns c =
    let fits = fits_as _ _ (c.args.self.now.count - c.args.front) c.requires.carried.3 c.body_fits.ensures in
    (omega arith, refl, fits ∙ c.if-not-body_fits.false)
