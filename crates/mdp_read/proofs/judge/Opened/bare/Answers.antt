-- 34, of a command that is its mark and its number.
use Rattle.std.proofs.Common.{◌≡◌, Ok, Err, rules, sym, ap, ◌∙◌}
use Rattle.refusal.specs.declared.Refusal.TheVariants.{PartCountWrong}
use Rattle.mdp_rules.proofs.Rules.{with_nothing}
use Rattle.mdp_read.proofs.Judging.{bare_uncounted, bare_good}
use Rattle.mdp_read.proofs.judge.Opened.bare.Goals as goal

pub returns-in_err-parts : goal.returns-in_err-parts
returns-in_err-parts c =
    let told : c.from_residual.result ≡ Err PartCountWrong = search rules in
    let r = c.requires.opened in
    told ∙ bare_uncounted r.over (with_nothing _ _ r.carried c.requires.has_nothing) c.in_err-parts.ensures.1

pub returns : goal.returns
returns c =
    let r = c.requires.opened in
    let p = c.in_ok-parts.ensures in
    ap Ok c.placed.ensures
    ∙ bare_good r.over (with_nothing _ _ r.carried c.requires.has_nothing) p.2 (sym r.carried.3) p.1
