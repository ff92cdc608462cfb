-- 34, 36 and 37, of a command with an address, which is the third part; the separator is the fourth.
use Rattle.std.proofs.Common.{◌≡◌, Ok, Err, arith, rules, sym, ap, ◌∙◌}
use Rattle.refusal.specs.declared.Refusal.TheVariants.{PartCountWrong}
use Rattle.mdp_rules.specs.WorkingCarried.{bodied}
use Rattle.mdp_rules.proofs.Rules.{with_address}
use Rattle.mdp_read.proofs.Judging.{addressed_uncounted, address_within, address_size, gap_within, address_wrong, gap_wrong, addressed_good}
use Rattle.mdp_read.proofs.judge.Opened.addressed.Goals as goal

pub returns-in_err-parts : goal.returns-in_err-parts
returns-in_err-parts c =
    let told : c.from_residual.result ≡ Err PartCountWrong = search rules in
    let r = c.requires.opened in
    told ∙ addressed_uncounted r.over (with_address _ _ r.carried c.requires.has_address) c.in_err-parts.ensures.1

pub bounds-self-9 : goal.bounds-self-9
bounds-self-9 c =
    let r = c.requires.opened in
    let p = c.in_ok-parts.ensures in
    omega (arith, address_within r.over (with_address _ _ r.carried c.requires.has_address) p.0)

pub returns-then-self-ne-ADDRESS_SIZE : goal.returns-then-self-ne-ADDRESS_SIZE
returns-then-self-ne-ADDRESS_SIZE c =
    let r = c.requires.opened in
    let p = c.in_ok-parts.ensures in
    address_size r.over (with_address _ _ r.carried c.requires.has_address) p.0 p.2 (λ e. omega arith)

pub slice_bounds-is_route-end : goal.slice_bounds-is_route-end
slice_bounds-is_route-end c =
    let r = c.requires.opened in
    let p = c.in_ok-parts.ensures in
    omega (arith, gap_within r.over (with_address _ _ r.carried c.requires.has_address) p.0 p.2 (omega arith))

pub returns-then-not-is_route : goal.returns-then-not-is_route
returns-then-not-is_route c =
    let r = c.requires.opened in
    let p = c.in_ok-parts.ensures in
    address_wrong r.over (with_address _ _ r.carried c.requires.has_address) p.0 p.2 (omega arith)
    (sym c.is_route.ensures ∙ c.if-not-is_route.true)

pub bounds-self-47 : goal.bounds-self-47
bounds-self-47 c =
    let r = c.requires.opened in
    let p = c.in_ok-parts.ensures in
    omega (arith, gap_within r.over (with_address _ _ r.carried c.requires.has_address) p.0 p.2 (omega arith))

pub returns-then-self-ne0 : goal.returns-then-self-ne0
returns-then-self-ne0 c =
    let r = c.requires.opened in
    let p = c.in_ok-parts.ensures in
    gap_wrong r.over (with_address _ _ r.carried c.requires.has_address) p.0 p.2 (omega arith)
    (sym c.is_route.ensures ∙ c.if-not-is_route.false) (λ e. omega arith)

pub placed-requires : goal.placed-requires
placed-requires c =
    let r = c.requires.opened in
    let p = c.in_ok-parts.ensures in
    omega (arith, gap_within r.over (with_address _ _ r.carried c.requires.has_address) p.0 p.2 (omega arith))

pub returns : goal.returns
returns c =
    let r = c.requires.opened in
    let p = c.in_ok-parts.ensures in
    ap Ok c.placed.ensures
    ∙ addressed_good r.over (with_address _ _ r.carried c.requires.has_address) p.0 p.2 (omega arith)
    (sym c.is_route.ensures ∙ c.if-not-is_route.false) (omega arith) (ap bodied c.requires.has_address) p.1
