-- A turn of the passes: it goes on, or the walk rests.
use Rattle.std.proofs.Common.{Ok, arith, ◌≡◌, refl, sym, ap, ◌∙◌, ℕ, ◌+◌, ◌-◌, ◌<◌, List}
use Rattle.step_routing.specs.Routed.{tables_in}
use Rattle.step_pass.specs.Step.{pass_of}
use Rattle.walk.specs.WorkingPasses.{passes_from}
use Rattle.walk.proofs.Resting.{goes_on, rests_here, refused_rests, other_rests, turns, pass_out, walks_as}
use Rattle.walk.proofs.passes.go_on.Goals as goal

pub loop-links-preserved : goal.loop-links-preserved
loop-links-preserved c =
    let t = tables_in c.args.t in
    let who = c.loop-links.b in
    let on =
    goes_on (passes_from (65 - (c.loop-links.links + 1)) t) who c.loop-links.links c.loop-links.buffer (pass_of t who c.loop-links.buffer) c.pass-step.ensures.told
    (c.in-Ok.is ∙ ap Ok c.in-Forwarded.is)
    c.pass-step.ensures.leaves in
    sym on ∙ sym (turns t who c.loop-links.links c.loop-links.buffer (omega arith)) ∙ c.loop-links.invariant

pub returns-in_default : goal.returns-in_default
returns-in_default c =
    let t = tables_in c.args.t in
    walks_as (sym c.loop-links.invariant ∙ turns t c.loop-links.b c.loop-links.links c.loop-links.buffer (omega arith))
    (rests_here (passes_from (65 - (c.loop-links.links + 1)) t) c.loop-links.b c.loop-links.links c.loop-links.buffer (pass_of t c.loop-links.b c.loop-links.buffer)
    c.pass-step.ensures.told
    (refused_rests c.in_default.is)
    c.pass-step.ensures.leaves)

pub returns-in_default-stepped : goal.returns-in_default-stepped
returns-in_default-stepped c =
    let t = tables_in c.args.t in
    walks_as (sym c.loop-links.invariant ∙ turns t c.loop-links.b c.loop-links.links c.loop-links.buffer (omega arith))
    (rests_here (passes_from (65 - (c.loop-links.links + 1)) t) c.loop-links.b c.loop-links.links c.loop-links.buffer (pass_of t c.loop-links.b c.loop-links.buffer)
    c.pass-step.ensures.told
    (other_rests c.in-Ok.is c.in_default-stepped.not-Forwarded)
    c.pass-step.ensures.leaves)

pub returns : goal.returns
returns c =
    let t = tables_in c.args.t in
    let all : c.loop-links.links ≡ 65 = omega (arith, c.loop-links-test.false, c.loop-links.auto.links-end) in
    let none : 65 - c.loop-links.links ≡ 0 = omega arith in
    walks_as (sym c.loop-links.invariant ∙ ap (λ (n : ℕ). passes_from (65 - n) t c.loop-links.b n c.loop-links.buffer) all ∙ pass_out t c.loop-links.b 65 c.loop-links.buffer 0 refl)
    (record { told = refl; leaves = refl })
