-- The first step of a walk, and the passes behind it.
use Rattle.std.proofs.Common.{Ok, arith, refl, ap, ◌∙◌}
use Rattle.step_routing.specs.Routed.{tables_in}
use Rattle.step_pass.specs.Step.{step_of}
use Rattle.walk.specs.Onward.{onward}
use Rattle.walk.specs.Walk.{walk_from}
use Rattle.walk.proofs.Resting.{goes_on, rests_here, refused_rests, other_rests, walks_as}
use Rattle.walk.proofs.Walking.{walk_short, walk_begins, forwards_right, passes_walk}
use Rattle.walk.proofs.walk.Goals as goal

pub returns-then-buffer-lt-LEAST : goal.returns-then-buffer-lt-LEAST
returns-then-buffer-lt-LEAST c =
    walks_as (walk_short (tables_in c.args.t) c.args.b c.args.buffer.now (omega arith)) (record { told = refl; leaves = refl })

pub returns-in_default : goal.returns-in_default
returns-in_default c =
    let t = tables_in c.args.t in
    walks_as (walk_begins t c.args.b c.args.buffer.now (omega arith))
    (rests_here (walk_from 64 t) c.args.b 0 c.args.buffer.now (step_of t c.args.b c.args.buffer.now) c.step-step.ensures.told (refused_rests c.in_default.is)
    c.step-step.ensures.leaves)

pub returns-in_default-stepped : goal.returns-in_default-stepped
returns-in_default-stepped c =
    let t = tables_in c.args.t in
    walks_as (walk_begins t c.args.b c.args.buffer.now (omega arith))
    (rests_here (walk_from 64 t) c.args.b 0 c.args.buffer.now (step_of t c.args.b c.args.buffer.now) c.step-step.ensures.told
    (other_rests c.in-Ok.is c.in_default-stepped.not-Forwarded)
    c.step-step.ensures.leaves)

pub returns : goal.returns
returns c =
    let t = tables_in c.args.t in
    let on = c.in-Ok.is ∙ ap Ok c.in-Forwarded.is in
    let right = forwards_right t c.args.b c.args.buffer.now c.step-step.ensures.told on in
    walks_as
    (walk_begins t c.args.b c.args.buffer.now (omega arith)
    ∙ goes_on (walk_from 64 t) c.args.b 0 c.args.buffer.now (step_of t c.args.b c.args.buffer.now) c.step-step.ensures.told on c.step-step.ensures.leaves
    ∙ passes_walk t right 64 (onward c.in-Forwarded.next c.args.b) 1 c.step-step.new.buffer)
    c.go_on.ensures
