-- A response goes home, or on without its top route: what stands at that route's place, and what each way back comes to.
use Rattle.std.proofs.Common.{Ok, rules, arith, refl, ap, ◌∙◌, ◌<◌}
use Rattle.step_pass.proofs.Lying.{makes, refuses, taken-told, home_bare, top_inside, top_low, back_told, back_room, back_left}
use Rattle.step_pass.proofs.response.Goals as goal

pub returns-then-f-eq0 : goal.returns-then-f-eq0
returns-then-f-eq0 c =
    makes (home_bare c.args.buffer.now c.args.f c.requires c.args.t.tree.now c.args.t.identities.now c.args.rank (omega (arith, c.if-f-eq0.true))) refl refl

pub overflow_add-end : goal.overflow_add-end
overflow_add-end c = omega (arith, top_low c.args.buffer.now c.args.f c.requires (omega (arith, c.if-f-eq0.false)))

pub slice_bounds-response_way-end : goal.slice_bounds-response_way-end
slice_bounds-response_way-end c = omega (arith, top_inside c.args.buffer.now c.args.f c.requires (omega (arith, c.if-f-eq0.false)))

pub overflow_sub-f : goal.overflow_sub-f
overflow_sub-f c = omega (arith, taken-told c.args.buffer.now c.args.f 2 c.requires)

pub returns-in_err-back : goal.returns-in_err-back
returns-in_err-back c =
    let some : 0 < c.args.f.routes = omega (arith, c.if-f-eq0.false) in
    let told =
    refuses {buffer = c.args.buffer.now}
    (back_told c.args.buffer.now c.args.f c.requires some c.args.t.tree.now c.args.t.identities.now c.args.rank c.in_err-back.ensures refl) in
    search rules

pub returns-in-None : goal.returns-in-None
returns-in-None c =
    let some : 0 < c.args.f.routes = omega (arith, c.if-f-eq0.false) in
    makes (back_told c.args.buffer.now c.args.f c.requires some c.args.t.tree.now c.args.t.identities.now c.args.rank c.in_ok-back.ensures (ap Ok c.in-None.is)) refl refl

pub returns-in-Some : goal.returns-in-Some
returns-in-Some c =
    let some : 0 < c.args.f.routes = omega (arith, c.if-f-eq0.false) in
    makes
    (back_told c.args.buffer.now c.args.f c.requires some c.args.t.tree.now c.args.t.identities.now c.args.rank c.in_ok-back.ensures (ap Ok c.in-Some.is)
    ∙ back_room c.args.buffer.now c.args.f c.requires some c.in-Some.next)
    refl
    (c.take_front.ensures ∙ back_left c.args.buffer.now c.args.f c.requires some)
