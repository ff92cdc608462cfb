-- A request is delivered, goes on, or ends in an error: what stands at its topic's place, and what each way comes to.
use Rattle.std.proofs.Common.{arith, refl, sym, ap, ◌∙◌, inl, ℕ, ◌*◌, ◌≤◌, List, length, take, drop, length-take}
use Rattle.refusal.specs.Answer.{and_then}
use Rattle.step_routing.specs.Messages.{pushed}
use Rattle.step_routing.specs.Routed.{tables_in, forwarded_if, requested}
use Rattle.step_routing.specs.declared.Way.{Way}
use Rattle.step_pass.specs.Step.{room_for}
use Rattle.step_pass.specs.Working.{held_in}
use Rattle.step_pass.proofs.Lying.{makes, makes_as, taken-told, topic_inside, topic_low, topic_behind, way_told, forward_made, fail_made, fails_anyhow}
use Rattle.step_pass.proofs.request.Goals as goal

most_taken : (n : ℕ) (xs : List ℕ) → length (take n xs) ≤ n
most_taken n xs = omega (arith, length-take n xs)

pub overflow_add-end : goal.overflow_add-end
overflow_add-end c = omega (arith, topic_low c.args.buffer.now c.args.f 1 c.requires)

pub slice_bounds-request_way-end : goal.slice_bounds-request_way-end
slice_bounds-request_way-end c = omega (arith, topic_inside c.args.buffer.now c.args.f 1 c.requires)

pub overflow_sub-f : goal.overflow_sub-f
overflow_sub-f c = omega (arith, taken-told c.args.buffer.now c.args.f 1 c.requires)

pub overflow_sub-kept : goal.overflow_sub-kept
overflow_sub-kept c = omega (arith, topic_behind c.args.buffer.now c.args.f 1 c.requires (inl refl))

pub returns-in-Deliver : goal.returns-in-Deliver
returns-in-Deliver c =
    makes
    (ap (λ (way : Way). and_then (requested (tables_in c.args.t) c.args.b (held_in c.args.buffer.now) way) (room_for (length c.args.buffer.now)))
    (way_told c.args.buffer.now c.args.f 1 c.requires c.args.t.tree.now c.args.t.services.now c.args.b c.request_way-way.ensures ∙ c.in-Deliver.is))
    refl
    refl

pub returns-in-Forward : goal.returns-in-Forward
returns-in-Forward c =
    let identity = c.identity_of-identity.result.now in
    let short : length identity ≤ 37 = omega (arith, ap length c.identity_of-identity.ensures, most_taken 37 (drop (c.args.b.rank * 37) c.args.t.identities.now)) in
    makes_as
    (ap (λ (way : Way). and_then (requested (tables_in c.args.t) c.args.b (held_in c.args.buffer.now) way) (room_for (length c.args.buffer.now)))
    (way_told c.args.buffer.now c.args.f 1 c.requires c.args.t.tree.now c.args.t.services.now c.args.b c.request_way-way.ensures ∙ c.in-Forward.is)
    ∙ ap (λ (identity : List ℕ). and_then (forwarded_if c.in-Forward.next (pushed identity (held_in c.args.buffer.now))) (room_for (length c.args.buffer.now)))
    (sym c.identity_of-identity.ensures))
    (forward_made c.args.buffer.now c.args.f c.requires identity short c.in-Forward.next c.forward.ensures)

pub returns-in-Fail : goal.returns-in-Fail
returns-in-Fail c =
    makes_as
    (ap (λ (way : Way). and_then (requested (tables_in c.args.t) c.args.b (held_in c.args.buffer.now) way) (room_for (length c.args.buffer.now)))
    (way_told c.args.buffer.now c.args.f 1 c.requires c.args.t.tree.now c.args.t.services.now c.args.b c.request_way-way.ensures ∙ c.in-Fail.is)
    ∙ fails_anyhow c.args.b c.in-Fail.errnum (held_in c.args.buffer.now) (length c.args.buffer.now))
    (fail_made c.args.buffer.now c.args.f c.requires c.args.b c.in-Fail.errnum (omega arith) c.fail.ensures)
