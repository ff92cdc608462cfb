-- The topic begins behind the routing group, the payload behind the topic; and 9 and 10 are what was tested.
use Rattle.std.proofs.Common.{Ok, Option, refl, ◌≡◌, ◌+◌, ℕ, Bool, cond, List, length, drop, arith, sym, ap, ◌∙◌}
use Rattle.bytes_number.proofs.Numbers.{bytes_of_lem}
use Rattle.frame_message.specs.declared.Header.{Header}
use Rattle.frame_message.specs.Frame.{joined}
use Rattle.frame_message.specs.Header.{has_route}
use Rattle.frame_message.specs.Reading.{front}
use Rattle.frame_message.specs.declared.Stretch.{Stretch}
use Rattle.frame_layout.specs.WorkingPlacing.{read_as}
use Rattle.frame_parts.specs.declared.PartCounts.{PartCounts}
use Rattle.frame_body.specs.WorkingJudging.{Sorted, parts_found, group_in, piece_if}
use Rattle.frame_body.proofs.Accepting.{topic_in, topic_found, topic_some, topic_within, topic_tested, payload_in, payload_found, payload_some, answer_is, placed_is}
use Rattle.frame_body.proofs.Agreeing.{group_long}
use Rattle.frame_body.proofs.Heading.{group_within}
use Rattle.frame_body.proofs.Sorting.{judged_topic, judged_field}
use Rattle.frame_body.proofs.judge.judge_rest.Goals as goal

-- where the topic is to begin: behind the delimiter, or at the front where there is none
place : (body : List ℕ) (counts : PartCounts) (h : Header) (routes : ℕ) (at : ℕ) → Sorted body counts h routes → at ≡ cond (has_route h.flags) (counts.group + 1) 0 → at ≡ length (joined (group_in h (front (parts_found body))))
place body counts h routes at s k = k ∙ sym (group_long _ _ _ s.head s.agree)

-- a piece by its flag
piece : (body : List ℕ) (at : ℕ) (t u : Bool) (p : Option Stretch) → t ≡ u → p ≡ piece_if t at (parts_found (drop at body)) → p ≡ piece_if u at (parts_found (drop at body))
piece body at t u p e k = k ∙ ap (λ (t : Bool). piece_if t at (parts_found (drop at body))) e

pub overflow_add-counts : goal.overflow_add-counts
overflow_add-counts c = omega (arith, c.requires.head.short, group_within _ (bytes_of_lem c.args.body.now (λ i. (c.type_inv.body i).fits)) _ c.requires.head.over)

pub part_if-topic-requires-clause-at_in_bounds : goal.part_if-topic-requires-clause-at_in_bounds
part_if-topic-requires-clause-at_in_bounds c =
    let b = bytes_of_lem c.args.body.now (λ i. (c.type_inv.body i).fits) in
    let at = place _ _ _ _ _ c.requires c.if_routed-at.ensures in
    (topic_in _ _ _ _ c.requires b _ at, c.requires.head.short)

pub part_if-topic-requires-clause-found : goal.part_if-topic-requires-clause-found
part_if-topic-requires-clause-found c =
    let b = bytes_of_lem c.args.body.now (λ i. (c.type_inv.body i).fits) in
    let at = place _ _ _ _ _ c.requires c.if_routed-at.ensures in
    topic_found _ _ _ _ c.requires b _ at

pub part_if-topic-requires-clause-nonzero : goal.part_if-topic-requires-clause-nonzero
part_if-topic-requires-clause-nonzero c =
    let b = bytes_of_lem c.args.body.now (λ i. (c.type_inv.body i).fits) in
    let at = place _ _ _ _ _ c.requires c.if_routed-at.ensures in
    λ _. topic_some _ _ _ _ c.requires b _ at

pub topic_wrong-requires : goal.topic_wrong-requires
topic_wrong-requires c =
    let b = bytes_of_lem c.args.body.now (λ i. (c.type_inv.body i).fits) in
    let at = place _ _ _ _ _ c.requires c.if_routed-at.ensures in
    let topic = piece _ _ _ _ _ c.has_topic.ensures c.part_if-topic.ensures in
    topic_within _ _ _ _ c.requires b _ at _ topic

pub returns-then-topic_wrong : goal.returns-then-topic_wrong
returns-then-topic_wrong c =
    let b = bytes_of_lem c.args.body.now (λ i. (c.type_inv.body i).fits) in
    let at = place _ _ _ _ _ c.requires c.if_routed-at.ensures in
    let topic = piece _ _ _ _ _ c.has_topic.ensures c.part_if-topic.ensures in
    let tested = sym (topic_tested _ _ _ _ c.requires b _ at _ topic) ∙ sym c.topic_wrong.ensures in
    sym (ap read_as (judged_topic _ _ c.requires.agree c.requires.good (tested ∙ c.if-topic_wrong.true)))

pub next_of-requires : goal.next_of-requires
next_of-requires c =
    let b = bytes_of_lem c.args.body.now (λ i. (c.type_inv.body i).fits) in
    let at = place _ _ _ _ _ c.requires c.if_routed-at.ensures in
    let topic = piece _ _ _ _ _ c.has_topic.ensures c.part_if-topic.ensures in
    omega (arith, payload_in _ _ _ _ c.requires b _ at _ topic _ refl, c.requires.head.short)

pub part_if-payload-requires-clause-at_in_bounds : goal.part_if-payload-requires-clause-at_in_bounds
part_if-payload-requires-clause-at_in_bounds c =
    let b = bytes_of_lem c.args.body.now (λ i. (c.type_inv.body i).fits) in
    let at = place _ _ _ _ _ c.requires c.if_routed-at.ensures in
    let topic = piece _ _ _ _ _ c.has_topic.ensures c.part_if-topic.ensures in
    (payload_in _ _ _ _ c.requires b _ at _ topic _ c.next_of.ensures, c.requires.head.short)

pub part_if-payload-requires-clause-found : goal.part_if-payload-requires-clause-found
part_if-payload-requires-clause-found c =
    let b = bytes_of_lem c.args.body.now (λ i. (c.type_inv.body i).fits) in
    let at = place _ _ _ _ _ c.requires c.if_routed-at.ensures in
    let topic = piece _ _ _ _ _ c.has_topic.ensures c.part_if-topic.ensures in
    payload_found _ _ _ _ c.requires b _ at _ topic _ c.next_of.ensures

pub part_if-payload-requires-clause-nonzero : goal.part_if-payload-requires-clause-nonzero
part_if-payload-requires-clause-nonzero c =
    let b = bytes_of_lem c.args.body.now (λ i. (c.type_inv.body i).fits) in
    let at = place _ _ _ _ _ c.requires c.if_routed-at.ensures in
    let topic = piece _ _ _ _ _ c.has_topic.ensures c.part_if-topic.ensures in
    λ _. payload_some _ _ _ _ c.requires b _ at _ topic _ c.next_of.ensures

pub returns-then-not-fields_good : goal.returns-then-not-fields_good
returns-then-not-fields_good c =
    let b = bytes_of_lem c.args.body.now (λ i. (c.type_inv.body i).fits) in
    let at = place _ _ _ _ _ c.requires c.if_routed-at.ensures in
    let topic = piece _ _ _ _ _ c.has_topic.ensures c.part_if-topic.ensures in
    let right = sym (topic_tested _ _ _ _ c.requires b _ at _ topic) ∙ sym c.topic_wrong.ensures ∙ c.if-topic_wrong.false in
    sym (ap read_as (judged_field _ _ c.requires.agree c.requires.good right (sym c.fields_good.ensures ∙ c.if-not-fields_good.true)))

pub returns : goal.returns
returns c =
    let b = bytes_of_lem c.args.body.now (λ i. (c.type_inv.body i).fits) in
    let at = place _ _ _ _ _ c.requires c.if_routed-at.ensures in
    let topic = piece _ _ _ _ _ c.has_topic.ensures c.part_if-topic.ensures in
    let payload = piece _ _ _ _ _ c.has_payload.ensures c.part_if-payload.ensures in
    let good = sym (topic_tested _ _ _ _ c.requires b _ at _ topic) ∙ sym c.topic_wrong.ensures ∙ c.if-topic_wrong.false in
    let fields = sym c.fields_good.ensures ∙ c.if-not-fields_good.false in
    let answer = answer_is _ _ _ _ c.requires b _ at _ topic _ c.next_of.ensures _ payload good fields in
    ap Ok (c.placed.ensures ∙ placed_is _ _ _ _ c.requires b _ at _ topic _ c.next_of.ensures _ payload good fields) ∙ sym (ap read_as answer)
