-- The parts of a body are counted as they come: what a turn of the loop shows.
use Rattle.std.proofs.Common.{Option, ◌≡◌, ℕ, ◌-◌, List, length, take, drop, arith, ap, ◌∙◌}
use Rattle.bytes_number.proofs.Numbers.{bytes_of_lem}
use Rattle.frame_message.specs.declared.Stretch.{Stretch}
use Rattle.frame_part_size.specs.WorkingSizes.{size_at}
use Rattle.frame_parts.specs.declared.PartCounts.{PartCounts}
use Rattle.frame_parts.proofs.Passing.{passed_none, passed_all, passed_many, passed_wrong, passed_within, passed_none_empty, passed_this_empty, passed_earlier_empty, part_from}
use Rattle.frame_parts.proofs.count_parts.Goals as goal
use Rattle.frame_parts.proofs.count_parts.Goals.{then-counts+then-size-ne0, else-counts, else-counts-via-then-counts+else-size-ne0, else-counts-via-else-counts}

-- a size was read of the bytes that are left
found : (body : List ℕ) (at : ℕ) {r : Option Stretch} → r ≡ size_at (take (length body - at) (drop at body)) → r ≡ size_at (drop at body)
found body at e = e ∙ ap size_at (part_from body at)

pub loop-at-init : goal.loop-at-init
loop-at-init c = passed_none c.args.most c.args.body.now

pub returns-then-counts-most : goal.returns-then-counts-most
returns-then-counts-most c = passed_many c.loop-at.invariant c.if-at-body.false (omega arith)

-- there was room for the part whose size is wrong: 5 comes before its size is read
pub returns-in_default : goal.returns-in_default
returns-in_default c =
    passed_wrong c.loop-at.invariant c.if-at-body.false (λ e. omega arith) (found c.args.body.now c.loop-at.at c.in_default.ensures)

pub overflow_add-next-in-loop-at : goal.overflow_add-next-in-loop-at
overflow_add-next-in-loop-at c =
    let size = found c.args.body.now c.loop-at.at c.in-Some.ensures in
    omega (arith, passed_within c.loop-at.invariant c.if-at-body.false (bytes_of_lem c.args.body.now (λ i. (c.type_inv.body i).fits)) size)

-- no part is empty so far; this one is the first; an earlier one is
pub loop-at-preserved : goal.loop-at-preserved
loop-at-preserved c =
    let size = found c.args.body.now c.loop-at.at c.in-Some.ensures in
    let bytes = bytes_of_lem c.args.body.now (λ i. (c.type_inv.body i).fits) in
    let room : c.loop-at.counts.count ≡ c.args.most → ⊥ = λ e. omega arith in
    elim c.if-counts.branch [
      | then-counts+then-size-ne0 w ↦
          passed_none_empty c.loop-at.invariant c.if-at-body.false bytes size room (omega (arith, ap (λ (k : PartCounts). k.count) w.counts-is)) w.if-counts.true w.if-size-ne0.true
          (ap (λ (k : PartCounts). k.empty) w.counts-is) (ap (λ (k : PartCounts). k.group) w.counts-is)
      | else-counts w ↦
          elim w.else-counts.branch [
            | else-counts-via-then-counts+else-size-ne0 v ↦
                passed_this_empty c.loop-at.invariant c.if-at-body.false bytes size room (omega (arith, ap (λ (k : PartCounts). k.count) w.counts-is)) (omega (arith, v.if-size-ne0.false))
                (ap (λ (k : PartCounts). k.empty) w.counts-is) (ap (λ (k : PartCounts). k.group) w.counts-is)
            | else-counts-via-else-counts v ↦
                passed_earlier_empty c.loop-at.invariant c.if-at-body.false bytes size room (omega (arith, ap (λ (k : PartCounts). k.count) w.counts-is)) v.if-counts.false
                (ap (λ (k : PartCounts). k.empty) w.counts-is) (ap (λ (k : PartCounts). k.group) w.counts-is)
          ]
    ]

pub returns-then-at-body : goal.returns-then-at-body
returns-then-at-body c = passed_all c.loop-at.invariant (omega arith)
