-- The last part is a header, or it is 6, 20, 21, 22 or 23.
use Rattle.std.proofs.Common.{rules, sym, ap, ◌∙◌}
use Rattle.bytes_number.proofs.Numbers.{bytes_of_lem}
use Rattle.frame_layout.specs.WorkingPlacing.{read_as}
use Rattle.frame_body.proofs.Heading.{last_within, last_wrong, head_wrong, headed, judged_rest}
use Rattle.frame_body.proofs.judge.judge_counted.Goals as goal

pub overflow_sub-body : goal.overflow_sub-body
overflow_sub-body c = last_within _ (bytes_of_lem c.args.body.now (λ i. (c.type_inv.body i).fits)) _ c.requires.1

pub returns-then-body-last-ne-HEADER_PART : goal.returns-then-body-last-ne-HEADER_PART
returns-then-body-last-ne-HEADER_PART c =
    let b = bytes_of_lem c.args.body.now (λ i. (c.type_inv.body i).fits) in
    sym (ap read_as (last_wrong _ b _ c.requires.1 c.if-body-last-ne-HEADER_PART.true))

pub judge_parts-requires : goal.judge_parts-requires
judge_parts-requires c =
    let b = bytes_of_lem c.args.body.now (λ i. (c.type_inv.body i).fits) in
    headed _ b _ c.requires.1 c.if-body-last-ne-HEADER_PART.false _ c.in_ok-h.ensures c.requires.0

pub returns-in_err-h : goal.returns-in_err-h
returns-in_err-h c =
    let b = bytes_of_lem c.args.body.now (λ i. (c.type_inv.body i).fits) in
    let told = sym (ap read_as (head_wrong _ b _ c.requires.1 c.if-body-last-ne-HEADER_PART.false c.in_err-h.ensures)) in
    search rules

pub returns : goal.returns
returns c =
    let b = bytes_of_lem c.args.body.now (λ i. (c.type_inv.body i).fits) in
    c.judge_parts.ensures ∙ sym (ap read_as (judged_rest _ b _ c.requires.1 c.if-body-last-ne-HEADER_PART.false _ c.in_ok-h.ensures c.requires.0))
