-- The fault of a body that is all there: by the counting of its parts, and else by why it is refused.
use Rattle.std.proofs.Common.{◌∙◌, arith}
use Rattle.bytes_number.proofs.Numbers.{bytes_of_lem}
use Rattle.refusal.specs.Refusals.{number_of}
use Rattle.frame_body.proofs.Heading.{counting_done}
use Rattle.frame_fault.proofs.Bodies.{stop_low, stop_refuses, stopped_byte, counted_why, counted_byte, refused_verdict, fault_none, body_refuses, refuses_body, fault_in_body}
use Rattle.frame_fault.proofs.Places.{last_low, group_low}
use Rattle.frame_fault.proofs.fault_in.Goals as goal

pub overflow_add-result : goal.overflow_add-result
overflow_add-result c =
    let b = bytes_of_lem c.args.body.now (λ i. (c.type_inv.body i).fits) in
    omega (arith, c.requires.short, stop_low c.args.body.now b c.in-Err.ensures)

pub returns-in-Err : goal.returns-in-Err
returns-in-Err c =
    let b = bytes_of_lem c.args.body.now (λ i. (c.type_inv.body i).fits) in
    let e = c.in-Err.ensures in
    fault_in_body c.args.bytes.now c.requires (refuses_body c.args.bytes.now c.requires (stop_refuses c.args.body.now b e)) c.from.ensures (stopped_byte c.args.body.now b e)

pub why_counted-requires : goal.why_counted-requires
why_counted-requires c = (c.requires, counting_done c.args.body.now c.in-Ok.ensures)

pub byte_in_parts-requires-clause-body_len_bound : goal.byte_in_parts-requires-clause-body_len_bound
byte_in_parts-requires-clause-body_len_bound c = (c.requires.short, counting_done c.args.body.now c.in-Ok.ensures)

pub byte_in_parts-requires-clause-low : goal.byte_in_parts-requires-clause-low
byte_in_parts-requires-clause-low c =
    let b = bytes_of_lem c.args.body.now (λ i. (c.type_inv.body i).fits) in
    let o = counting_done c.args.body.now c.in-Ok.ensures in
    (last_low c.args.body.now b _ o c.requires.short, group_low c.args.body.now b _ o c.requires.short)

pub byte_in_parts-requires-clause-alike : goal.byte_in_parts-requires-clause-alike
byte_in_parts-requires-clause-alike c =
    let refused = body_refuses c.args.bytes.now c.requires (refused_verdict c.args.bytes.now c.in-Err-why_counted.ensures) in
    (c.leading_alike-alike.ensures, counted_why c.args.body.now (counting_done c.args.body.now c.in-Ok.ensures) refused)

pub returns-in-Ok-why_counted : goal.returns-in-Ok-why_counted
returns-in-Ok-why_counted c = fault_none c.args.bytes.now c.in-Ok-why_counted.ensures

pub returns-in-Err-why_counted : goal.returns-in-Err-why_counted
returns-in-Err-why_counted c =
    fault_in_body c.args.bytes.now c.requires (refused_verdict c.args.bytes.now c.in-Err-why_counted.ensures) c.from-in-Err-why_counted.ensures
    (c.byte_in_parts.ensures ∙ counted_byte c.args.body.now (counting_done c.args.body.now c.in-Ok.ensures) (number_of c.in-Err-why_counted.why))
