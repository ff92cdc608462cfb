-- The last part is a header, or is refused as one.
use Rattle.std.proofs.Common.{rules, ℕ, List, length, take, drop, ◌+◌, ◌-◌, sym, ap, arith}
use Rattle.bytes_number.proofs.Numbers.{bytes_of_lem}
use Rattle.frame_message.specs.Reading.{header_or_why}
use Rattle.frame_header.specs.WorkingHead.{head_as}
use Rattle.frame_header.proofs.Heads.{told_wrong, told_right}
use Rattle.frame_body.proofs.Heading.{last_within, last_wrong, head_wrong, headed}
use Rattle.frame_fault.proofs.why.test_last.Goals as goal

-- the last part, as it was lent
abbrev lent : List ℕ → ℕ → List ℕ
lent body last = take (length body - (last + 1)) (drop (last + 1) body)

pub overflow_sub-body : goal.overflow_sub-body
overflow_sub-body c =
    let b = bytes_of_lem c.args.body.now (λ i. (c.type_inv.body i).fits) in
    last_within _ b _ c.requires.1

pub returns-then-body-last-ne-HEADER_PART : goal.returns-then-body-last-ne-HEADER_PART
returns-then-body-last-ne-HEADER_PART c =
    let b = bytes_of_lem c.args.body.now (λ i. (c.type_inv.body i).fits) in
    last_wrong _ b _ c.requires.1 (λ e. omega (arith, c.if-body-last-ne-HEADER_PART.true))

pub test_parts-requires-clause-body_value : goal.test_parts-requires-clause-body_value
test_parts-requires-clause-body_value c =
    let b = bytes_of_lem c.args.body.now (λ i. (c.type_inv.body i).fits) in
    let right = told_right (lent c.args.body.now c.args.counts.last) c.in_ok-test_header.ensures in
    (headed _ b _ c.requires.1 (omega arith) _ (sym (ap head_as right)) c.requires.0).headed

pub returns-in_err-test_header : goal.returns-in_err-test_header
returns-in_err-test_header c =
    let b = bytes_of_lem c.args.body.now (λ i. (c.type_inv.body i).fits) in
    let wrong = head_wrong _ b _ c.requires.1 (omega arith) (told_wrong (header_or_why (lent c.args.body.now c.args.counts.last)) c.in_err-test_header.ensures) in
    search rules
