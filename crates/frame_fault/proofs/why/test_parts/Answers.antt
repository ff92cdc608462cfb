-- The parts agree with type and flags, and at most 64 of them are routes.
use Rattle.std.proofs.Common.{arith}
use Rattle.bytes_number.proofs.Numbers.{bytes_of_lem}
use Rattle.frame_fault.proofs.Places.{last_low}
use Rattle.frame_fault.proofs.Telling.{early_parts, early_routes}
use Rattle.frame_fault.proofs.why.test_parts.Goals as goal

pub overflow_add-last : goal.overflow_add-last
overflow_add-last c =
    let b = bytes_of_lem c.args.body.now (λ i. (c.type_inv.body i).fits) in
    omega (arith, last_low c.args.body.now b c.args.counts c.requires.body_len_bound.1 c.requires.body_len_bound.0)

pub overflow_add-last-2 : goal.overflow_add-last-2
overflow_add-last-2 c =
    let b = bytes_of_lem c.args.body.now (λ i. (c.type_inv.body i).fits) in
    omega (arith, last_low c.args.body.now b c.args.counts c.requires.body_len_bound.1 c.requires.body_len_bound.0)

pub returns-then-not-parts_agree : goal.returns-then-not-parts_agree
returns-then-not-parts_agree c =
    let b = bytes_of_lem c.args.body.now (λ i. (c.type_inv.body i).fits) in
    early_parts c.args.body.now b c.args.counts c.requires.body_len_bound.1 c.requires.body_len_bound.0 c.requires.body_value c.byte_at.ensures (omega arith) c.byte_at-flags.ensures (omega arith) c.if_routed-routes.ensures c.parts_agree.ensures c.if-not-parts_agree.true

pub returns-then-routes-gt-MOST_ROUTES : goal.returns-then-routes-gt-MOST_ROUTES
returns-then-routes-gt-MOST_ROUTES c =
    let b = bytes_of_lem c.args.body.now (λ i. (c.type_inv.body i).fits) in
    early_routes c.args.body.now b c.args.counts c.requires.body_len_bound.1 c.requires.body_len_bound.0 c.requires.body_value c.byte_at.ensures (omega arith) c.byte_at-flags.ensures (omega arith) c.if_routed-routes.ensures c.parts_agree.ensures c.if-not-parts_agree.false (omega arith)
