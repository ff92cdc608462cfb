-- A part with the size of a route is looked at, and no other is one.
use Rattle.std.proofs.Common.{◌∙◌, arith}
use Rattle.bytes_number.proofs.Numbers.{bytes_of_lem}
use Rattle.frame_fault.proofs.Routes.{at_short, at_other, at_route}
use Rattle.frame_fault.proofs.route.is_route_at.Goals as goal
use Rattle.frame_fault.proofs.route.is_route_at.Goals.{then-body-at-lt-ROUTE_PART-via-then-body-at-lt-ROUTE_PART, then-body-at-lt-ROUTE_PART-via-else-body-at-lt-ROUTE_PART+then-body-at-ne-ROUTE_SIZE}

pub returns-then-body-at-lt-ROUTE_PART : goal.returns-then-body-at-lt-ROUTE_PART
returns-then-body-at-lt-ROUTE_PART c =
    let b = bytes_of_lem c.args.body.now (λ i. (c.type_inv.body i).fits) in
    elim c.then-body-at-lt-ROUTE_PART.branch [
      | then-body-at-lt-ROUTE_PART-via-then-body-at-lt-ROUTE_PART w ↦ at_short c.args.body.now c.args.at b c.requires.1 (omega arith)
      | then-body-at-lt-ROUTE_PART-via-else-body-at-lt-ROUTE_PART+then-body-at-ne-ROUTE_SIZE w ↦
          at_other c.args.body.now c.args.at b c.requires.1 (omega arith) (λ z. omega (arith, w.if-body-at-ne-ROUTE_SIZE.true))
    ]

pub returns : goal.returns
returns c =
    let b = bytes_of_lem c.args.body.now (λ i. (c.type_inv.body i).fits) in
    c.is_route.ensures ∙ at_route c.args.body.now c.args.at b c.requires.1 (omega arith) (omega arith)
