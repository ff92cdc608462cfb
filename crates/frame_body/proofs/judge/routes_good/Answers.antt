-- A turn of the loop: the part that begins there has a route's size, and is one.
use Rattle.std.proofs.Common.{arith, sym, ◌∙◌}
use Rattle.bytes_number.proofs.Numbers.{bytes_of_lem}
use Rattle.frame_message.proofs.Parts.{split}
use Rattle.frame_body.specs.WorkingJudging.{parts_found}
use Rattle.frame_body.proofs.Routing.{routed-none, routed_all, routed_there, routed_long, routed_fits, routed_wrong, routed_more, good_many, good_few}
use Rattle.frame_body.proofs.judge.routes_good.Goals as goal

pub returns-then-routes-gt-MOST_ROUTES : goal.returns-then-routes-gt-MOST_ROUTES
returns-then-routes-gt-MOST_ROUTES c = good_many _ _ c.requires.body_len_bound.1 (omega arith)

pub loop-i-init : goal.loop-i-init
loop-i-init c =
    let body = c.args.body.now in
    routed-none body (parts_found body) c.args.routes (split 68 body (parts_found body) (bytes_of_lem body (λ i. (c.type_inv.body i).fits)) c.requires.found).same

pub bounds-body-at : goal.bounds-body-at
bounds-body-at c = routed_there _ _ _ _ c.loop-i.invariant (omega arith) c.requires.body_len_bound.1

pub returns-then-body-at-ne-ROUTE_SIZE : goal.returns-then-body-at-ne-ROUTE_SIZE
returns-then-body-at-ne-ROUTE_SIZE c =
    good_few _ _ c.requires.body_len_bound.1 (omega arith)
    (routed_long _ _ _ _ c.loop-i.invariant (omega arith) c.requires.body_len_bound.1 c.if-body-at-ne-ROUTE_SIZE.true)

pub slice_bounds-is_route-end : goal.slice_bounds-is_route-end
slice_bounds-is_route-end c = omega (arith, routed_fits _ _ _ _ c.loop-i.invariant (omega arith) c.requires.body_len_bound.1 c.if-body-at-ne-ROUTE_SIZE.false)

pub returns-then-not-is_route : goal.returns-then-not-is_route
returns-then-not-is_route c =
    good_few _ _ c.requires.body_len_bound.1 (omega arith)
    (routed_wrong _ _ _ _ c.loop-i.invariant (omega arith) c.requires.body_len_bound.1 c.if-body-at-ne-ROUTE_SIZE.false (sym c.is_route.ensures ∙ c.if-not-is_route.true))

pub loop-i-preserved : goal.loop-i-preserved
loop-i-preserved c =
    routed_more _ _ _ _ c.loop-i.invariant (omega arith) c.requires.body_len_bound.1 c.if-body-at-ne-ROUTE_SIZE.false (sym c.is_route.ensures ∙ c.if-not-is_route.false)

pub returns : goal.returns
returns c = good_few _ _ c.requires.body_len_bound.1 (omega arith) (routed_all _ _ _ _ c.loop-i.invariant (omega arith))
