-- 7 and 8 are what was tested.
use Rattle.std.proofs.Common.{◌≡◌, ◌≤◌, ℕ, Bool, arith, sym, ap, ◌∙◌}
use borrow.Author.Tests.{le-leb}
use lib.Dec.{leb}
use mathlib.Core.Bool.{◌&&◌}
use Rattle.bytes_number.proofs.Numbers.{bytes_of_lem}
use Rattle.frame_layout.specs.WorkingPlacing.{read_as}
use Rattle.frame_body.proofs.Agreeing.{empty_low, agree_tested, routes_tested, sorted}
use Rattle.frame_body.proofs.Sorting.{judged_parts, judged_routes}
use Rattle.frame_body.proofs.judge.judge_parts.Goals as goal

-- there are few routes, so that this is not what is tested
few : {routes : ℕ} {t u : Bool} → routes ≤ 68 → t ≡ (leb routes 68 && u) → u ≡ t
few {routes} {t} {u} h e = sym (e ∙ ap (λ (s : Bool). s && u) (le-leb routes 68 h))

pub returns-then-not-parts_agree : goal.returns-then-not-parts_agree
returns-then-not-parts_agree c =
    let low = empty_low _ _ _ c.requires (bytes_of_lem c.args.body.now (λ i. (c.type_inv.body i).fits)) in
    let r = c.if_routed-routes.ensures in
    let tested = agree_tested _ _ _ c.requires _ r ∙ few (omega (arith, r, low)) c.parts_agree.ensures in
    sym (ap read_as (judged_parts _ _ (tested ∙ c.if-not-parts_agree.true)))

pub returns-then-not-routes_good : goal.returns-then-not-routes_good
returns-then-not-routes_good c =
    let low = empty_low _ _ _ c.requires (bytes_of_lem c.args.body.now (λ i. (c.type_inv.body i).fits)) in
    let r = c.if_routed-routes.ensures in
    let agree = agree_tested _ _ _ c.requires _ r ∙ few (omega (arith, r, low)) c.parts_agree.ensures ∙ c.if-not-parts_agree.false in
    sym (ap read_as (judged_routes _ _ agree (routes_tested _ _ _ c.requires _ r agree ∙ sym c.routes_good.ensures ∙ c.if-not-routes_good.true)))

pub judge_rest-requires : goal.judge_rest-requires
judge_rest-requires c =
    let low = empty_low _ _ _ c.requires (bytes_of_lem c.args.body.now (λ i. (c.type_inv.body i).fits)) in
    let r = c.if_routed-routes.ensures in
    let agree = agree_tested _ _ _ c.requires _ r ∙ few (omega (arith, r, low)) c.parts_agree.ensures ∙ c.if-not-parts_agree.false in
    sorted _ _ _ c.requires _ r agree (sym c.routes_good.ensures ∙ c.if-not-routes_good.false)
