-- Routes are passed up to the one that is refused.
use Rattle.std.proofs.Common.{◌≡◌, ◌≤◌, ◌*◌, List, ℕ, length, sym, ◌∙◌, arith}
use Rattle.bytes_number.specs.Number.{Bytes}
use Rattle.bytes_number.proofs.Numbers.{bytes_of_lem}
use Rattle.frame_message.proofs.Parts.{split}
use Rattle.frame_body.specs.WorkingJudging.{parts_found, Found}
use Rattle.frame_fault.proofs.Routes.{leads_none, leads_found, leads_out, leads_all, passes_more, known_route}
use Rattle.frame_fault.proofs.route.first_malformed.Goals as goal

few : (body : List ℕ) → Bytes body → Found body → length (parts_found body) ≤ 68
few body b f = (split 68 body (parts_found body) b f).few

pub loop-known-init : goal.loop-known-init
loop-known-init c =
    let b = bytes_of_lem c.args.body.now (λ i. (c.type_inv.body i).fits) in
    leads_none c.args.body.now (parts_found c.args.body.now) (split 68 c.args.body.now (parts_found c.args.body.now) b c.requires.found.0).same

-- a part is looked at whose size is known
pub returns-then-not-is_route : goal.returns-then-not-is_route
returns-then-not-is_route c =
    let b = bytes_of_lem c.args.body.now (λ i. (c.type_inv.body i).fits) in
    let f = few c.args.body.now b c.requires.found.0 in
    let looked = c.is_route.ensures ∙ known_route c.loop-known.invariant c.requires.found.1 f b c.requires.alike (omega arith) in
    leads_out c.loop-known.invariant c.requires.found.1 f (sym looked ∙ c.if-not-is_route.true)

pub loop-known-preserved : goal.loop-known-preserved
loop-known-preserved c =
    let b = bytes_of_lem c.args.body.now (λ i. (c.type_inv.body i).fits) in
    let f = few c.args.body.now b c.requires.found.0 in
    let looked = c.is_route.ensures ∙ known_route c.loop-known.invariant c.requires.found.1 f b c.requires.alike (omega arith) in
    passes_more c.loop-known.invariant c.requires.found.1 f (sym looked ∙ c.if-not-is_route.false) (omega (arith, c.requires.alike.most))

-- another part is looked at
pub is_route_at-requires : goal.is_route_at-requires
is_route_at-requires c =
    let b = bytes_of_lem c.args.body.now (λ i. (c.type_inv.body i).fits) in
    (c.loop-n.invariant.there.within, leads_found c.loop-n.invariant c.requires.found.1 (few c.args.body.now b c.requires.found.0))

pub returns-then-not-is_route_at : goal.returns-then-not-is_route_at
returns-then-not-is_route_at c =
    let b = bytes_of_lem c.args.body.now (λ i. (c.type_inv.body i).fits) in
    leads_out c.loop-n.invariant c.requires.found.1 (few c.args.body.now b c.requires.found.0) (sym c.is_route_at.ensures ∙ c.if-not-is_route_at.true)

pub loop-n-preserved : goal.loop-n-preserved
loop-n-preserved c =
    let b = bytes_of_lem c.args.body.now (λ i. (c.type_inv.body i).fits) in
    passes_more c.loop-n.invariant c.requires.found.1 (few c.args.body.now b c.requires.found.0) (sym c.is_route_at.ensures ∙ c.if-not-is_route_at.false) (omega arith)

pub returns : goal.returns
returns c =
    let b = bytes_of_lem c.args.body.now (λ i. (c.type_inv.body i).fits) in
    let all : 2432 ≡ 38 * c.loop-n.n = omega (arith, c.requires.alike.most) in
    all ∙ leads_all c.loop-n.invariant c.requires.found.1 (few c.args.body.now b c.requires.found.0) (omega arith)
