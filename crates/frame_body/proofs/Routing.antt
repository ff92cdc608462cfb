-- The routes at the front of a body: what is known after some of them, and what each way out of the loop shows.
use mathlib.Core.Path.{◌≡◌, sym, ap, ◌∙◌}
use borrow.Author.Tests.{le-leb, lt-leb}
use mathlib.Core.Bool.{Bool, true, false, ◌&&◌}
use Prim.Native.Nat.{ℕ, suc, ◌+◌, ◌-◌, ◌*◌, ◌<◌, ◌≤◌}
use native.Mathlib.Nat.{add-zero}
use native.Mathlib.Numerals.{add-one}
use mathlib.Core.List.{List, [], ◌∷◌, ◌++◌}
use native.Mathlib.Omega.{arith}
use lib.ListN.{length, get_or, take, drop, length-append, length-drop}
use lib.Seq.{length-take-le, get_or-drop, drop-cons, drop-drop, drop_at, take_at}
use Rattle.frame_message.specs.Frame.{part_bytes, joined}
use Rattle.frame_forms.specs.Forms.{is_route}
use Rattle.frame_message.specs.Writing.{all_routes, routes_good}
use Rattle.frame_message.proofs.Parts.{part_short}
use Rattle.frame_forms.proofs.Routes.{route_length_lem}
use Rattle.frame_parts.proofs.Passing.{part_has_size}
use Rattle.frame_body.proofs.Stretches.{first_byte}

-- i of the first so many parts ps are routes, and the next begins behind the 38 bytes of each
pub record Routed (body : List ℕ) (ps : List (List ℕ)) (routes i : ℕ) : Type 0 where
  pub left : drop (i * 38) body ≡ joined (drop i ps)
  pub same : all_routes (take routes ps) ≡ all_routes (take (routes - i) (drop i ps))
  pub most : i ≤ routes
  pub within : i * 38 ≤ length body

pub routed-none : (body : List ℕ) (ps : List (List ℕ)) (routes : ℕ) → body ≡ joined ps → Routed body ps routes 0
routed-none body ps routes e =
    let all : routes - 0 ≡ routes = omega arith in
    record { left = e; same = rw all; most = omega arith; within = omega arith }

module _ (body : List ℕ) (ps : List (List ℕ)) (routes i : ℕ) (r : Routed body ps routes i) where
  abbrev at : ℕ
  at = i * 38

  pub routed_all : routes ≤ i → true ≡ all_routes (take routes ps)
  routed_all h =
      let none : routes - i ≡ 0 = omega arith in
      rw (r.same, none)

  module _ (more : i < routes) (few : routes ≤ length ps) where
    q : List ℕ
    q = get_or ps i []

    others : List (List ℕ)
    others = drop (suc i) ps

    next : drop i ps ≡ q ∷ others
    unfolding q others
    next = drop-cons ps i [] (omega arith)

    here : drop at body ≡ part_bytes q ++ joined others
    here = r.left ∙ ap joined next

    byte : get_or body at 0 ≡ get_or (part_bytes q ++ joined others) 0 0
    byte = ap (λ (k : ℕ). get_or body k 0) (sym (add-zero at)) ∙ sym (get_or-drop at body 0 0) ∙ ap (λ (s : List ℕ). get_or s 0 0) here

    tested : all_routes (take routes ps) ≡ (is_route q && all_routes (take (routes - suc i) others))
    tested =
        let one : routes - i ≡ suc (routes - suc i) = omega arith in
        rw (r.same, one, next)

    pub routed_there : at < length body
    routed_there = omega (arith, part_has_size q, length-append (part_bytes q) (joined others), ap length here, length-drop at body)

    not_route : is_route q ≡ false → false ≡ all_routes (take routes ps)
    not_route e = rw (tested, e)

    -- a part that is not 37 bytes long
    pub routed_long : (get_or body at 0 ≡ 37 → ⊥) → false ≡ all_routes (take routes ps)
    routed_long n = not_route (route_length_lem q (λ e. n (byte ∙ (first_byte q (joined others)).1 e)))

    module _ (size : get_or body at 0 ≡ 37) where
      long : length q ≡ 37
      long = (first_byte q (joined others)).0 (sym byte ∙ size)

      behind : drop (at + 1) body ≡ q ++ joined others
      behind = sym (drop-drop 1 at body) ∙ rw (here, part_short q (omega (arith, long)))

      -- it lies behind its size byte
      routed_part : take (at + 38 - (at + 1)) (drop (at + 1) body) ≡ q
      routed_part =
          let n : at + 38 - (at + 1) ≡ 37 = omega arith in
          rw (n, behind) (take_at q (joined others) 37 long)

      pub routed_fits : at + 38 ≤ length body
      routed_fits = omega (arith, long, ap length behind, length-drop (at + 1) body, length-append q (joined others), routed_there)

      pub routed_wrong : is_route (take (at + 38 - (at + 1)) (drop (at + 1) body)) ≡ false → false ≡ all_routes (take routes ps)
      routed_wrong e = not_route (ap is_route (sym routed_part) ∙ e)

      pub routed_more : is_route (take (at + 38 - (at + 1)) (drop (at + 1) body)) ≡ true → Routed body ps routes (i + 1)
      unfolding others
      routed_more e =
          let there : (i + 1) * 38 ≡ at + 1 + 37 = omega arith in
          let good : is_route q ≡ true = ap is_route (sym routed_part) ∙ e in
          record {
            left = rw (there, ← drop-drop 37 (at + 1) body, behind, add-one) (drop_at q (joined others) 37 long);
            same = tested ∙ rw (good, add-one);
            most = omega arith;
            within = omega (arith, routed_fits);
          }

-- ---- 8, of the first so many parts

module _ (ps : List (List ℕ)) (routes : ℕ) (few : routes ≤ length ps) where
  pub good_many : 64 < routes → false ≡ routes_good (take routes ps)
  unfolding routes_good
  good_many h = rw (length-take-le routes ps few, lt-leb routes 64 h)

  pub good_few : routes ≤ 64 → {t : Bool} → t ≡ all_routes (take routes ps) → t ≡ routes_good (take routes ps)
  unfolding routes_good
  good_few h e = rw (length-take-le routes ps few, le-leb routes 64 h) e
