-- The first malformed route: the test of one part, and the loop over them.
use mathlib.Core.Path.{◌≡◌, refl, sym, ap, subst, ◌∙◌}
use Prim.Native.Nat.{ℕ, zero, suc, ◌+◌, ◌-◌, ◌*◌, ◌<◌, ◌≤◌}
use native.Mathlib.Numerals.{add-one}
use mathlib.Core.Bool.{true, false}
use mathlib.Core.List.{List, [], ◌∷◌, ◌++◌}
use native.Mathlib.Omega.{arith}
use native.Mathlib.Decide.{dec_le}
use native.Mathlib.Nat.{lt_of_not-le}
use lib.ListN.{length, get_or, take, drop, length-append, length-drop, drop_of_length-le}
use lib.Seq.{drop-cons, drop-drop, take_at, take-suc}
use Rattle.bytes_number.specs.Number.{Bytes}
use Rattle.bytes_number.proofs.Numbers.{bytes_drop}
use Rattle.bytes_number.proofs.Truth.{true_false}
use Rattle.frame_forms.specs.Forms.{is_route}
use Rattle.frame_forms.proofs.Routes as forms
use Rattle.frame_message.specs.Frame.{part_bytes, joined}
use Rattle.frame_message.proofs.Forms.{route_length_lem}
use Rattle.frame_message.proofs.Parts.{split, part_short}
use Rattle.frame_parts.proofs.Passing.{joined_snoc}
use Rattle.frame_body.specs.WorkingJudging.{parts_found, Found}
use Rattle.frame_body.proofs.Stretches.{PartBegins, begins, first_byte}
use Rattle.frame_body.proofs.Cursors.{At, at_parts, at_found, at_next}
use Rattle.frame_fault.specs.Fault.{first_malformed}
use Rattle.frame_fault.specs.WorkingAlike.{Alike}
use Rattle.frame_fault.proofs.Sizes.{byte_there}

-- no bytes are no route
pub no_route : is_route [] ≡ false
no_route = forms.route_length_lem [] (λ e. omega arith)

-- a route's part has 38 bytes
pub route_part_lem : (q : List ℕ) → length q ≡ 37 → length (part_bytes q) ≡ 38
route_part_lem q e = ap length (part_short q (omega (arith, e))) ∙ ap suc e

-- ---- the part q, which begins at a place of the body

module _ (body : List ℕ) (at : ℕ) (q rest : List ℕ) (here : drop at body ≡ part_bytes q ++ rest) where
  part_short_of : length body - at < 38 → is_route q ≡ false
  part_short_of h =
      forms.route_length_lem q (λ e. omega (arith, route_part_lem q e, ap length here, length-drop at body, length-append (part_bytes q) rest))

  part_other : (get_or body at 0 ≡ 37 → ⊥) → is_route q ≡ false
  part_other n = forms.route_length_lem q (λ e. n (byte_there body at here ∙ (first_byte q rest).1 e))

  part_data : get_or body at 0 ≡ 37 → take (at + 38 - (at + 1)) (drop (at + 1) body) ≡ q
  part_data size =
      let long : length q ≡ 37 = (first_byte q rest).0 (sym (byte_there body at here) ∙ size) in
      let behind : drop (at + 1) body ≡ q ++ rest = sym (drop-drop 1 at body) ∙ rw (here, part_short q (omega (arith, long))) in
      let n : at + 38 - (at + 1) ≡ 37 = omega arith in
      rw (n, behind) (take_at q rest 37 long)

-- ---- by the tests of the code

module _ (body : List ℕ) (at : ℕ) (b : Bytes body) (f : Found (drop at body)) where
  abbrev first : List ℕ
  first = get_or (parts_found (drop at body)) 0 []

  pub at_short : length body - at < 38 → false ≡ is_route first
  at_short h = go (parts_found (drop at body)) (split 68 (drop at body) _ (bytes_drop at body b) f).same
    where
      go : (ps : List (List ℕ)) → drop at body ≡ joined ps → false ≡ is_route (get_or ps 0 [])
      go [] e = sym no_route
      go (q ∷ qs) e = sym (part_short_of body at q (joined qs) e h)

  module _ (room : 38 ≤ length body - at) where
    abbrev begun : PartBegins (drop at body)
    begun = begins (drop at body) (bytes_drop at body b) f (omega (arith, length-drop at body))

    is_first : is_route begun.part ≡ is_route first
    is_first = ap (λ (ps : List (List ℕ)). is_route (get_or ps 0 [])) (sym begun.found)

    pub at_other : (get_or body at 0 ≡ 37 → ⊥) → false ≡ is_route first
    at_other n = sym (part_other body at begun.part (joined begun.others) begun.same n) ∙ is_first

    pub at_route : get_or body at 0 ≡ 37 → is_route (take (at + 38 - (at + 1)) (drop (at + 1) body)) ≡ is_route first
    at_route size = ap is_route (part_data body at begun.part (joined begun.others) begun.same size) ∙ is_first

-- ---- the loop: i routes are passed, and the next part begins at a place of the body

pub record Leads (body : List ℕ) (ps : List (List ℕ)) (i at : ℕ) : Type 0 where
  pub there : At body at (drop i ps)
  pub left : first_malformed 64 ps ≡ i + first_malformed (64 - i) (drop i ps)
  pub bytes : at ≡ length (joined (take i ps))
  pub most : i ≤ 64

pub leads_none : (body : List ℕ) (ps : List (List ℕ)) → body ≡ joined ps → Leads body ps 0 0
leads_none body ps e = record { there = record { there = e; within = omega arith }; left = omega arith; bytes = refl; most = omega arith }

-- where the first of the parts is no route, none is passed
none_first : (n : ℕ) (qs : List (List ℕ)) → is_route (get_or qs 0 []) ≡ false → first_malformed n qs ≡ 0
none_first zero qs e = refl
none_first (suc n) [] e = refl
none_first (suc n) (q ∷ qs) e = rw e

module _ {body : List ℕ} {ps : List (List ℕ)} {i at : ℕ} (l : Leads body ps i at) (short : length body ≤ 32768) (few : length ps ≤ 68) where
  left_few : length (drop i ps) ≤ 68
  left_few = omega (arith, length-drop i ps)

  pub leads_found : Found (drop at body)
  leads_found = at_found body at (drop i ps) l.there short left_few

  found_left : parts_found (drop at body) ≡ drop i ps
  found_left = at_parts body at (drop i ps) l.there short left_few

  -- the part that is looked at
  looked : is_route (get_or (parts_found (drop at body)) 0 []) ≡ is_route (get_or (drop i ps) 0 [])
  looked = ap (λ (qs : List (List ℕ)). is_route (get_or qs 0 [])) found_left

  ends : first_malformed (64 - i) (drop i ps) ≡ 0 → at ≡ length (joined (take (first_malformed 64 ps) ps))
  ends e =
      let passed : i ≡ first_malformed 64 ps = omega (arith, l.left, e) in
      l.bytes ∙ ap (λ (n : ℕ). length (joined (take n ps))) passed

  pub leads_out : is_route (get_or (parts_found (drop at body)) 0 []) ≡ false → at ≡ length (joined (take (first_malformed 64 ps) ps))
  leads_out e = ends (none_first (64 - i) (drop i ps) (sym looked ∙ e))

  pub leads_all : 64 ≤ i → at ≡ length (joined (take (first_malformed 64 ps) ps))
  leads_all h =
      let none : 64 - i ≡ 0 = omega (arith, l.most) in
      ends (ap (λ (n : ℕ). first_malformed n (drop i ps)) none)

  module _ (route : is_route (get_or (parts_found (drop at body)) 0 []) ≡ true) where
    abbrev q : List ℕ
    q = get_or ps i []

    -- there is one
    some : i < length ps
    some = go (dec_le (length ps) i)
      where
        go : Dec (length ps ≤ i) → i < length ps
        go (no n) = lt_of_not-le n
        go (yes h) = absurd (true_false (sym route ∙ looked ∙ ap (λ (qs : List (List ℕ)). is_route (get_or qs 0 [])) (drop_of_length-le ps h) ∙ no_route))

    next : drop i ps ≡ q ∷ drop (suc i) ps
    next = drop-cons ps i [] some

    is_route_lem : is_route q ≡ true
    is_route_lem = ap (λ (qs : List (List ℕ)). is_route (get_or qs 0 [])) (sym next) ∙ sym looked ∙ route

    long : length (part_bytes q) ≡ 38
    long = route_part_lem q (route_length_lem q is_route_lem)

    moved : At body (at + 38) (drop (suc i) ps)
    moved = subst (λ (n : ℕ). At body (at + n) (drop (suc i) ps)) long (at_next body at q (drop (suc i) ps) (subst (At body at) next l.there))

    pub leads_within : at + 38 ≤ length body
    leads_within = moved.within

    module _ (more : i < 64) where
      fewer : first_malformed (64 - i) (drop i ps) ≡ suc (first_malformed (64 - suc i) (drop (suc i) ps))
      fewer =
          let one : 64 - i ≡ suc (64 - suc i) = omega arith in
          rw (one, next, is_route_lem)

      pub leads_more : Leads body ps (i + 1) (at + 38)
      leads_more =
          rw (add-one i)
          (record {
            there = moved;
            left = omega (arith, l.left, fewer);
            bytes = omega (arith, l.bytes, ap (λ (qs : List (List ℕ)). length (joined qs)) (take-suc ps i [] some), ap length (joined_snoc (take i ps) q), length-append (joined (take i ps)) (part_bytes q), long);
            most = omega arith;
          })

-- ---- of the loop: so many routes of 38 bytes are passed

abbrev pub Passes : List ℕ → List (List ℕ) → ℕ → Type 0
Passes body ps n = Leads body ps n (38 * n)

module _ {body : List ℕ} {ps : List (List ℕ)} {i : ℕ} (p : Passes body ps i) (short : length body ≤ 32768) (few : length ps ≤ 68) where
  pub passes_more : is_route (get_or (parts_found (drop (38 * i) body)) 0 []) ≡ true → i < 64 → Passes body ps (i + 1)
  passes_more route h =
      let there : 38 * i + 38 ≡ 38 * (i + 1) = omega arith in
      subst (Leads body ps (i + 1)) there (leads_more p short few route h)

  -- a part whose size is known
  module _ (b : Bytes body) {n : ℕ} (a : Alike body n) (more : i < n) where
    pub known_fits : 38 * i + 38 < length body
    known_fits = omega (arith, a.behind (omega arith))

    pub known_route : is_route (take (38 * i + 38 - (38 * i + 1)) (drop (38 * i + 1) body)) ≡ is_route (get_or (parts_found (drop (38 * i) body)) 0 [])
    known_route = at_route body (38 * i) b (leads_found p short few) (omega (arith, known_fits)) (a.sizes i more)
