-- Where the parts of a body lie: the data of each, the routing group, the header's bytes.
use mathlib.Core.Path.{◌≡◌, refl, sym, ap, ◌∙◌}
use Prim.Native.Nat.{ℕ, zero, suc, ◌+◌, ◌<◌, ◌≤◌}
use mathlib.Core.Bool.{Bool, true, false, cond}
use mathlib.Core.List.{List, [], ◌∷◌, ◌++◌, append-nil, append_assoc}
use native.Mathlib.Omega.{arith}
use native.Mathlib.Decide.{dec_le}
use native.Mathlib.Nat.{lt_of_not-le}
use borrow.Author.Tests.{eqb-true}
use lib.ListN.{length, get_or, take, drop, length-append, drop_of_length-le, take-append-drop}
use lib.Seq.{get_or-drop, drop-drop, take_all, take_at, split_at}
use Rattle.bytes_number.proofs.Truth.{and_right, true_false}
use Rattle.frame_message.specs.declared.Header.{Header}
use Rattle.frame_message.specs.Header.{has_route, has_topic, has_payload, parts_fit}
use Rattle.frame_forms.specs.Count.{one}
use Rattle.frame_forms.specs.Forms.{is_route}
use Rattle.frame_message.specs.Frame.{size_bytes, joined, group_if, part_if}
use Rattle.frame_message.specs.Writing.{routes_good}
use Rattle.frame_message.specs.Reading.{front, final, before_empty, routes_in, topic_place, payload_place, parts_agree}
use Rattle.frame_message.proofs.Lists.{front-final}
use Rattle.frame_message.proofs.Parts.{part_short, joined-append}
use Rattle.frame_message.proofs.Places.{before_all}
use Rattle.frame_body.specs.WorkingJudging.{group_in}
use Rattle.frame_body.proofs.Cursors.{At, at_behind}
use Rattle.frame_fault.specs.Fault.{data_start, header_data, header_of_parts, first_malformed, offending_route, topic_index}
use Rattle.frame_fault.specs.WorkingFaults.{size_length, Long}
use Rattle.frame_fault.proofs.Sizes.{byte_there, size_there}
use Rattle.frame_fault.proofs.Routes.{no_route}

-- ---- the data of a part

-- where a part begins, it lies within the body
pub taken_within : (ps : List (List ℕ)) (k : ℕ) → length (joined (take k ps)) ≤ length (joined ps)
taken_within ps k =
    omega (arith, ap (λ (qs : List (List ℕ)). length (joined qs)) (take-append-drop k ps), ap length (joined-append (take k ps) (drop k ps)), length-append (joined (take k ps)) (joined (drop k ps)))

module _ (body : List ℕ) (ps : List (List ℕ)) (whole : body ≡ joined ps) (k : ℕ) where
  abbrev at : ℕ
  at = length (joined (take k ps))

  -- the part with the index k, or none
  behind_end : length ps ≤ k → size_length (get_or body at 0) ≡ length (size_bytes (length (get_or ps k [])))
  behind_end h =
      let all : take k ps ≡ ps = take_all k ps h in
      let left : drop at body ≡ [] = drop_of_length-le body {i = at} (omega (arith, ap length whole, ap (λ (qs : List (List ℕ)). length (joined qs)) all)) in
      let none : get_or ps k [] ≡ [] = none_there ps k h in
      ap size_length (byte_there body at left) ∙ sym (ap (λ (q : List ℕ). length (size_bytes (length q))) none)
    where
      none_there : (qs : List (List ℕ)) (n : ℕ) → length qs ≤ n → get_or qs n [] ≡ []
      none_there [] n l = refl
      none_there (q ∷ qs) zero l = absurd (omega arith)
      none_there (q ∷ qs) (suc n) l = none_there qs n (omega arith)

  pub part_there : k < length ps → At body at (get_or ps k [] ∷ drop (suc k) ps)
  part_there h = at_behind body (take k ps) (get_or ps k [] ∷ drop (suc k) ps) (whole ∙ ap joined (split_at ps k [] h))

  pub data_start_lem : 8 + at + size_length (get_or body at 0) ≡ data_start ps k
  unfolding data_start
  data_start_lem = ap (λ (n : ℕ). 8 + at + n) (go (dec_le (length ps) k))
    where
      go : Dec (length ps ≤ k) → size_length (get_or body at 0) ≡ length (size_bytes (length (get_or ps k [])))
      go (yes h) = behind_end h
      go (no n) = size_there body at (get_or ps k []) (joined (drop (suc k) ps)) (part_there (lt_of_not-le n)).there

-- ---- the header

module _ (ps : List (List ℕ)) (long : Long ps) where
  pub some_part : 0 < length ps
  some_part = go ps long
    where
      go : (qs : List (List ℕ)) → length (final [] qs) ≡ 20 → 0 < length qs
      go [] e = absurd (omega arith)
      go (q ∷ qs) e = omega arith

  -- all in front of it, and the header
  pub two_halves : front ps ++ (final [] ps ∷ []) ≡ ps
  two_halves = front-final [] ps some_part

  pub header_start : header_data ps ≡ 8 + length (joined (front ps)) + 1
  unfolding data_start
  header_start = ap (λ (n : ℕ). 8 + length (joined (front ps)) + length (size_bytes n)) long

  -- its bytes
  module _ (body : List ℕ) (whole : body ≡ joined ps) where
    pub header_there : drop (length (joined (front ps)) + 1) body ≡ final [] ps
    header_there =
        let last = (at_behind body (front ps) (final [] ps ∷ []) (whole ∙ ap joined (sym two_halves))).there in
        sym (drop-drop 1 (length (joined (front ps))) body) ∙ rw (last, part_short (final [] ps) (omega (arith, long))) (append-nil (final [] ps))

    pub header-byte : (k : ℕ) → get_or body (length (joined (front ps)) + 1 + k) 0 ≡ get_or (final [] ps) k 0
    header-byte k = sym (get_or-drop (length (joined (front ps)) + 1) body k 0) ∙ ap (λ (s : List ℕ). get_or s k 0) header_there

-- ---- the routes

malformed_before : (n : ℕ) (qs : List (List ℕ)) → first_malformed n (before_empty qs) ≡ first_malformed n qs
malformed_before zero qs = refl
malformed_before (suc n) [] = refl
malformed_before (suc n) ([] ∷ qs) = rw no_route
malformed_before (suc n) ((x ∷ q) ∷ qs) = ap (λ (m : ℕ). cond (is_route (x ∷ q)) (suc m) 0) (malformed_before n qs)

malformed_front : (n : ℕ) (qs : List (List ℕ)) (p : List ℕ) → is_route p ≡ false → first_malformed n (qs ++ (p ∷ [])) ≡ first_malformed n qs
malformed_front zero qs p e = refl
malformed_front (suc n) [] p e = rw e
malformed_front (suc n) (q ∷ qs) p e = ap (λ (m : ℕ). cond (is_route q) (suc m) 0) (malformed_front n qs p e)

-- 8 comes only of a message with routes
pub some_routes : (h : Header) (fore : List (List ℕ)) → routes_good (routes_in h fore) ≡ false → has_route h.flags ≡ true
unfolding routes_good routes_in
some_routes h fore e = go (has_route h.flags) refl e
  where
    go : (t : Bool) → has_route h.flags ≡ t → routes_good (cond t (before_empty fore) []) ≡ false → has_route h.flags ≡ true
    go true k e = k
    go false k e = absurd (true_false e)

-- the first malformed of the routes is that of the parts: neither the delimiter nor the header is a route
pub offending : (ps : List (List ℕ)) → Long ps → is_route (final [] ps) ≡ false → has_route (header_of_parts ps).flags ≡ true → first_malformed 64 ps ≡ offending_route ps
unfolding offending_route routes_in
offending ps long none e =
    ap (first_malformed 64) (sym (two_halves ps long)) ∙ malformed_front 64 (front ps) (final [] ps) none ∙ sym (malformed_before 64 (front ps)) ∙ rw e

-- ---- the topic

group_length_lem : (r : Bool) (rs : List (List ℕ)) → length (group_if r rs) ≡ length (cond r rs []) + one r
group_length_lem true rs = length-append rs ([] ∷ [])
group_length_lem false rs = refl

pub group_taken : (ps : List (List ℕ)) → Long ps → parts_agree (header_of_parts ps) (front ps) ≡ true → take (topic_index ps) ps ≡ group_in (header_of_parts ps) (front ps)
unfolding topic_index topic_place routes_in parts_agree payload_place
group_taken ps long agree =
    let h = header_of_parts ps in
    let fore = front ps in
    let k = length (cond (has_route h.flags) (before_empty fore) []) + one (has_route h.flags) in
    let group = group_if (has_route h.flags) (before_empty fore) in
    let rest = part_if (has_topic h.flags) (get_or fore k []) ++ part_if (has_payload h.flags) (get_or fore (k + one (has_topic h.flags)) []) in
    let count = eqb-true (length fore) (k + one (has_topic h.flags) + one (has_payload h.flags)) (and_right (parts_fit h) _ agree) in
    let parts : group ++ rest ≡ fore = before_all (has_route h.flags) (has_topic h.flags) (has_payload h.flags) fore k refl count in
    let all : ps ≡ group ++ (rest ++ (final [] ps ∷ [])) = sym (two_halves ps long) ∙ ap (λ (qs : List (List ℕ)). qs ++ (final [] ps ∷ [])) (sym parts) ∙ append_assoc group rest (final [] ps ∷ []) in
    ap (take k) all ∙ take_at group (rest ++ (final [] ps ∷ [])) k (group_length_lem (has_route h.flags) (before_empty fore))
