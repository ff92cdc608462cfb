-- The rows of the ticket with more than one condition: what is known of the parts is what the row says, and the byte is the row's.
use mathlib.Core.Path.{◌≡◌, refl, sym, ap, subst, ◌∙◌}
use Prim.Native.Nat.{ℕ, suc, ◌+◌, ◌<◌, ◌≤◌}
use mathlib.Core.Bool.{Bool, true, false, cond, not}
use mathlib.Core.List.{List, [], ◌∷◌, ◌++◌, append_assoc}
use native.Mathlib.Omega.{arith}
use native.Mathlib.Decide.{ℕ_discrete, dec_le}
use native.Mathlib.Nat.{lt_of_not-le}
use borrow.Author.Tests.{eqb-true, eq-eqb, ne_eqb, not-false}
use lib.Dec.{eqb}
use lib.ListN.{length, get_or, take, drop, length-append, length-drop, get_or-append}
use lib.Seq.{take-append-le, split_at}
use Rattle.bytes_number.proofs.Truth.{true_false, and_right}
use Rattle.frame_forms.specs.Count.{one}
use Rattle.frame_message.specs.declared.Header.{Header}
use Rattle.frame_message.specs.Header.{has_route, has_topic, has_payload, parts_fit, fields_good, header_in}
use Rattle.frame_message.specs.Working.{is_header}
use Rattle.frame_message.specs.Frame.{joined, group_if, part_if}
use Rattle.frame_message.specs.Writing.{routes_good}
use Rattle.frame_message.specs.Reading.{front, final, before_empty, routes_in, topic_place, payload_place, parts_agree, is_topic_part, body_length}
use Rattle.frame_message.proofs.Fields.{request_fields, event_good, free_fields}
use Rattle.frame_message.proofs.Headers.{header_tested}
use Rattle.frame_message.proofs.Lists.{front-final}
use Rattle.frame_message.proofs.Places.{before_all}
use Rattle.frame_body.specs.WorkingJudging.{group_in}
use Rattle.frame_fault.specs.Fault.{body_in, size_byte, data_start, header_data, header_of_parts, first_malformed, offending_route, topic_index, field_byte}
use Rattle.frame_fault.specs.WorkingFaults.{Long}
use Rattle.frame_fault.proofs.Parts.{two_halves, header_start, some_routes, group_taken}
use Rattle.claim_faults.specs.Faults.{data_byte, header_at, FaultAt, no_part, length_wrong, route_wrong, route_65, topic_wrong, nodeid_wrong, unused_wrong}
use Rattle.claim_faults.proofs.Frames.{number_is, type_is, flags_are, right_header}
use Rattle.claim_faults.proofs.Malformed.{Malformed, malformed, not_good, before_rest}

-- a byte that is the row's
pub told_at : {b : List ℕ} {n x y : ℕ} → x ≡ y → FaultAt b n x → FaultAt b n y
told_at {b} {n} e f = subst (FaultAt b n) e f

-- ---- 6

pub last_part : (b : List ℕ) (ps : List (List ℕ)) → body_in b ≡ joined ps → (length (final [] ps) ≡ 20 → ⊥) → FaultAt b 6 (size_byte (front ps))
last_part b [] whole n = no_part whole
last_part b (q ∷ qs) whole n = length_wrong (front (q ∷ qs)) (final [] (q ∷ qs)) (whole ∙ ap joined (sym (front-final [] (q ∷ qs) (omega arith)))) n

module _ (b : List ℕ) (fits : 8 + body_length b ≤ length b) (ps : List (List ℕ)) (whole : body_in b ≡ joined ps) where
  abbrev fore : List (List ℕ)
  fore = front ps

  abbrev p : List ℕ
  p = final [] ps

  abbrev h : Header
  h = header_of_parts ps

  pub header_is_at : Long ps → header_at fore ≡ header_data ps
  header_is_at long = omega (arith, header_start ps long)

  -- ---- what stands in front of all the parts, stands in front

  module _ (long : Long ps) (qs more : List (List ℕ)) (e : qs ++ more ≡ fore) (k : ℕ) (l : k < length qs) where
    all : ps ≡ qs ++ (more ++ (p ∷ []))
    all = sym (two_halves ps long) ∙ ap (λ (t : List (List ℕ)). t ++ (p ∷ [])) (sym e) ∙ append_assoc qs more (p ∷ [])

    in_front : data_byte (take k qs) (get_or qs k []) ≡ data_start ps k
    unfolding data_start
    in_front =
        let taken : take k ps ≡ take k qs = ap (take k) all ∙ take-append-le k qs (more ++ (p ∷ [])) (omega arith) in
        let part : get_or ps k [] ≡ get_or qs k [] = ap (λ (t : List (List ℕ)). get_or t k []) all ∙ get_or-append qs (more ++ (p ∷ [])) [] k l in
        rw (taken, part)

  -- ---- 8

  module _ (is : is_header p ≡ true) (bad : routes_good (routes_in h fore) ≡ false) where
    long_route : Long ps
    long_route = (header_tested p is).long

    abbrev rs : List (List ℕ)
    rs = before_empty fore

    flagged : has_route h.flags ≡ true
    flagged = some_routes h fore bad

    routes_are : routes_in h fore ≡ rs
    unfolding routes_in
    routes_are = rw flagged

    abbrev k : ℕ
    k = first_malformed 64 rs

    found : Malformed 64 rs k
    found = malformed 64 rs (not_good rs (sym (ap routes_good routes_are) ∙ bad))

    route_byte : data_byte (take k rs) (get_or rs k []) ≡ data_start ps (offending_route ps)
    unfolding offending_route
    route_byte = in_front long_route rs (drop (length rs) fore) (before_rest fore) k found.there ∙ ap (λ (qs : List (List ℕ)). data_start ps (first_malformed 64 qs)) (sym routes_are)

    has_flag : has_route (get_or b (header_at fore + 3) 0) ≡ true
    unfolding header_in
    has_flag = ap has_route (flags_are b fits ps whole long_route) ∙ flagged

    cut_at : rs ≡ take k rs ++ get_or rs k [] ∷ drop (suc k) rs
    cut_at = split_at rs k [] found.there

    front_long : length (take k rs) ≡ k
    front_long = omega (arith, ap length cut_at, length-append (take k rs) (get_or rs k [] ∷ drop (suc k) rs), length-drop (suc k) rs, found.there)

    pub route_row : FaultAt b 8 (data_start ps (offending_route ps))
    route_row = told_at route_byte (go (dec_le 64 k))
      where
        go : Dec (64 ≤ k) → FaultAt b 8 (data_byte (take k rs) (get_or rs k []))
        go (yes l) = route_65 fore p (right_header b fits ps whole long_route is) has_flag (take k rs) (get_or rs k []) (drop (suc k) rs) cut_at found.good (omega (arith, front_long, found.few))
        go (no n) =
            let below = lt_of_not-le n in
            route_wrong fore p (right_header b fits ps whole long_route is) has_flag (take k rs) (get_or rs k []) (drop (suc k) rs) cut_at found.good (omega (arith, front_long)) (found.wrong below)

  -- ---- 9

  module _ (is : is_header p ≡ true) (agree : parts_agree h fore ≡ true) (titled : has_topic h.flags ≡ true) (wrong : is_topic_part (get_or fore (topic_place h fore) []) ≡ false) where
    long_topic : Long ps
    long_topic = (header_tested p is).long

    abbrev place : ℕ
    place = topic_place h fore

    abbrev payload : List (List ℕ)
    payload = part_if (has_payload h.flags) (get_or fore (place + one (has_topic h.flags)) [])

    group_front : group_in h fore ++ (get_or fore place [] ∷ payload) ≡ fore
    unfolding parts_agree payload_place topic_place routes_in
    group_front =
        let count = eqb-true (length fore) (payload_place h fore + one (has_payload h.flags)) (and_right (parts_fit h) _ agree) in
        let parts = before_all (has_route h.flags) (has_topic h.flags) (has_payload h.flags) fore (topic_place h fore) refl count in
        sym (ap (λ (t : Bool). group_in h fore ++ (part_if t (get_or fore place []) ++ payload)) titled) ∙ parts

    group_is : take place ps ≡ group_in h fore
    unfolding topic_index
    group_is = group_taken ps long_topic agree

    place_long : place ≡ length (group_in h fore)
    unfolding topic_place routes_in
    place_long = go (has_route h.flags) (before_empty fore)
      where
        go : (t : Bool) (qs : List (List ℕ)) → length (cond t qs []) + one t ≡ length (group_if t qs)
        go true qs = sym (length-append qs ([] ∷ []))
        go false qs = refl

    topic_byte : data_byte (group_in h fore) (get_or fore place []) ≡ data_start ps (topic_index ps)
    unfolding data_start topic_index
    topic_byte =
        let inside : place < length fore = omega (arith, place_long, ap length group_front, length-append (group_in h fore) (get_or fore place [] ∷ payload)) in
        let part : get_or ps place [] ≡ get_or fore place [] = ap (λ (t : List (List ℕ)). get_or t place []) (sym (two_halves ps long_topic)) ∙ get_or-append fore (p ∷ []) [] place inside in
        rw (group_is, part)

    pub topic_row : FaultAt b 9 (data_start ps (topic_index ps))
    unfolding header_in
    topic_row =
        let flags = flags_are b fits ps whole long_topic in
        told_at topic_byte
        (topic_wrong fore p (right_header b fits ps whole long_topic is) (ap has_topic flags ∙ titled) (group_in h fore) (get_or fore place []) payload (ap (λ (f : ℕ). group_if (has_route f) (before_empty fore)) (sym flags)) (sym group_front) wrong)

  -- ---- 10

  module _ (is : is_header p ≡ true) (bad : fields_good h ≡ false) where
    long_field : Long ps
    long_field = (header_tested p is).long

    pub field_row : FaultAt b 10 (header_data ps + field_byte h)
    unfolding header_in field_byte
    field_row = go (ℕ_discrete h.kind 1) (ℕ_discrete h.kind 4)
      where
        go : Dec (h.kind ≡ 1) → Dec (h.kind ≡ 4) → FaultAt b 10 (header_data ps + cond (eqb h.kind 1) 12 16)
        go (yes e) other =
            let first : h.first ≡ 4294967294 = eqb-true h.first 4294967294 (not_false' (sym (request_fields h e) ∙ bad)) in
            let field = number_is b fits ps whole long_field 12 (header_at fore + 12) (omega arith) (omega arith) in
            rw (eq-eqb h.kind 1 e)
            (told_at (ap (λ (x : ℕ). x + 12) (header_is_at long_field))
            (nodeid_wrong fore p (right_header b fits ps whole long_field is) (type_is b fits ps whole long_field ∙ e) (field ∙ first)))
          where
            not_false' : not (eqb h.first 4294967294) ≡ false → eqb h.first 4294967294 ≡ true
            not_false' t = not-false _ t
        go (no n) (yes e) =
            let field = number_is b fits ps whole long_field 16 (header_at fore + 16) (omega arith) (omega arith) in
            rw (ne_eqb h.kind 1 n)
            (told_at (ap (λ (x : ℕ). x + 16) (header_is_at long_field))
            (unused_wrong fore p (right_header b fits ps whole long_field is) (type_is b fits ps whole long_field ∙ e) (λ z. true_false (sym (event_good h n e (sym field ∙ z)) ∙ bad))))
        go (no n) (no m) = absurd (true_false (sym (free_fields h n m) ∙ bad))
