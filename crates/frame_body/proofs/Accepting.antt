-- The pieces of a sorted body are the places of its message.
use mathlib.Core.Path.{◌≡◌, refl, sym, ap, ◌∙◌, subst}
use mathlib.Core.Bool.{Bool, true, false, cond, not, ◌&&◌}
use Prim.Native.Nat.{ℕ, suc, ◌+◌, ◌-◌, ◌<◌, ◌≤◌}
use mathlib.Core.List.{List, [], ◌∷◌, ◌++◌, append-nil}
use native.Mathlib.Omega.{arith}
use lib.Dec.{eqb, eqb-suc-zero}
use lib.ListN.{length, take, drop, length-append}
use lib.Seq.{length-take-le}
use Rattle.bytes_number.specs.Number.{Bytes}
use Rattle.frame_message.specs.declared.Header.{Header}
use Rattle.refusal.specs.Answer.{answered}
use Rattle.frame_message.specs.Header.{has_topic, has_payload, has_route, fields_good}
use Rattle.frame_message.proofs.Headers.{header_answers}
use Rattle.frame_message.specs.Message.{Message}
use Rattle.frame_message.specs.Frame.{size_bytes, part_bytes, joined, part_if, routing, topic_part, body_of, frame_of, parts_of}
use Rattle.frame_message.specs.Writing.{is_empty}
use Rattle.frame_message.specs.Reading.{front, final, before_empty, routes_in, is_topic_part, message_in, judged_as, judged}
use Rattle.bytes_number.proofs.Truth.{and_not}
use Rattle.frame_message.proofs.Lists.{bytes_part}
use Rattle.frame_message.proofs.Forms.{topic_parted}
use Rattle.frame_message.proofs.Parts.{split, joined-append}
use Rattle.frame_message.proofs.Messages.{held}
use Rattle.frame_message.proofs.Places.{kept_group}
use Rattle.std.specs.Prelude.{Option}
use Rattle.frame_message.specs.declared.Stretch.{Stretch}
use Rattle.frame_parts.specs.declared.PartCounts.{PartCounts}
use Rattle.frame_layout.specs.WorkingPlacing.{first_route, place, shown, without_zero, placed_in}
use Rattle.frame_layout.proofs.Placing.{place_in}
use Rattle.frame_layout.specs.Layout.{data_at, stretch_if, layout_of}
use Rattle.frame_body.specs.WorkingJudging.{parts_found, Found, piece_if, next_in, topic_wrong, group_in, Sorted}
use Rattle.frame_body.proofs.Cursors.{At, at_found, at_parts, at_some, at_next, at_data, at_if}
use Rattle.frame_body.proofs.Sorting.{judged_message, topic_data, payload_data, behind_topic, topic_at_lem}

-- ---- a part that is there if its flag is set

part_some : (flag : Bool) (q : List ℕ) (qs : List (List ℕ)) → 0 < length qs → 0 < length (part_if flag q ++ qs)
part_some true q qs h = omega arith
part_some false q qs h = h

part_few : (flag : Bool) (q : List ℕ) (qs : List (List ℕ)) → length (part_if flag q ++ qs) ≤ suc (length qs)
part_few true q qs = omega arith
part_few false q qs = omega arith

some_there : (body : List ℕ) (at : ℕ) (ps : List (List ℕ)) → At body at ps → 0 < length ps → 0 < length (drop at body)
some_there body at [] a h = absurd (omega arith)
some_there body at (p ∷ ps) a h = at_some body at p ps a

module _ (body : List ℕ) (at : ℕ) (flag : Bool) (q : List ℕ) (qs : List (List ℕ)) where
  abbrev piece : Option Stretch
  piece = piece_if flag at (part_if flag q ++ qs)

  piece_next : next_in at piece ≡ at + length (joined (part_if flag q))
  piece_next = go flag
    where
      go : (t : Bool) → next_in at (piece_if t at (part_if t q ++ qs)) ≡ at + length (joined (part_if t q))
      go true = omega (arith, ap length (append-nil (part_bytes q)), length-append (size_bytes (length q)) q)
      go false = omega arith

  -- 9, of the bytes that lie there
  piece_tested : At body at (part_if flag q ++ qs) → topic_wrong piece body ≡ (flag && not (is_topic_part q))
  piece_tested a = go flag a
    where
      go : (t : Bool) → At body at (part_if t q ++ qs) → topic_wrong (piece_if t at (part_if t q ++ qs)) body ≡ (t && not (is_topic_part q))
      go true a =
          let size = length (size_bytes (length q)) in
          let whole : at + size + length q ≡ at + length (part_bytes q) = omega (arith, length-append (size_bytes (length q)) q) in
          ap (λ (n : ℕ). not (is_topic_part (take (n - (at + size)) (drop (at + size) body)))) whole ∙ rw (at_data body at q qs a)
      go false a = refl

  piece_within : At body at (part_if flag q ++ qs) → next_in 0 piece ≤ length body
  piece_within a = go flag a
    where
      go : (t : Bool) → At body at (part_if t q ++ qs) → next_in 0 (piece_if t at (part_if t q ++ qs)) ≤ length body
      go true a = omega (arith, (at_next body at q qs a).within, length-append (size_bytes (length q)) q)
      go false a = omega arith

  -- where it is shown, and how much of it: n is the place at which it begins, and p the part
  module _ (a : At body at (part_if flag q ++ qs)) (short : length body ≤ 32768) (n : ℕ) (p : List ℕ) (e : n ≡ at) (same : flag ≡ true → p ≡ q) where
    piece_shown : shown piece ≡ stretch_if flag (8 + n + length (size_bytes (length p))) (length (cond flag q []))
    piece_shown = go flag same a
      where
        go : (t : Bool) → (t ≡ true → p ≡ q) → At body at (part_if t q ++ qs) → shown (piece_if t at (part_if t q ++ qs)) ≡ stretch_if t (8 + n + length (size_bytes (length p))) (length (cond t q []))
        go true same a =
            let size = length (size_bytes (length q)) in
            let here : place (at + size) ≡ 8 + n + length (size_bytes (length p)) =
            place_in (at + size) (omega (arith, short, (at_next body at q qs a).within, length-append (size_bytes (length q)) q)) ∙ rw (same refl, e) (omega arith) in
            λ i. record { start = here i; len = length q }
        go false same a = refl

    topic_shown : shown (without_zero piece) ≡ stretch_if flag (8 + n + length (size_bytes (length p))) (length (cond flag (front q) []))
    topic_shown = go flag same a
      where
        go : (t : Bool) → (t ≡ true → p ≡ q) → At body at (part_if t q ++ qs) → shown (without_zero (piece_if t at (part_if t q ++ qs))) ≡ stretch_if t (8 + n + length (size_bytes (length p))) (length (cond t (front q) []))
        go true same a =
            let size = length (size_bytes (length q)) in
            let here : place (at + size) ≡ 8 + n + length (size_bytes (length p)) =
            place_in (at + size) (omega (arith, short, (at_next body at q qs a).within, length-append (size_bytes (length q)) q)) ∙ rw (same refl, e) (omega arith) in
            λ i. record { start = here i; len = (sym (length-take-le (length q - 1) q (omega arith))) i }
        go false same a = refl

empty_count : {A : Type 0} (xs : List A) → is_empty xs ≡ eqb (length xs) 0
empty_count [] = refl
empty_count (x ∷ xs) = sym (eqb-suc-zero (length xs))

part_same : (flag : Bool) (p q : List ℕ) → (flag ≡ true → p ≡ q) → part_if flag p ≡ part_if flag q
part_same true p q e = rw (e refl)
part_same false p q e = refl

-- a topic that is shown without its zero byte, with it again
topic_again : (flag : Bool) (q : List ℕ) → (flag && not (is_topic_part q)) ≡ false → flag ≡ true → cond flag (front q) [] ++ (0 ∷ []) ≡ q
topic_again flag q e set = rw set (topic_parted q (and_not flag (is_topic_part q) e set))

-- ---- the pieces of the body

module _ (body : List ℕ) (counts : PartCounts) (h : Header) (routes : ℕ) (s : Sorted body counts h routes) (b : Bytes body) (at : ℕ) (place : at ≡ length (joined (group_in h (front (parts_found body))))) where
  abbrev rest : List (List ℕ)
  rest = behind_topic body counts h routes s b

  abbrev topic_is : List ℕ
  topic_is = topic_data body counts h routes s b

  abbrev payload_is : List ℕ
  payload_is = payload_data body counts h routes s b

  rest_few : length rest ≤ 2
  rest_few = part_few (has_payload h.flags) payload_is (final [] (parts_found body) ∷ [])

  abbrev from_topic : List (List ℕ)
  from_topic = part_if (has_topic h.flags) topic_is ++ rest

  here : At body at from_topic
  here = topic_at_lem body counts h routes s b at place

  few : length from_topic ≤ 68
  few = omega (arith, part_few (has_topic h.flags) topic_is rest, rest_few)

  pub topic_in : at ≤ length body
  topic_in = here.within

  pub topic_found : Found (drop at body)
  topic_found = at_found body at from_topic here s.head.short few

  pub topic_some : 0 < length (drop at body)
  topic_some = some_there body at from_topic here (part_some (has_topic h.flags) topic_is rest (part_some (has_payload h.flags) payload_is (final [] (parts_found body) ∷ []) (omega arith)))

  module _ (topic : Option Stretch) (et : topic ≡ piece_if (has_topic h.flags) at (parts_found (drop at body))) where
    topic_is_lem : topic ≡ piece_if (has_topic h.flags) at from_topic
    topic_is_lem = et ∙ ap (piece_if (has_topic h.flags) at) (at_parts body at from_topic here s.head.short few)

    pub topic_within : next_in 0 topic ≤ length body
    topic_within = rw topic_is_lem (piece_within body at (has_topic h.flags) topic_is rest here)

    pub topic_tested : topic_wrong topic body ≡ (has_topic h.flags && not (is_topic_part topic_is))
    topic_tested = rw topic_is_lem (piece_tested body at (has_topic h.flags) topic_is rest here)

    -- and the next part begins there
    module _ (next : ℕ) (en : next ≡ next_in at topic) where
      next_is : next ≡ at + length (joined (part_if (has_topic h.flags) topic_is))
      next_is = en ∙ ap (next_in at) topic_is_lem ∙ piece_next body at (has_topic h.flags) topic_is rest

      behind : At body next rest
      behind = subst (λ (n : ℕ). At body n rest) (sym next_is) (at_if body at (has_topic h.flags) topic_is rest here)

      pub payload_in : next ≤ length body
      payload_in = behind.within

      pub payload_found : Found (drop next body)
      payload_found = at_found body next rest behind s.head.short (omega (arith, rest_few))

      pub payload_some : 0 < length (drop next body)
      payload_some = some_there body next rest behind (part_some (has_payload h.flags) payload_is (final [] (parts_found body) ∷ []) (omega arith))

      module _ (payload : Option Stretch) (ep : payload ≡ piece_if (has_payload h.flags) next (parts_found (drop next body))) (good : (has_topic h.flags && not (is_topic_part topic_is)) ≡ false) where
        payload_is_lem : payload ≡ piece_if (has_payload h.flags) next rest
        payload_is_lem = ep ∙ ap (piece_if (has_payload h.flags) next) (at_parts body next rest behind s.head.short (omega (arith, rest_few)))

        abbrev m : Message
        m = message_in h (front (parts_found body))

        routing_long : length (joined (routing m)) ≡ at
        unfolding message_in routes_in
        routing_long =
            ap (λ (qs : List (List ℕ)). length (joined qs)) (kept_group (has_route h.flags) (before_empty (front (parts_found body)))) ∙ sym place

        topic_part_is : topic_part m ≡ part_if (has_topic h.flags) topic_is
        unfolding message_in
        topic_part_is = part_same (has_topic h.flags) _ topic_is (topic_again (has_topic h.flags) topic_is good)

        topic_long_at : length (joined (routing m ++ topic_part m)) ≡ next
        topic_long_at = omega (arith, ap length (joined-append (routing m) (topic_part m)), length-append (joined (routing m)) (joined (topic_part m)), routing_long, ap (λ (qs : List (List ℕ)). length (joined qs)) topic_part_is, next_is)

        module _ (fields : fields_good h ≡ true) where
          pub answer_is : judged_as h (front (parts_found body)) ≡ answered m
          answer_is = judged_message h (front (parts_found body)) s.agree s.good good fields

          judged_is : judged (parts_found body) ≡ answered m
          unfolding judged
          judged_is = rw (header_answers _ s.head.headed, ← s.head.same) answer_is

          frame_long : 8 + length body ≡ length (frame_of m)
          unfolding frame_of body_of
          frame_long =
              let parts = split 68 body (parts_found body) b s.head.over.found in
              let same : joined (parts_of m) ≡ body = ap joined (held (parts_found body) m (bytes_part (parts_found body) _ parts.bytes) judged_is).same ∙ sym parts.same in
              omega (arith, ap length same)

          abbrev head : List (List ℕ)
          head = final [] (parts_found body) ∷ []

          route_is : first_route routes ≡ cond (is_empty m.routes) 0 9
          unfolding message_in
          route_is = ap first_route s.count ∙ ap (λ (t : Bool). cond t 0 9) (sym (empty_count (routes_in h (front (parts_found body)))))

          topic_lies : shown (without_zero topic) ≡ stretch_if (has_topic h.flags) (data_at (routing m) (m.topic ++ (0 ∷ []))) (length m.topic)
          unfolding message_in
          topic_lies =
              ap (λ (t : Option Stretch). shown (without_zero t)) topic_is_lem
              ∙ topic_shown body at (has_topic h.flags) topic_is rest here s.head.short (length (joined (routing m))) _ routing_long (topic_again (has_topic h.flags) topic_is good)

          payload_lies : shown payload ≡ stretch_if (has_payload h.flags) (data_at (routing m ++ topic_part m) m.payload) (length m.payload)
          unfolding message_in
          payload_lies =
              ap shown payload_is_lem
              ∙ piece_shown body next (has_payload h.flags) payload_is head behind s.head.short (length (joined (routing m ++ topic_part m))) (cond (has_payload h.flags) payload_is []) topic_long_at (λ e. rw e)

          pub placed_is : placed_in (length body) h routes topic payload ≡ layout_of m
          unfolding layout_of message_in
          placed_is =
              λ i. record {
                taken = (place_in (length body) s.head.short ∙ frame_long) i;
                header = h;
                routes = s.count i;
                route = route_is i;
                topic = topic_lies i;
                payload = payload_lies i;
              }
