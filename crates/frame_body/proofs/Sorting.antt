-- A body whose parts are as many as its header asks for: which of them is what, and where it begins.
use mathlib.Core.Path.{◌≡◌, refl, sym, ap, ◌∙◌}
use mathlib.Core.Bool.{true, false, not, ◌&&◌}
use Prim.Native.Nat.{ℕ, suc, ◌+◌, ◌*◌, ◌<◌}
use mathlib.Core.List.{List, [], ◌∷◌, ◌++◌, append_assoc}
use native.Mathlib.Omega.{arith}
use borrow.Author.Tests.{eqb-true}
use lib.ListN.{length, get_or, length-append}
use Rattle.bytes_number.specs.Number.{Bytes}
use Rattle.frame_message.specs.declared.Header.{Header}
use Rattle.refusal.specs.declared.Refusal.TheVariants.{PartsDisagree, RouteWrong, TopicWrong, FieldWrong}
use Rattle.refusal.specs.Answer.{refused, answered}
use Rattle.frame_message.specs.Header.{has_topic, has_payload, has_route, parts_fit, fields_good}
use Rattle.frame_message.specs.Frame.{part_bytes, joined, part_if}
use Rattle.frame_message.specs.Writing.{routes_good}
use Rattle.frame_forms.specs.Count.{one}
use Rattle.frame_message.specs.Reading.{front, final, routes_in, topic_place, payload_place, parts_agree, is_topic_part, message_in, judged_as}
use Rattle.bytes_number.proofs.Truth.{and_right}
use Rattle.frame_message.proofs.Lists.{Each, front-final}
use Rattle.frame_message.proofs.Headers.{header_tested}
use Rattle.frame_message.proofs.Parts.{split, part_short}
use Rattle.frame_parts.specs.declared.PartCounts.{PartCounts}
use Rattle.frame_message.proofs.Places.{before_all}
use Rattle.frame_body.specs.WorkingJudging.{parts_found, group_in, Sorted}
use Rattle.frame_body.proofs.Cursors.{At, at_behind}

-- ---- 7 to 10, one test after the other

module _ (h : Header) (ps : List (List ℕ)) where
  pub judged_parts : parts_agree h ps ≡ false → judged_as h ps ≡ refused PartsDisagree
  unfolding judged_as
  judged_parts e = rw e

  module _ (agree : parts_agree h ps ≡ true) where
    pub judged_routes : routes_good (routes_in h ps) ≡ false → judged_as h ps ≡ refused RouteWrong
    unfolding judged_as
    judged_routes e = rw (agree, e)

    module _ (good : routes_good (routes_in h ps) ≡ true) where
      pub judged_topic : (has_topic h.flags && not (is_topic_part (get_or ps (topic_place h ps) []))) ≡ true → judged_as h ps ≡ refused TopicWrong
      unfolding judged_as
      judged_topic e = rw (agree, good, e)

      module _ (topic : (has_topic h.flags && not (is_topic_part (get_or ps (topic_place h ps) []))) ≡ false) where
        pub judged_field : fields_good h ≡ false → judged_as h ps ≡ refused FieldWrong
        unfolding judged_as
        judged_field e = rw (agree, good, topic, e)

        pub judged_message : fields_good h ≡ true → judged_as h ps ≡ answered (message_in h ps)
        unfolding judged_as
        judged_message e = rw (agree, good, topic, e)

-- ---- routes

pub routes_joined : (rs : List (List ℕ)) → Each (λ r. length r ≡ 37) rs → length (joined rs) ≡ 38 * length rs
routes_joined [] h = refl
routes_joined (r ∷ rs) h =
    let size : length (part_bytes r) ≡ 38 = ap length (part_short r (omega (arith, h.0))) ∙ ap suc h.0 in
    omega (arith, length-append (part_bytes r) (joined rs), size, routes_joined rs h.1)

-- ---- the parts

module _ (body : List ℕ) (counts : PartCounts) (h : Header) (routes : ℕ) (s : Sorted body counts h routes) (b : Bytes body) where
  abbrev pub found : List (List ℕ)
  found = parts_found body

  abbrev pub fore : List (List ℕ)
  fore = front found

  abbrev pub topic_data : List ℕ
  topic_data = get_or fore (topic_place h fore) []

  abbrev pub payload_data : List ℕ
  payload_data = get_or fore (payload_place h fore) []

  -- the parts behind the topic
  abbrev pub behind_topic : List (List ℕ)
  behind_topic = part_if (has_payload h.flags) payload_data ++ (final [] found ∷ [])

  pub some_parts : 0 < length found
  some_parts = go found (header_tested _ s.head.headed).long
    where
      go : (ps : List (List ℕ)) → length (final [] ps) ≡ 20 → 0 < length ps
      go [] e = absurd (omega arith)
      go (p ∷ ps) e = omega arith

  fore_parts_lem : group_in h fore ++ (part_if (has_topic h.flags) topic_data ++ part_if (has_payload h.flags) payload_data) ≡ fore
  unfolding parts_agree payload_place topic_place routes_in
  fore_parts_lem =
      before_all (has_route h.flags) (has_topic h.flags) (has_payload h.flags) fore (topic_place h fore) refl
      (eqb-true (length fore) (payload_place h fore + one (has_payload h.flags)) (and_right (parts_fit h) _ s.agree))

  all_parts : found ≡ group_in h fore ++ (part_if (has_topic h.flags) topic_data ++ behind_topic)
  all_parts =
      sym (front-final [] found some_parts) ∙ ap (λ (ps : List (List ℕ)). ps ++ (final [] found ∷ [])) (sym fore_parts_lem)
      ∙ simp append_assoc

  pub body_parts : body ≡ joined found
  body_parts = (split 68 body found b s.head.over.found).same

  -- where the topic begins, if there is one
  pub topic_at_lem : (at : ℕ) → at ≡ length (joined (group_in h fore)) → At body at (part_if (has_topic h.flags) topic_data ++ behind_topic)
  topic_at_lem at e = rw e (at_behind body (group_in h fore) (part_if (has_topic h.flags) topic_data ++ behind_topic) (body_parts ∙ ap joined all_parts))
