-- Why the parts of a body are refused: what the reader's refusal tells of them.
use mathlib.Core.Path.{◌≡◌, refl, sym, ap, subst, ◌∙◌}
use Prim.Native.Nat.{ℕ}
use mathlib.Core.Bool.{true, not, ◌&&◌}
use mathlib.Core.List.{List, []}
use borrow.Author.Tests.{eqb-true, eqb-false, not-true, not-false}
use lib.Dec.{eqb}
use lib.ListN.{length, get_or}
use Rattle.bytes_number.proofs.Truth.{and_left, and_right}
use Rattle.refusal.specs.declared.Refusal.{Refusal}
use Rattle.refusal.specs.declared.Refusal.TheVariants.{HeaderWrong, MagicWrong, VersionWrong, TypeWrong, FlagWrong, PartsDisagree, RouteWrong, TopicWrong, FieldWrong}
use Rattle.refusal.specs.Answer.{Answer, refused, answered, refuse_if, and_then}
use Rattle.refusal.proofs.Answers.{Refuses, here, later, refuses, refused_same, not_answered}
use Rattle.frame_message.specs.declared.Header.{Header}
use Rattle.frame_message.specs.Header.{has_topic, is_type, are_flags, fields_good, header_in}
use Rattle.frame_message.specs.Writing.{routes_good}
use Rattle.frame_message.specs.Reading.{front, final, routes_in, topic_place, parts_agree, is_topic_part, message_in, header_or_why, judged_as, judged}
use Rattle.frame_message.specs.Working.{is_header}
use Rattle.frame_message.proofs.Headers.{header_answered}
use Rattle.frame_fault.specs.Fault.{header_of_parts}
use Rattle.frame_fault.specs.WorkingFaults.{Why, length_wrong, magic_wrong, version_wrong, type_wrong, flag_wrong, parts_disagree, route_wrong, topic_wrong_lem, field_wrong}

module _ (ps : List (List ℕ)) (r : Refusal) where
  abbrev p : List ℕ
  p = final [] ps

  -- by the refusal that was told
  told : {q : Refusal} → q ≡ r → Why ps q → Why ps r
  told e w = subst (λ (s : Refusal). Why ps s) e w

  -- ---- 6 and 20 to 23

  header_why : header_or_why p ≡ refused r → Why ps r
  unfolding header_or_why
  header_why e = first (refuses _ _ _ r e)
    where
      fifth : (eqb (length p) 20 ≡ true) → (eqb (get_or p 0 0) 0x8E ≡ true) → (eqb (get_or p 1 0) 1 ≡ true) → (is_type (get_or p 2 0) ≡ true) → Refuses (not (are_flags (get_or p 3 0))) FlagWrong (answered (header_in p)) r → Why ps r
      fifth a b c d (here t s) = told s (flag_wrong (eqb-true _ _ a) (eqb-true _ _ b) (eqb-true _ _ c) d (not-true _ t))
      fifth a b c d (later t s) = absurd (not_answered (sym s))

      fourth : (eqb (length p) 20 ≡ true) → (eqb (get_or p 0 0) 0x8E ≡ true) → (eqb (get_or p 1 0) 1 ≡ true) → Refuses (not (is_type (get_or p 2 0))) TypeWrong (refuse_if (not (are_flags (get_or p 3 0))) FlagWrong (answered (header_in p))) r → Why ps r
      fourth a b c (here t s) = told s (type_wrong (eqb-true _ _ a) (eqb-true _ _ b) (eqb-true _ _ c) (not-true _ t))
      fourth a b c (later t s) = fifth a b c (not-false _ t) (refuses _ _ _ r s)

      third : (eqb (length p) 20 ≡ true) → (eqb (get_or p 0 0) 0x8E ≡ true) → Refuses (not (eqb (get_or p 1 0) 1)) VersionWrong (refuse_if (not (is_type (get_or p 2 0))) TypeWrong (refuse_if (not (are_flags (get_or p 3 0))) FlagWrong (answered (header_in p)))) r → Why ps r
      third a b (here t s) = told s (version_wrong (eqb-true _ _ a) (eqb-true _ _ b) (eqb-false _ _ (not-true _ t)))
      third a b (later t s) = fourth a b (not-false _ t) (refuses _ _ _ r s)

      second : (eqb (length p) 20 ≡ true) → Refuses (not (eqb (get_or p 0 0) 0x8E)) MagicWrong (refuse_if (not (eqb (get_or p 1 0) 1)) VersionWrong (refuse_if (not (is_type (get_or p 2 0))) TypeWrong (refuse_if (not (are_flags (get_or p 3 0))) FlagWrong (answered (header_in p))))) r → Why ps r
      second a (here t s) = told s (magic_wrong (eqb-true _ _ a) (eqb-false _ _ (not-true _ t)))
      second a (later t s) = third a (not-false _ t) (refuses _ _ _ r s)

      first : Refuses (not (eqb (length p) 20)) HeaderWrong (refuse_if (not (eqb (get_or p 0 0) 0x8E)) MagicWrong (refuse_if (not (eqb (get_or p 1 0) 1)) VersionWrong (refuse_if (not (is_type (get_or p 2 0))) TypeWrong (refuse_if (not (are_flags (get_or p 3 0))) FlagWrong (answered (header_in p)))))) r → Why ps r
      first (here t s) = told s (length_wrong (eqb-false _ _ (not-true _ t)))
      first (later t s) = second (not-false _ t) (refuses _ _ _ r s)

  -- ---- 7 to 10

  module _ (is : is_header p ≡ true) where
    abbrev h : Header
    h = header_of_parts ps

    abbrev fore : List (List ℕ)
    fore = front ps

    abbrev topic : List ℕ
    topic = get_or fore (topic_place h fore) []

    parts_why : judged_as h fore ≡ refused r → Why ps r
    unfolding judged_as
    parts_why e = first (refuses _ _ _ r e)
      where
        fourth : Refuses (not (fields_good h)) FieldWrong (answered (message_in h fore)) r → Why ps r
        fourth (here t s) = told s (field_wrong is (not-true _ t))
        fourth (later t s) = absurd (not_answered (sym s))

        third : parts_agree h fore ≡ true → Refuses (has_topic h.flags && not (is_topic_part topic)) TopicWrong (refuse_if (not (fields_good h)) FieldWrong (answered (message_in h fore))) r → Why ps r
        third a (here t s) = told s (topic_wrong_lem is a (and_left (has_topic h.flags) (not (is_topic_part topic)) t) (not-true _ (and_right (has_topic h.flags) (not (is_topic_part topic)) t)))
        third a (later t s) = fourth (refuses _ _ _ r s)

        second : parts_agree h fore ≡ true → Refuses (not (routes_good (routes_in h fore))) RouteWrong (refuse_if (has_topic h.flags && not (is_topic_part topic)) TopicWrong (refuse_if (not (fields_good h)) FieldWrong (answered (message_in h fore)))) r → Why ps r
        second a (here t s) = told s (route_wrong is a (not-true _ t))
        second a (later t s) = third a (refuses _ _ _ r s)

        first : Refuses (not (parts_agree h fore)) PartsDisagree (refuse_if (not (routes_good (routes_in h fore))) RouteWrong (refuse_if (has_topic h.flags && not (is_topic_part topic)) TopicWrong (refuse_if (not (fields_good h)) FieldWrong (answered (message_in h fore))))) r → Why ps r
        first (here t s) = told s (parts_disagree is (not-true _ t))
        first (later t s) = second (not-false _ t) (refuses _ _ _ r s)

  pub judged_why : judged ps ≡ refused r → Why ps r
  unfolding judged
  judged_why e = go (header_or_why p) refl e
    where
      go : (a : Answer Header) → header_or_why p ≡ a → and_then a (λ k. judged_as k (front ps)) ≡ refused r → Why ps r
      go (refused q) k e = header_why (k ∙ ap refused (refused_same e))
      go (answered k) is e =
          let a = header_answered p k is in
          parts_why a.passes (ap (λ (j : Header). judged_as j (front ps)) (sym a.same) ∙ e)
