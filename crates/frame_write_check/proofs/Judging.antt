-- Laws on what the writer refuses: its order, and what the tests that were passed tell of the parts.
use mathlib.Core.Path.{◌≡◌, refl, sym, ap, ◌∙◌}
use mathlib.Core.Bool.{Bool, true, false, not, ◌&&◌, ◌||◌, true≢false}
use Prim.Native.Nat.{ℕ, ◌+◌, ◌<◌, ◌≤◌}
use mathlib.Core.List.{List}
use native.Mathlib.Omega.{arith}
use native.Mathlib.Decide.{dec_le}
use native.Mathlib.Nat.{lt_of_not-le}
use lib.Dec.{ltb}
use lib.ListN.{length}
use borrow.Author.Tests.{lt-ltb, le-ltb}
use Rattle.frame_write_given.specs.declared.Draft.{Draft}
use Rattle.frame_write_given.specs.WorkingDrafts.{drafted}
use Rattle.refusal.specs.declared.Refusal.{Refusal}
use Rattle.refusal.specs.declared.Refusal.TheVariants.{BodyLong, TypeWrong, FlagWrong, PartsDisagree, RouteWrong, TopicWrong, FieldWrong, OutputShort}
use Rattle.refusal.specs.Answer.{Answer, answered, refuse_if, and_then, result_of}
use Rattle.frame_message.specs.Header.{has_topic, has_payload, has_route, is_type, are_flags, parts_fit, fields_good}
use Rattle.frame_message.specs.Message.{Message}
use Rattle.frame_forms.specs.Forms.{is_topic}
use Rattle.frame_message.specs.Frame.{body_of, frame_of}
use Rattle.frame_message.specs.Writing.{is_empty, parts_given_fit, routes_good, cut, writing, writing_into, given_message}
use Rattle.frame_message.specs.Working.{written_as}
use Rattle.std.specs.Prelude.{Ok, Err}
use Rattle.frame_write_check.specs.Working.{measured, fitted}
use Rattle.frame_forms.proofs.Topics.{topic_long}
use Rattle.frame_write_given.proofs.Giving.{is_empty_lem, agrees}
use Rattle.frame_message.proofs.Frames.{frame_long}
use Rattle.frame_write_check.proofs.Bodies.{payload_shorter}

last_two : (f a b c : Bool) → (f && (a && (b && c))) ≡ true → (b ≡ true) × (c ≡ true)
last_two true true true c e = (refl, e)
last_two true true false c e = absurd (true≢false (sym e))
last_two true false b c e = absurd (true≢false (sym e))
last_two false a b c e = absurd (true≢false (sym e))

-- what follows an answer follows each of its refusals
then_if : (test : Bool) (r : Refusal) (next : Answer (List ℕ)) (f : List ℕ → Answer (List ℕ)) → and_then (refuse_if test r next) f ≡ refuse_if test r (and_then next f)
then_if true r next f = refl
then_if false r next f = refl

-- the order in which 22, 23 and 7 to 10 are told, by what their tests found, and what is told after each
pub record Order (kind flag parts route topic field : Bool) (rest whole : Answer (List ℕ)) : Type 0 where
  pub order : refuse_if kind TypeWrong (refuse_if flag FlagWrong (refuse_if parts PartsDisagree (refuse_if route RouteWrong (refuse_if topic TopicWrong (refuse_if field FieldWrong rest))))) ≡ whole

module _ {k g p r t f : Bool} {rest whole : Answer (List ℕ)} (o : Order k g p r t f rest whole) where
  pub told_type : k ≡ true → Err TypeWrong ≡ written_as whole
  told_type e₁ = ap written_as (rw e₁ at o.order)

  pub told_flag : k ≡ false → g ≡ true → Err FlagWrong ≡ written_as whole
  told_flag e₁ e₂ = ap written_as (rw (e₁, e₂) at o.order)

  pub told_parts : k ≡ false → g ≡ false → p ≡ true → Err PartsDisagree ≡ written_as whole
  told_parts e₁ e₂ e₃ = ap written_as (rw (e₁, e₂, e₃) at o.order)

  pub told_route : k ≡ false → g ≡ false → p ≡ false → r ≡ true → Err RouteWrong ≡ written_as whole
  told_route e₁ e₂ e₃ e₄ = ap written_as (rw (e₁, e₂, e₃, e₄) at o.order)

  pub told_topic : k ≡ false → g ≡ false → p ≡ false → r ≡ false → t ≡ true → Err TopicWrong ≡ written_as whole
  told_topic e₁ e₂ e₃ e₄ e₅ = ap written_as (rw (e₁, e₂, e₃, e₄, e₅) at o.order)

  pub told_field : k ≡ false → g ≡ false → p ≡ false → r ≡ false → t ≡ false → f ≡ true → Err FieldWrong ≡ written_as whole
  told_field e₁ e₂ e₃ e₄ e₅ e₆ = ap written_as (rw (e₁, e₂, e₃, e₄, e₅, e₆) at o.order)

  pub told_rest : k ≡ false → g ≡ false → p ≡ false → r ≡ false → t ≡ false → f ≡ false → written_as rest ≡ written_as whole
  told_rest e₁ e₂ e₃ e₄ e₅ e₆ = ap written_as (rw (e₁, e₂, e₃, e₄, e₅, e₆) at o.order)

module _ (d : Draft) where
  -- the writer's order, up to the body's length and the output's
  pub order_is : (room : ℕ) {k g a r t f : Bool} → k ≡ is_type d.header.kind → g ≡ are_flags d.header.flags → a ≡ (parts_fit d.header && parts_given_fit (drafted d)) → r ≡ routes_good (cut d.routes.now) → t ≡ (has_topic d.header.flags && not (is_topic d.topic.now)) → f ≡ fields_good d.header → refuse_if (not k) TypeWrong (refuse_if (not g) FlagWrong (refuse_if (not a) PartsDisagree (refuse_if (not r) RouteWrong (refuse_if t TopicWrong (refuse_if (not f) FieldWrong (measured room (drafted d))))))) ≡ writing_into room (drafted d)
  unfolding writing_into writing measured given_message
  order_is room ek eg ea er et ef = rw (ek, eg, ea, er, et, ef, then_if, then_if, then_if, then_if, then_if, then_if, then_if)

  -- what is known where the parts agree with type and flags
  module _ (agree : (parts_fit d.header && parts_given_fit (drafted d)) ≡ true) where
    given : ((has_topic d.header.flags || is_empty d.topic.now) ≡ true) × ((has_payload d.header.flags || is_empty d.payload.now) ≡ true)
    given = last_two (parts_fit d.header) (has_route d.header.flags || is_empty d.routes.now) (has_topic d.header.flags || is_empty d.topic.now) (has_payload d.header.flags || is_empty d.payload.now) (agrees d refl refl refl refl refl refl refl ∙ agree)

    -- a topic that is not refused is short, there or not
    pub topic_short : (has_topic d.header.flags && not (is_topic d.topic.now)) ≡ false → length d.topic.now ≤ 255
    topic_short good = go (has_topic d.header.flags) given.0 good
      where
        short : Dec (length d.topic.now ≤ 255) → not (is_topic d.topic.now) ≡ false → length d.topic.now ≤ 255
        short (yes l) e = l
        short (no l) e = absurd (true≢false (sym (ap not (topic_long d.topic.now (omega (arith, lt_of_not-le l)) (lt_of_not-le l))) ∙ e))

        go : (t : Bool) → (t || is_empty d.topic.now) ≡ true → (t && not (is_topic d.topic.now)) ≡ false → length d.topic.now ≤ 255
        go true g e = short (dec_le (length d.topic.now) 255) e
        go false g e = omega (arith, is_empty_lem d.topic.now g)

    -- a long payload is there, so that the body is long
    pub payload_long : 32768 < length d.payload.now → 32768 < length (body_of (drafted d))
    payload_long l = go (has_payload d.header.flags) refl given.1
      where
        go : (p : Bool) → p ≡ has_payload d.header.flags → (p || is_empty d.payload.now) ≡ true → 32768 < length (body_of (drafted d))
        go true e g = omega (arith, payload_shorter d refl refl e refl)
        go false e g = absurd (omega (arith, is_empty_lem d.payload.now g))

start_more : (n : ℕ) → ltb 32776 (8 + n) ≡ ltb 32768 n
start_more n = go (dec_le n 32768)
  where
    go : Dec (n ≤ 32768) → ltb 32776 (8 + n) ≡ ltb 32768 n
    go (yes h) = le-ltb 32776 (8 + n) (omega arith) ∙ sym (le-ltb 32768 n h)
    go (no h) = lt-ltb 32776 (8 + n) (omega (arith, lt_of_not-le h)) ∙ sym (lt-ltb 32768 n (lt_of_not-le h))

-- a frame's length is told as the length alone is
of_length : (long short : Bool) (frame : List ℕ) → result_of (λ (m : ℕ). m) (refuse_if long BodyLong (refuse_if short OutputShort (answered (length frame)))) ≡ written_as (refuse_if long BodyLong (refuse_if short OutputShort (answered frame)))
of_length true short frame = refl
of_length false true frame = refl
of_length false false frame = refl

module _ (room : ℕ) (m : Message) where
  pub measured_long : 32768 < length (body_of m) → Err BodyLong ≡ written_as (measured room m)
  unfolding measured
  measured_long l = rw (lt-ltb 32768 (length (body_of m)) l)

  pub measured_short : length (body_of m) ≤ 32768 → room < length (frame_of m) → Err OutputShort ≡ written_as (measured room m)
  unfolding measured
  measured_short l h = rw (le-ltb 32768 (length (body_of m)) l, lt-ltb room (length (frame_of m)) h)

  pub measured_fits : {n : ℕ} → length (body_of m) ≤ 32768 → length (frame_of m) ≤ room → n ≡ length (frame_of m) → Ok n ≡ written_as (measured room m)
  unfolding measured
  measured_fits l h e = rw (le-ltb 32768 (length (body_of m)) l, le-ltb room (length (frame_of m)) h, e)

  -- a frame is eight bytes longer than its body, and so is the most that it may have
  pub measured_fitted : {n : ℕ} → n ≡ length (body_of m) → fitted (8 + n) 32776 BodyLong room ≡ written_as (measured room m)
  unfolding measured
  measured_fitted e =
      let test : ltb 32776 (length (frame_of m)) ≡ ltb 32768 (length (body_of m)) = ap (λ (n : ℕ). ltb 32776 n) (frame_long m) ∙ start_more (length (body_of m)) in
      rw (e, ← frame_long m, test) (of_length (ltb 32768 (length (body_of m))) (ltb room (length (frame_of m))) (frame_of m))
