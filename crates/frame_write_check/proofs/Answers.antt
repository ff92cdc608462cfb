-- Laws on the writer's answer: from what is told back to the writing, and from the writing to the writing into an output of so many bytes.
use mathlib.Core.Path.{◌≡◌, refl, ap, ◌∙◌}
use mathlib.Core.Bool.{Bool, true, false, not, ◌&&◌}
use Prim.Native.Nat.{ℕ, ◌%◌, ◌≤◌}
use mathlib.Core.List.{List}
use native.Mathlib.Omega.{arith}
use lib.Dec.{ltb}
use lib.ListN.{length}
use borrow.Author.Tests.{not-false, ltb-false}
use Rattle.refusal.proofs.Answers.{not_answered}
use Rattle.refusal.specs.declared.Refusal.{Refusal}
use Rattle.refusal.specs.declared.Refusal.TheVariants.{BodyLong, TypeWrong, FlagWrong, PartsDisagree, RouteWrong, TopicWrong, FieldWrong, OutputShort}
use Rattle.refusal.specs.Answer.{Answer, refused, answered, refuse_if}
use Rattle.frame_write_given.specs.declared.Draft.{Draft}
use Rattle.frame_write_given.specs.WorkingDrafts.{drafted}
use Rattle.frame_message.specs.Header.{has_topic, is_type, are_flags, parts_fit, fields_good}
use Rattle.frame_forms.specs.Forms.{is_topic}
use Rattle.frame_message.specs.Frame.{body_of, frame_of}
use Rattle.frame_message.specs.Writing.{parts_given_fit, routes_good, cut, writing_into}
use Rattle.frame_message.specs.Working.{written_as}
use Rattle.std.specs.Prelude.{Ok, Err}
use Rattle.frame_write_check.specs.Working.{measured}
use Rattle.frame_write_given.proofs.Cuts.{good_whole}
use Rattle.frame_write_check.proofs.Judging.{order_is, topic_short}

pub told_refused : (a : Answer (List ℕ)) {r : Refusal} → written_as a ≡ Err r → a ≡ refused r
told_refused (refused s) e = cc
told_refused (answered frame) e = absurd (let z : ◌≡◌ {A = ℕ} 0 1 = cc in omega arith)

told_frame : (a : Answer (List ℕ)) {n : ℕ} → written_as a ≡ Ok n → (frame : List ℕ) × (a ≡ answered frame) × (n ≡ length frame)
told_frame (refused s) e = absurd (let z : ◌≡◌ {A = ℕ} 0 1 = cc in omega arith)
told_frame (answered frame) e = (frame, refl, cc)

-- an answer at the end of the writer's order has passed all its tests
no_refusal : (k g a r t f l s : Bool) {x : List ℕ} (frame : List ℕ) → refuse_if k TypeWrong (refuse_if g FlagWrong (refuse_if a PartsDisagree (refuse_if r RouteWrong (refuse_if t TopicWrong (refuse_if f FieldWrong (refuse_if l BodyLong (refuse_if s OutputShort (answered x)))))))) ≡ answered frame → (frame ≡ x) × (a ≡ false) × (r ≡ false) × (t ≡ false) × (s ≡ false)
no_refusal true g a r t f l s frame e = absurd (not_answered e)
no_refusal false true a r t f l s frame e = absurd (not_answered e)
no_refusal false false true r t f l s frame e = absurd (not_answered e)
no_refusal false false false true t f l s frame e = absurd (not_answered e)
no_refusal false false false false true f l s frame e = absurd (not_answered e)
no_refusal false false false false false true l s frame e = absurd (not_answered e)
no_refusal false false false false false false true s frame e = absurd (not_answered e)
no_refusal false false false false false false false true frame e = absurd (not_answered e)
no_refusal false false false false false false false false frame e = (cc, refl, refl, refl, refl)

-- what a frame's length that is told says of the message that is given: its frame is written, which fits, its routes are whole and its topic is short
pub record Told (room : ℕ) (d : Draft) (n : ℕ) : Type 0 where
  pub writes : writing_into room (drafted d) ≡ answered (frame_of (drafted d))
  pub long : n ≡ length (frame_of (drafted d))
  pub fits : n ≤ room
  pub whole : length d.routes.now % 37 ≡ 0
  pub short : length d.topic.now ≤ 255

pub told_given : (room : ℕ) (d : Draft) {n : ℕ} → written_as (writing_into room (drafted d)) ≡ Ok n → Told room d n
unfolding measured
told_given room d e =
    let m = drafted d in
    let told = told_frame (writing_into room m) e in
    let is =
    no_refusal (not (is_type d.header.kind)) (not (are_flags d.header.flags)) (not (parts_fit d.header && parts_given_fit m)) (not (routes_good (cut d.routes.now))) (has_topic d.header.flags && not (is_topic d.topic.now)) (not (fields_good d.header)) (ltb 32768 (length (body_of m))) (ltb room (length (frame_of m)))
    told.0 (order_is d room refl refl refl refl refl refl ∙ told.1) in
    let long = told.2 ∙ ap length is.0 in
    record {
      writes = told.1 ∙ ap answered is.0;
      long = long;
      fits = omega (arith, long, ltb-false room (length (frame_of m)) is.4);
      whole = good_whole d.routes.now (not-false (routes_good (cut d.routes.now)) is.2);
      short = topic_short d (not-false (parts_fit d.header && parts_given_fit m) is.1) is.3;
    }
