-- A message and its parts: `judged` makes of the parts of a message that message, and of any other parts nothing.
use mathlib.Core.Path.{◌≡◌, refl, sym, ap, ◌∙◌}
use Prim.Native.Nat.{ℕ, ◌+◌, ◌<◌, ◌≤◌}
use mathlib.Core.Bool.{Bool, true, false, ◌&&◌, ◌||◌}
use mathlib.Core.List.{List, [], ◌∷◌, ◌++◌, append_assoc}
use native.Mathlib.Omega.{arith}
use borrow.Author.Tests.{eqb-true, eq-eqb, ltb-true, ltb-false, lt-ltb, le-ltb, not-false}
use lib.Dec.{eqb}
use lib.ListN.{length, get_or, length-append}
use Rattle.bytes_number.specs.Number.{Bytes}
use Rattle.frame_message.specs.declared.Header.{Header}
use Rattle.refusal.specs.Answer.{answered}
use Rattle.frame_message.specs.Header.{has_topic, has_payload, has_route, parts_fit, fields_good, header_bytes, header_in}
use Rattle.frame_forms.specs.Forms.{is_topic}
use Rattle.frame_message.specs.Message.{Message}
use Rattle.frame_message.specs.Working.{FieldsFit, is_known, is_header}
use Rattle.frame_message.specs.Frame.{parts_of, body_of, frame_of}
use Rattle.frame_message.specs.Writing.{is_empty, parts_given_fit, routes_good, writing}
use Rattle.frame_forms.specs.Count.{one}
use Rattle.frame_message.specs.Reading.{front, final, before_empty, routes_in, topic_place, payload_place, parts_agree, is_topic_part, message_in, header_or_why, judged_as, judged}
use Rattle.bytes_number.proofs.Truth.{and_left, and_right, and_not, and_not_false}
use Rattle.refusal.proofs.Answers.{passed, both, answered_same}
use Rattle.frame_message.proofs.Lists.{front_snoc, final_snoc, front-final}
use Rattle.frame_message.proofs.Forms.{routes_few, routes_each, routes_filled, topic_part_lem, topic_parted, topic_form}
use Rattle.frame_message.proofs.Places.{before, before-length, before_topic, before_payload, before_routes, before_all, kept, kept_given, before_kept}
use Rattle.frame_message.proofs.Headers.{header_in_lem, header_is, header_tested, header_answers, header_answered, header-bytes, fields_fit}
use Rattle.frame_message.proofs.Fields.{known_in, known_type, known_flags}

-- a message's flags
abbrev pub with_route : Message → Bool
with_route m = has_route m.header.flags

abbrev pub with_topic : Message → Bool
with_topic m = has_topic m.header.flags

abbrev pub with_payload : Message → Bool
with_payload m = has_payload m.header.flags

-- ---- what the writer's answer tells, 22, 23, 7 to 10 and 3

pub record Passes (m : Message) : Type 0 where
  pub known : is_known m.header ≡ true
  pub fit : parts_fit m.header ≡ true
  pub given : parts_given_fit m ≡ true
  pub routes : routes_good m.routes ≡ true
  pub topic : with_topic m ≡ true → is_topic m.topic ≡ true
  pub fields : fields_good m.header ≡ true

pub record Written (m : Message) (frame : List ℕ) : Type 0 where
  pub passes : Passes m
  pub short : length (body_of m) ≤ 32768
  pub same : frame_of m ≡ frame

pub written : (m : Message) (frame : List ℕ) → writing m ≡ answered frame → Written m frame
unfolding writing
written m frame e =
    let p₁ = passed _ _ _ _ e in
    let p₂ = passed _ _ _ _ p₁.rest in
    let p₃ = passed _ _ _ _ p₂.rest in
    let p₄ = passed _ _ _ _ p₃.rest in
    let p₅ = passed _ _ _ _ p₄.rest in
    let p₆ = passed _ _ _ _ p₅.rest in
    let p₇ = passed _ _ _ _ p₆.rest in
    let parts = not-false _ p₃.test in
    record {
      passes =
          record {
            known = known_in m.header (not-false _ p₁.test) (ltb-true _ _ (not-false _ p₂.test));
            fit = and_left (parts_fit m.header) (parts_given_fit m) parts;
            given = and_right (parts_fit m.header) (parts_given_fit m) parts;
            routes = not-false _ p₄.test;
            topic = and_not _ _ p₅.test;
            fields = not-false _ p₆.test;
          };
      short = ltb-false 32768 _ p₇.test;
      same = answered_same p₇.rest;
    }

pub write : (m : Message) → Passes m → length (body_of m) ≤ 32768 → writing m ≡ answered (frame_of m)
unfolding writing
write m p short =
    let topic = and_not_false (with_topic m) (is_topic m.topic) p.topic in
    let flags-known = lt-ltb m.header.flags 0x80 (known_flags m.header p.known) in
    rw (known_type m.header p.known, flags-known, p.fit, p.given, p.routes, topic, p.fields, le-ltb 32768 (length (body_of m)) short)

-- ---- what the reader's answer tells, 7 to 10

pub record Agrees (h : Header) (ps : List (List ℕ)) : Type 0 where
  pub fit : parts_fit h ≡ true
  pub count : length ps ≡ payload_place h ps + one (has_payload h.flags)
  pub routes : routes_good (routes_in h ps) ≡ true
  pub topic : has_topic h.flags ≡ true → is_topic_part (get_or ps (topic_place h ps) []) ≡ true
  pub fields : fields_good h ≡ true

pub judge_as : (h : Header) (ps : List (List ℕ)) → Agrees h ps → judged_as h ps ≡ answered (message_in h ps)
unfolding judged_as parts_agree
judge_as h ps a =
    let topic = and_not_false (has_topic h.flags) (is_topic_part (get_or ps (topic_place h ps) [])) a.topic in
    rw (a.fit, eq-eqb (length ps) (payload_place h ps + one (has_payload h.flags)) a.count, a.routes, topic, a.fields)

pub record JudgedAs (h : Header) (ps : List (List ℕ)) (m : Message) : Type 0 where
  pub agrees : Agrees h ps
  pub same : message_in h ps ≡ m

pub judged_as_lem : (h : Header) (ps : List (List ℕ)) (m : Message) → judged_as h ps ≡ answered m → JudgedAs h ps m
unfolding judged_as parts_agree
judged_as_lem h ps m e =
    let p₁ = passed _ _ _ _ e in
    let p₂ = passed _ _ _ _ p₁.rest in
    let p₃ = passed _ _ _ _ p₂.rest in
    let p₄ = passed _ _ _ _ p₃.rest in
    let parts = not-false _ p₁.test in
    let count = eqb (length ps) (payload_place h ps + one (has_payload h.flags)) in
    record {
      agrees =
          record {
            fit = and_left (parts_fit h) count parts;
            count = eqb-true _ _ (and_right (parts_fit h) count parts);
            routes = not-false _ p₂.test;
            topic = and_not _ _ p₃.test;
            fields = not-false _ p₄.test;
          };
      same = answered_same p₄.rest;
    }

-- ---- a message's parts

-- those in front of the header
unfoldable pub fore_parts : Message → List (List ℕ)
fore_parts m = before (with_route m) (with_topic m) (with_payload m) m.routes (m.topic ++ (0 ∷ [])) m.payload

pub parts_fore : (m : Message) → parts_of m ≡ fore_parts m ++ (header_bytes m.header ∷ [])
unfolding parts_of fore_parts
parts_fore m = simp append_assoc

-- "a part given without its flag is 7"
pub record Given (m : Message) : Type 0 where
  pub routes : (with_route m || is_empty m.routes) ≡ true
  pub topic : (with_topic m || is_empty m.topic) ≡ true
  pub payload : (with_payload m || is_empty m.payload) ≡ true

pub given_fit : (m : Message) → parts_given_fit m ≡ true → Given m
unfolding parts_given_fit
given_fit m e =
    let routes = with_route m || is_empty m.routes in
    let topic = with_topic m || is_empty m.topic in
    let payload = with_payload m || is_empty m.payload in
    let behind = and_right routes (topic && payload) e in
    record { routes = and_left routes (topic && payload) e; topic = and_left topic payload behind; payload = and_right topic payload behind }

pub fit_given : (m : Message) → Given m → parts_given_fit m ≡ true
unfolding parts_given_fit
fit_given m g = rw (g.routes, g.topic, g.payload)

-- ---- from a message to its parts and back

-- "The header is always last"
pub judged-header : (ps : List (List ℕ)) (p : List ℕ) (h : Header) → is_header p ≡ true → header_in p ≡ h → judged (ps ++ (p ∷ [])) ≡ judged_as h ps
unfolding judged
judged-header ps p h is e = rw (final_snoc [] ps p, front_snoc ps p, header_answers p is, e)

module _ (m : Message) (p : Passes m) where
  fore_routes : routes_in m.header (fore_parts m) ≡ m.routes
  unfolding routes_in fore_parts
  fore_routes = before_routes (with_route m) m.routes _ (routes_filled m.routes (routes_each m.routes p.routes)) (given_fit m p.given).routes

  fore_topic_place : topic_place m.header (fore_parts m) ≡ length m.routes + one (with_route m)
  unfolding topic_place
  fore_topic_place = ap (λ (rs : List (List ℕ)). length rs + one (with_route m)) fore_routes

  fore_payload_place : payload_place m.header (fore_parts m) ≡ length m.routes + one (with_route m) + one (with_topic m)
  unfolding payload_place
  fore_payload_place = ap (λ (n : ℕ). n + one (with_topic m)) fore_topic_place

  fore_topic : with_topic m ≡ true → get_or (fore_parts m) (topic_place m.header (fore_parts m)) [] ≡ m.topic ++ (0 ∷ [])
  unfolding fore_parts
  fore_topic e =
      rw fore_topic_place
      (before_topic (with_route m) (with_topic m) (with_payload m) m.routes (m.topic ++ (0 ∷ [])) m.payload (given_fit m p.given).routes e)

  fore_payload : with_payload m ≡ true → get_or (fore_parts m) (payload_place m.header (fore_parts m)) [] ≡ m.payload
  unfolding fore_parts
  fore_payload e =
      rw fore_payload_place
      (before_payload (with_route m) (with_topic m) (with_payload m) m.routes (m.topic ++ (0 ∷ [])) m.payload (given_fit m p.given).routes e)

  pub fore_length : length (fore_parts m) ≡ length m.routes + one (with_route m) + one (with_topic m) + one (with_payload m)
  unfolding fore_parts
  fore_length =
      before-length (with_route m) (with_topic m) (with_payload m) m.routes (m.topic ++ (0 ∷ [])) m.payload (given_fit m p.given).routes

  pub message_in_lem : message_in m.header (fore_parts m) ≡ m
  unfolding message_in
  message_in_lem =
      let given = given_fit m p.given in
      let topic = kept (with_topic m) m.topic _ given.topic (λ e. ap front (fore_topic e) ∙ front_snoc m.topic 0) in
      let payload = kept (with_payload m) m.payload _ given.payload fore_payload in
      λ i. record { header = m.header; routes = fore_routes i; topic = topic i; payload = payload i }

  pub agrees : Agrees m.header (fore_parts m)
  agrees =
      record {
        fit = p.fit;
        count = fore_length ∙ ap (λ (n : ℕ). n + one (with_payload m)) (sym fore_payload_place);
        routes = rw fore_routes p.routes;
        topic = λ e. rw (fore_topic e) (topic_part_lem m.topic (p.topic e));
        fields = p.fields;
      }

one_most : (flag : Bool) → one flag ≤ 1
one_most true = omega arith
one_most false = omega arith

-- 64 routes, a delimiter, a topic, a payload and a header
pub parts_few : (m : Message) → Passes m → length (parts_of m) ≤ 68
parts_few m p =
    let whole = ap length (parts_fore m) ∙ length-append (fore_parts m) (header_bytes m.header ∷ []) in
    omega (arith, whole, fore_length m p, routes_few m.routes p.routes, one_most (with_route m), one_most (with_topic m), one_most (with_payload m))

-- the parts of a message that passes are read as that message
pub judge : (m : Message) → FieldsFit m.header → Passes m → judged (parts_of m) ≡ answered m
judge m fit p =
    ap judged (parts_fore m) ∙
    judged-header (fore_parts m) _ m.header (header_is m.header fit p.known) (header_in_lem m.header fit) ∙
    judge_as _ _ (agrees m p) ∙ ap answered (message_in_lem m p)

-- ---- from parts to a message and back

-- a message read from parts passes, and its parts are those
pub record Held (ps : List (List ℕ)) (m : Message) : Type 0 where
  pub same : parts_of m ≡ ps
  pub fits : FieldsFit m.header
  pub passes : Passes m

module _ (h : Header) (ps : List (List ℕ)) (a : Agrees h ps) where
  in_fore : fore_parts (message_in h ps) ≡ ps
  unfolding message_in fore_parts payload_place topic_place routes_in
  in_fore =
      before_kept (has_route h.flags) (has_topic h.flags) (has_payload h.flags) (before_empty ps) (get_or ps (topic_place h ps) []) _ (get_or ps (payload_place h ps) [])
      (λ e. rw e (topic_parted _ (a.topic e))) ∙
      before_all (has_route h.flags) (has_topic h.flags) (has_payload h.flags) ps (topic_place h ps) refl a.count

  in_parts : parts_of (message_in h ps) ≡ ps ++ (header_bytes h ∷ [])
  unfolding message_in
  in_parts = parts_fore (message_in h ps) ∙ ap (λ (qs : List (List ℕ)). qs ++ (header_bytes h ∷ [])) in_fore

  in_passes : is_known h ≡ true → Passes (message_in h ps)
  unfolding message_in routes_in
  in_passes known =
      let given : Given (message_in h ps) =
      record {
        routes = kept_given (has_route h.flags) (before_empty ps);
        topic = kept_given (has_topic h.flags) (front (get_or ps (topic_place h ps) []));
        payload = kept_given (has_payload h.flags) (get_or ps (payload_place h ps) []);
      } in
      record {
        known = known;
        fit = a.fit;
        given = fit_given (message_in h ps) given;
        routes = a.routes;
        topic = λ e. rw e (topic_form (get_or ps (topic_place h ps) []) (a.topic e));
        fields = a.fields;
      }

-- "no part at all" is no header
some_part : (ps : List (List ℕ)) → is_header (final [] ps) ≡ true → 0 < length ps
some_part [] e = absurd (omega (arith, (header_tested [] e).long))
some_part (p ∷ ps) e = omega arith

pub held : (ps : List (List ℕ)) (m : Message) → Bytes (final [] ps) → judged ps ≡ answered m → Held ps m
unfolding judged message_in
held ps m b e =
    let two = both (header_or_why (final [] ps)) _ m e in
    let a = header_answered (final [] ps) two.value two.first in
    let header = a.passes in
    let h = header_in (final [] ps) in
    let j = judged_as_lem h (front ps) m (ap (λ (k : Header). judged_as k (front ps)) (sym a.same) ∙ two.second) in
    rw (← j.same)
    (record {
      same = in_parts h (front ps) j.agrees ∙ ap (λ (t : List ℕ). front ps ++ (t ∷ [])) (header-bytes (final [] ps) b header) ∙ front-final [] ps (some_part ps header);
      fits = fields_fit (final [] ps) b;
      passes = in_passes h (front ps) j.agrees (header_tested (final [] ps) header).known;
    })
