-- The bodies of the messages that a step makes, by the body of the message that it got.
use mathlib.Core.Path.{◌≡◌, sym, ap, ◌∙◌}
use Prim.Native.Nat.{ℕ}
use mathlib.Core.Bool.{Bool, true, false, cond}
use mathlib.Core.List.{List, [], ◌∷◌, ◌++◌, append_assoc, append-nil}
use lib.ListN.{drop}
use Rattle.frame_message.specs.Header.{has_topic, has_payload, has_route, is_streaming, header_bytes}
use Rattle.frame_message.specs.Message.{Message}
use Rattle.frame_message.specs.Frame.{part_bytes, joined, group_if, part_if, routing, topic_part, payload_part, parts_of, body_of}
use Rattle.frame_message.proofs.Parts.{joined-append}
use Rattle.step_routing.proofs.Bodies.{body_on_top}
use Rattle.step_routing.specs.Messages.{pushed, popped, reply_header, error_reply}

-- a message whose top route was removed, with that route on top again
pub popped-pushed : (m : Message) (top : List ℕ) (rest : List (List ℕ)) → m.routes ≡ top ∷ rest → pushed top (popped m) ≡ m
popped-pushed m top rest e = λ i. record { header = m.header; routes = (ap (λ (rs : List (List ℕ)). top ∷ drop 1 rs) e ∙ sym e) i; topic = m.topic; payload = m.payload }

pub popped_body : (m : Message) (top : List ℕ) (rest : List (List ℕ)) → has_route m.header.flags ≡ true → m.routes ≡ top ∷ rest → body_of m ≡ part_bytes top ++ body_of (popped m)
popped_body m top rest set e = ap body_of (sym (popped-pushed m top rest e)) ∙ body_on_top (popped m) set top (popped m).routes

-- the parts in front of the payload
abbrev pub front_of : Message → List ℕ
front_of m = joined (routing m ++ topic_part m)

-- the body of a message is that front, and its payload and header behind it
pub front_body : (m : Message) → body_of m ≡ front_of m ++ joined (payload_part m ++ (header_bytes m.header ∷ []))
unfolding body_of parts_of
front_body m = ap joined (sym (append_assoc (routing m) (topic_part m) (payload_part m ++ (header_bytes m.header ∷ [])))) ∙ joined-append (routing m ++ topic_part m) (payload_part m ++ (header_bytes m.header ∷ []))

-- a reply has topic and route, whether it streams or not
reply_flags : (streams : Bool) (routes : List (List ℕ)) (topic : List ℕ) (header : List ℕ) →
    let flags : ℕ = cond streams 0x49 0x09 in
    joined (group_if (has_route flags) routes ++ (part_if (has_topic flags) topic ++ (part_if (has_payload flags) [] ++ (header ∷ []))))
    ≡ joined ((group_if true routes ++ part_if true topic) ++ (header ∷ []))
reply_flags true routes topic header = ap joined (sym (append_assoc (group_if true routes) (part_if true topic) (header ∷ [])))
reply_flags false routes topic header = ap joined (sym (append_assoc (group_if true routes) (part_if true topic) (header ∷ [])))

-- an error reply's body is the request's up to its topic, and the reply's header behind that
pub reply_body : (userid rolemask errnum : ℕ) (m : Message) → has_route m.header.flags ≡ true → has_topic m.header.flags ≡ true →
    body_of (error_reply userid rolemask errnum m) ≡ front_of m ++ part_bytes (header_bytes (reply_header userid rolemask errnum m.header))
unfolding body_of parts_of
reply_body userid rolemask errnum m route topic =
    let head = header_bytes (reply_header userid rolemask errnum m.header) in
    let whole = reply_flags (is_streaming m.header.flags) m.routes (m.topic ++ (0 ∷ [])) head in
    rw (route, topic)
    (whole ∙ joined-append (group_if true m.routes ++ part_if true (m.topic ++ (0 ∷ []))) (head ∷ []) ∙ ap (λ (l : List ℕ). joined (group_if true m.routes ++ part_if true (m.topic ++ (0 ∷ []))) ++ l) (append-nil (part_bytes head)))
