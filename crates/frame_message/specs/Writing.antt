-- What the writer refuses, and in which order: "Writer: 6 (type and flag 80 only), 7, 8, 9, 10, 3, 11"; "the writer's 6 becomes 22, then 23" (paper 02,
-- ticket 4).
use Rattle.std.specs.Prelude.{ℕ, zero, suc, Bool, true, false, not, ◌&&◌, ◌||◌, List, [], ◌∷◌, ltb, leb, length, take, drop}
use Rattle.frame_message.specs.declared.Header.{Header}
use Rattle.refusal.specs.declared.Refusal.TheVariants.{BodyLong, TypeWrong, FlagWrong, PartsDisagree, RouteWrong, TopicWrong, FieldWrong, OutputShort}
use Rattle.refusal.specs.Answer.{Answer, answered, refuse_if, and_then}
use Rattle.frame_message.specs.Header.{has_topic, has_payload, has_route, is_type, are_flags, parts_fit, fields_good}
use Rattle.frame_forms.specs.Forms.{route_length, is_route, is_topic}
use Rattle.frame_message.specs.Message.{Message}
use Rattle.frame_message.specs.Frame.{most_body, body_of, frame_of}

abbrev pub is_empty : {A : Type 0} → List A → Bool
is_empty [] = true
is_empty (x ∷ xs) = false

-- "a part given without its flag is 7"; given means not empty
unfoldable pub parts_given_fit : Message → Bool
parts_given_fit m =
    let flags = m.header.flags in
    (has_route flags || is_empty m.routes) && ((has_topic flags || is_empty m.topic) && (has_payload flags || is_empty m.payload))

abbrev pub all_routes : List (List ℕ) → Bool
all_routes [] = true
all_routes (r ∷ rs) = is_route r && all_routes rs

-- "At most 64."
abbrev pub most_routes : ℕ
most_routes = 64

-- 8: each route "of the form", "At most 64"
unfoldable pub routes_good : List (List ℕ) → Bool
routes_good rs = leb (length rs) most_routes && all_routes rs

-- the frame of a message, or why it has none: 22, 23, 7, 8, 9, 10, 3
unfoldable pub writing : Message → Answer (List ℕ)
writing m =
    refuse_if (not (is_type m.header.kind)) TypeWrong
    (refuse_if (not (are_flags m.header.flags)) FlagWrong
    (refuse_if (not (parts_fit m.header && parts_given_fit m)) PartsDisagree
    (refuse_if (not (routes_good m.routes)) RouteWrong
    (refuse_if (has_topic m.header.flags && not (is_topic m.topic)) TopicWrong
    (refuse_if (not (fields_good m.header)) FieldWrong
    (refuse_if (ltb most_body (length (body_of m))) BodyLong
    (answered (frame_of m))))))))

-- the same into an output of so many bytes: 11 comes last
unfoldable pub writing_into : ℕ → Message → Answer (List ℕ)
writing_into room m = and_then (writing m) (λ frame. refuse_if (ltb room (length frame)) OutputShort (answered frame))

-- "routes of 37 bytes each": the given bytes cut into routes, the last of which may be short and is then not of the form
abbrev pub cut_routes : ℕ → List ℕ → List (List ℕ)
cut_routes zero xs = []
cut_routes (suc k) [] = []
cut_routes (suc k) (x ∷ xs) = take route_length (x ∷ xs) ∷ cut_routes k (drop route_length (x ∷ xs))

-- all of them, cut
abbrev pub cut : List ℕ → List (List ℕ)
cut routes = cut_routes (length routes) routes

-- the message that the writer is given
unfoldable pub given_message : Header → List ℕ → List ℕ → List ℕ → Message
given_message h routes topic payload = record { header = h; routes = cut routes; topic = topic; payload = payload }
