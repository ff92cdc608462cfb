-- What the reader makes of bytes. "Reader's order: 1 for the 8 bytes, 2, 3, 1 for the body, then 4 and 5 as the parts come (5 before that
-- part's size is read), then 6 to 10", and 20 to 23 behind 6 (paper 02, ticket 4). The body is a list of parts here; where they lie in the caller's
-- bytes is said in frame_layout/specs/Layout.antt.
use Rattle.std.specs.Prelude.{ℕ, zero, suc, ◌+◌, ◌-◌, Bool, cond, not, ◌&&◌, ◌||◌, List, [], ◌∷◌, eqb, ltb, length, get_or, take, drop}
use Rattle.bytes_number.specs.Number.{number}
use Rattle.frame_message.specs.declared.Header.{Header}
use Rattle.refusal.specs.declared.Refusal.TheVariants.{InputShort, StartWrong, BodyLong, PartWrong, PartsMany, HeaderWrong, MagicWrong, VersionWrong, TypeWrong, FlagWrong, PartsDisagree, RouteWrong, TopicWrong, FieldWrong}
use Rattle.refusal.specs.Answer.{Answer, refused, answered, refuse_if, and_then}
use Rattle.frame_forms.specs.Count.{one}
use Rattle.frame_message.specs.Header.{has_topic, has_payload, has_route, is_type, are_flags, parts_fit, fields_good, header_length, magic, version, header_in}
use Rattle.frame_forms.specs.Forms.{is_topic}
use Rattle.frame_message.specs.Message.{Message}
use Rattle.frame_message.specs.Frame.{frame_start, most_body}
use Rattle.frame_message.specs.Writing.{routes_good}

-- ---- the parts of a body

-- n bytes as a part, and what is left behind it: 4 where they pass the body's end
abbrev pub cut_part : ℕ → List ℕ → Answer (List ℕ × List ℕ)
cut_part n xs = refuse_if (ltb (length xs) n) PartWrong (answered (take n xs, drop n xs))

-- "A part of 0 to 254 bytes has a 1-byte size; a longer one has 255 and a 4-byte size. A 4-byte size below 255 is refused."
unfoldable pub first_part : ℕ → List ℕ → Answer (List ℕ × List ℕ)
first_part size xs =
    cond (ltb size 255) (cut_part size xs)
    (refuse_if (ltb (length xs) 4 || ltb (number xs) 255) PartWrong (cut_part (number xs) (drop 4 xs)))

-- "a 69th part begins"
abbrev pub most_parts : ℕ
most_parts = 68

-- the parts of a run of bytes, of which at most `most` may come: 5 where one more begins, before its size is read
unfoldable pub parts_in : ℕ → List ℕ → Answer (List (List ℕ))
parts_in zero [] = answered []
parts_in zero (x ∷ xs) = refused PartsMany
parts_in (suc most) [] = answered []
parts_in (suc most) (x ∷ xs) = and_then (first_part x xs) (λ cut. and_then (parts_in most cut.1) (λ ps. answered (cut.0 ∷ ps)))

-- ---- what the parts are

-- all but the last, and the last
abbrev pub front {ℓ} : {A : Type ℓ} → List A → List A
front xs = take (length xs - 1) xs

abbrev pub final {ℓ} : {A : Type ℓ} → A → List A → A
final d xs = get_or xs (length xs - 1) d

-- "With 08 the delimiter is the first empty part": the parts in front of it
abbrev pub before_empty : List (List ℕ) → List (List ℕ)
before_empty [] = []
before_empty ([] ∷ ps) = []
before_empty ((x ∷ p) ∷ ps) = (x ∷ p) ∷ before_empty ps

-- of the parts in front of the header: the routes, the part that holds the topic, the payload
unfoldable pub routes_in : Header → List (List ℕ) → List (List ℕ)
routes_in h ps = cond (has_route h.flags) (before_empty ps) []

unfoldable pub topic_place : Header → List (List ℕ) → ℕ
topic_place h ps = length (routes_in h ps) + one (has_route h.flags)

unfoldable pub payload_place : Header → List (List ℕ) → ℕ
payload_place h ps = topic_place h ps + one (has_topic h.flags)

-- 7: the flags fit the type, and there are just as many parts as they say
unfoldable pub parts_agree : Header → List (List ℕ) → Bool
parts_agree h ps = parts_fit h && eqb (length ps) (payload_place h ps + one (has_payload h.flags))

-- "Topic: 1 to 255 non-zero bytes, then a zero byte"
unfoldable pub is_topic_part : List ℕ → Bool
is_topic_part p = eqb (final 1 p) 0 && is_topic (front p)

-- the message that the parts hold
unfoldable pub message_in : Header → List (List ℕ) → Message
message_in h ps =
    record {
      header = h;
      routes = routes_in h ps;
      topic = cond (has_topic h.flags) (front (get_or ps (topic_place h ps) [])) [];
      payload = cond (has_payload h.flags) (get_or ps (payload_place h ps) []) [];
    }

-- ---- the reading

-- "6 no part or wrong header length, 20 magic, 21 version, 22 type, 23 flag 80, tested in that order": the fields of the last part, or why it is no header
unfoldable pub header_or_why : List ℕ → Answer Header
header_or_why p =
    refuse_if (not (eqb (length p) header_length)) HeaderWrong
    (refuse_if (not (eqb (get_or p 0 0) magic)) MagicWrong
    (refuse_if (not (eqb (get_or p 1 0) version)) VersionWrong
    (refuse_if (not (is_type (get_or p 2 0))) TypeWrong
    (refuse_if (not (are_flags (get_or p 3 0))) FlagWrong
    (answered (header_in p))))))

-- 7 to 10, of the header's fields and the parts in front of the header
unfoldable pub judged_as : Header → List (List ℕ) → Answer Message
judged_as h ps =
    refuse_if (not (parts_agree h ps)) PartsDisagree
    (refuse_if (not (routes_good (routes_in h ps))) RouteWrong
    (refuse_if (has_topic h.flags && not (is_topic_part (get_or ps (topic_place h ps) []))) TopicWrong
    (refuse_if (not (fields_good h)) FieldWrong
    (answered (message_in h ps)))))

-- 6 and 20 to 23, then 7 to 10, of all the parts: "The header is always last"
unfoldable pub judged : List (List ℕ) → Answer Message
judged ps = and_then (header_or_why (final [] ps)) (λ h. judged_as h (front ps))

-- 2: "first four bytes wrong"
abbrev pub starts_right : List ℕ → Bool
starts_right b =
    eqb (get_or b 0 0) (get_or frame_start 0 0)
    && (eqb (get_or b 1 0) (get_or frame_start 1 0) && (eqb (get_or b 2 0) (get_or frame_start 2 0) && eqb (get_or b 3 0) (get_or frame_start 3 0)))

-- "then a 4-byte body length"
abbrev pub body_length : List ℕ → ℕ
body_length b = number (drop 4 b)

-- the whole order
unfoldable pub reading_of : List ℕ → Answer Message
reading_of b =
    refuse_if (ltb (length b) 8) InputShort
    (refuse_if (not (starts_right b)) StartWrong
    (refuse_if (ltb most_body (body_length b)) BodyLong
    (refuse_if (ltb (length b) (8 + body_length b)) InputShort
    (and_then (parts_in most_parts (take (body_length b) (drop 8 b))) judged))))
