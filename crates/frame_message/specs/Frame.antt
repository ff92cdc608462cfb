-- A message's bytes.
use Rattle.std.specs.Prelude.{ℕ, Bool, cond, List, [], ◌∷◌, ◌++◌, ltb, length}
use Rattle.bytes_number.specs.Number.{four}
use Rattle.frame_message.specs.Header.{has_topic, has_payload, has_route, header_bytes}
use Rattle.frame_message.specs.Message.{Message}

-- "A part of 0 to 254 bytes has a 1-byte size; a longer one has 255 and a 4-byte size."
abbrev pub size_bytes : ℕ → List ℕ
size_bytes n = cond (ltb n 255) (n ∷ []) (255 ∷ four n)

-- a part: its size, and its data behind that
abbrev pub part_bytes : List ℕ → List ℕ
part_bytes p = size_bytes (length p) ++ p

-- "the parts, one after another"
abbrev pub joined : List (List ℕ) → List ℕ
joined [] = []
joined (p ∷ ps) = part_bytes p ++ joined ps

-- a part that is there where its flag is set
abbrev pub part_if : Bool → List ℕ → List (List ℕ)
part_if flag p = cond flag (p ∷ []) []

-- the routing group, which is there where its flag is set: "routes (top of the stack first), an empty delimiter"
abbrev pub group_if : Bool → List (List ℕ) → List (List ℕ)
group_if flag routes = cond flag (routes ++ ([] ∷ [])) []

-- the parts in front of the topic, the topic's with its zero byte, and the payload's
abbrev pub routing : Message → List (List ℕ)
routing m = group_if (has_route m.header.flags) m.routes

abbrev pub topic_part : Message → List (List ℕ)
topic_part m = part_if (has_topic m.header.flags) (m.topic ++ (0 ∷ []))

abbrev pub payload_part : Message → List (List ℕ)
payload_part m = part_if (has_payload m.header.flags) m.payload

-- "Parts in order: routes (top of the stack first), an empty delimiter, topic, payload, header."
unfoldable pub parts_of : Message → List (List ℕ)
parts_of m = routing m ++ (topic_part m ++ (payload_part m ++ (header_bytes m.header ∷ [])))

-- "FF EE 00 12"
abbrev pub frame_start : List ℕ
frame_start = 0xFF ∷ 0xEE ∷ 0x00 ∷ 0x12 ∷ []

-- "Body: at most 32,768 bytes."
abbrev pub most_body : ℕ
most_body = 32768

-- "then the body: the parts, one after another"
unfoldable pub body_of : Message → List ℕ
body_of m = joined (parts_of m)

-- "FF EE 00 12, then a 4-byte body length, then the body"
abbrev pub framed : List ℕ → List ℕ
framed body = frame_start ++ (four (length body) ++ body)

unfoldable pub frame_of : Message → List ℕ
frame_of m = framed (body_of m)
