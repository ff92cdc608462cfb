-- The fault of a frame: its number, and its byte. "For 4 to 10 and 20 to 23 the reader also tells a byte, counted from the frame's front" (paper 02,
-- ticket 4). Which byte that is, is said over the list of the frame's parts.
use Rattle.std.specs.Prelude.{ℕ, zero, suc, ◌+◌, ◌-◌, cond, List, [], ◌∷◌, eqb, length, get_or, take, drop}
use Rattle.refusal.specs.Refusals.{number_of}
use Rattle.refusal.specs.Answer.{Answer, refused, answered}
use Rattle.frame_message.specs.declared.Header.{Header}
use Rattle.frame_message.specs.Header.{request_type, header_in}
use Rattle.frame_forms.specs.Forms.{is_route}
use Rattle.frame_message.specs.Message.{Message}
use Rattle.frame_message.specs.Frame.{size_bytes, joined}
use Rattle.frame_message.specs.Writing.{most_routes}
use Rattle.frame_message.specs.Reading.{first_part, most_parts, front, final, routes_in, topic_place, body_length, reading_of}
use Rattle.frame_fault.specs.declared.Fault.{Fault}

-- ---- the parts of a frame

-- the body: as many bytes behind the first eight as the length there says
abbrev pub body_in : List ℕ → List ℕ
body_in b = take (body_length b) (drop 8 b)

-- a part that was cut off in front of what comes of the bytes behind it; nothing where it was refused
abbrev pub part_then : Answer (List ℕ × List ℕ) → (List ℕ → List (List ℕ)) → List (List ℕ)
part_then (refused r) more = []
part_then (answered cut) more = cut.0 ∷ more cut.1

-- the parts in front of the one that is refused, of which at most `most` may come; all of them where none is refused
unfoldable pub whole_parts : ℕ → List ℕ → List (List ℕ)
whole_parts zero bytes = []
whole_parts (suc most) [] = []
whole_parts (suc most) (x ∷ xs) = part_then (first_part x xs) (whole_parts most)

-- ---- where a part lies, "counted from the frame's front"

-- the size byte of a part that has these in front of it; the first of five where its size is long
abbrev pub size_byte : List (List ℕ) → ℕ
size_byte before = 8 + length (joined before)

-- where the data of the part with the index n starts: behind its size
unfoldable pub data_start : List (List ℕ) → ℕ → ℕ
data_start ps n = size_byte (take n ps) + length (size_bytes (length (get_or ps n [])))

-- ---- which part, of all the parts

-- "The header is always last"
abbrev pub header_data : List (List ℕ) → ℕ
header_data ps = data_start ps (length ps - 1)

abbrev pub header_of_parts : List (List ℕ) → Header
header_of_parts ps = header_in (final [] ps)

-- the first malformed of so many routes, by its index; where none is malformed, the one behind them
abbrev pub first_malformed : ℕ → List (List ℕ) → ℕ
first_malformed zero rs = 0
first_malformed (suc most) [] = 0
first_malformed (suc most) (r ∷ rs) = cond (is_route r) (suc (first_malformed most rs)) 0

-- "the first offending part .. (the 65th route if no earlier one is malformed)"
unfoldable pub offending_route : List (List ℕ) → ℕ
offending_route ps = first_malformed most_routes (routes_in (header_of_parts ps) (front ps))

-- the part that holds the topic
unfoldable pub topic_index : List (List ℕ) → ℕ
topic_index ps = topic_place (header_of_parts ps) (front ps)

-- which of the header's bytes a wrong field starts at: a request's nodeid, or an event's unused field
unfoldable pub field_byte : Header → ℕ
field_byte h = cond (eqb h.kind request_type) 12 16

-- ---- the byte

-- the ticket's list, each number with its byte:
-- "4 and 5 the part's size byte; 6 the last part's size byte, or 8 with no part; 7 the start of the header's data; 8 and 9 where the first offending
-- part's data starts ..; 10 the field's start; 20 to 23 that header byte"
abbrev pub fault_bytes : List (List ℕ) → List (ℕ × ℕ)
fault_bytes ps =
    (4, size_byte ps)
    ∷ (5, size_byte ps)
    ∷ (6, size_byte (front ps))
    ∷ (7, header_data ps)
    ∷ (8, data_start ps (offending_route ps))
    ∷ (9, data_start ps (topic_index ps))
    ∷ (10, header_data ps + field_byte (header_of_parts ps))
    ∷ (20, header_data ps)
    ∷ (21, header_data ps + 1)
    ∷ (22, header_data ps + 2)
    ∷ (23, header_data ps + 3)
    ∷ []

-- the byte of a number in such a list; 0 for a number that is not there
abbrev pub byte_for : ℕ → List (ℕ × ℕ) → ℕ
byte_for n [] = 0
byte_for n (row ∷ rows) = cond (eqb n row.0) row.1 (byte_for n rows)

-- ---- the fault

-- the number of the reader's refusal; 0 of a frame that it reads
abbrev pub fault_number : Answer Message → ℕ
fault_number (refused r) = number_of r
fault_number (answered m) = 0

-- number and byte
unfoldable pub fault_of : List ℕ → Fault
fault_of b =
    let number = fault_number (reading_of b) in
    record { number = number; byte = byte_for number (fault_bytes (whole_parts most_parts (body_in b))) }
