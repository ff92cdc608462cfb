-- The byte at fault, of lampreycoil_read_fault itself: "For 4 to 10 and 20 to 23 the reader also tells a byte, counted from the frame's front" (paper 02,
-- ticket 4). Each row of the ticket is said over the parts of the frame and over its bytes at the place that is told: no reader is in it.
use Rattle.std.specs.Prelude.{◌≡◌, ℕ, ◌+◌, ◌<◌, ◌≤◌, true, false, List, [], ◌∷◌, ◌++◌, length, get_or, drop}
use Rattle.bytes_number.specs.Number.{number, number_in}
use Rattle.frame_forms.specs.Forms.{is_route}
use Rattle.frame_message.specs.Header.{has_route, has_topic, is_type, are_flags, request_type, event_type, no_node, header_length, magic, version, header_in}
use Rattle.frame_message.specs.Frame.{size_bytes, part_bytes, joined, group_if}
use Rattle.frame_message.specs.Writing.{all_routes, most_routes}
use Rattle.frame_message.specs.Reading.{most_parts, before_empty, parts_agree, is_topic_part, body_length}
use Rattle.frame_fault.specs.Fault.{body_in, size_byte}
use Rattle.call_specs.specs.Calls.{read_record, Reads}
use Rattle.call_specs.specs.FaultCalls.{fault_record, ReadsFault}

-- ---- where parts lie in a frame

-- where the data of the part p starts that has these in front of it
abbrev pub data_byte : List (List ℕ) → List ℕ → ℕ
data_byte before p = size_byte before + length (size_bytes (length p))

-- where the header's data starts: its size takes one byte
abbrev pub header_at : List (List ℕ) → ℕ
header_at ps = size_byte ps + 1

-- no part begins these bytes: none that can be written, whatever stands behind it
pub record NoPart (rest : List ℕ) : Type 0 where
  pub some : 0 < length rest
  pub none : (p behind : List ℕ) → length p < 4294967296 → rest ≡ part_bytes p ++ behind → ⊥

-- the body of the frame b is the parts ps, and behind them a last one of 20 bytes
pub record HeaderIn (b : List ℕ) (ps : List (List ℕ)) (p : List ℕ) : Type 0 where
  pub whole : body_in b ≡ joined (ps ++ (p ∷ []))
  pub long : length p ≡ header_length

-- and that one is right: its magic, version, type and flag 80, as they stand in b
pub record RightHeader (b : List ℕ) (ps : List (List ℕ)) (p : List ℕ) : Type 0 where
  pub head : HeaderIn b ps p
  pub magic : get_or b (header_at ps) 0 ≡ magic
  pub version : get_or b (header_at ps + 1) 0 ≡ version
  pub kind : is_type (get_or b (header_at ps + 2) 0) ≡ true
  pub flags : are_flags (get_or b (header_at ps + 3) 0) ≡ true

-- ---- the ticket's rows: a number, and the byte that goes with it

pub data FaultAt (b : List ℕ) : ℕ → ℕ → Type 0 where
  -- "4 .. the part's size byte": whole parts stand in front of it, and no part begins there
  size_wrong : (ps : List (List ℕ)) (rest : List ℕ) → body_in b ≡ joined ps ++ rest → length ps < most_parts → NoPart rest → FaultAt b 4 (size_byte ps)
  -- "5 the part's size byte": 68 parts stand in front of it
  too_many : (ps : List (List ℕ)) (rest : List ℕ) → body_in b ≡ joined ps ++ rest → length ps ≡ most_parts → 0 < length rest → FaultAt b 5 (size_byte ps)
  -- "6 .. 8 with no part"
  no_part : body_in b ≡ [] → FaultAt b 6 8
  -- "6 the last part's size byte"
  length_wrong : (ps : List (List ℕ)) (p : List ℕ) → body_in b ≡ joined (ps ++ (p ∷ [])) → (length p ≡ header_length → ⊥) → FaultAt b 6 (size_byte ps)
  -- "7 the start of the header's data"
  parts_disagree : (ps : List (List ℕ)) (p : List ℕ) → RightHeader b ps p → parts_agree (header_in p) ps ≡ false → FaultAt b 7 (header_at ps)
  -- "8 .. where the first offending part's data starts": the routes in front of it are right, and it is malformed
  route_wrong : (ps : List (List ℕ)) (p : List ℕ) → RightHeader b ps p → has_route (get_or b (header_at ps + 3) 0) ≡ true →
      (rs : List (List ℕ)) (r : List ℕ) (behind : List (List ℕ)) → before_empty ps ≡ rs ++ r ∷ behind → all_routes rs ≡ true → length rs < most_routes → is_route r ≡ false → FaultAt b 8 (data_byte rs r)
  -- "(the 65th route if no earlier one is malformed)"
  route_65 : (ps : List (List ℕ)) (p : List ℕ) → RightHeader b ps p → has_route (get_or b (header_at ps + 3) 0) ≡ true →
      (rs : List (List ℕ)) (r : List ℕ) (behind : List (List ℕ)) → before_empty ps ≡ rs ++ r ∷ behind → all_routes rs ≡ true → length rs ≡ most_routes → FaultAt b 8 (data_byte rs r)
  -- "9 where the first offending part's data starts": the topic's part, behind the routes and their delimiter
  topic_wrong : (ps : List (List ℕ)) (p : List ℕ) → RightHeader b ps p → has_topic (get_or b (header_at ps + 3) 0) ≡ true →
      (group : List (List ℕ)) (topic : List ℕ) (behind : List (List ℕ)) → group ≡ group_if (has_route (get_or b (header_at ps + 3) 0)) (before_empty ps) → ps ≡ group ++ topic ∷ behind → is_topic_part topic ≡ false → FaultAt b 9 (data_byte group topic)
  -- "10 the field's start": a request's nodeid, or an event's unused field
  nodeid_wrong : (ps : List (List ℕ)) (p : List ℕ) → RightHeader b ps p → get_or b (header_at ps + 2) 0 ≡ request_type → number (drop (header_at ps + 12) b) ≡ no_node → FaultAt b 10 (header_at ps + 12)
  unused_wrong : (ps : List (List ℕ)) (p : List ℕ) → RightHeader b ps p → get_or b (header_at ps + 2) 0 ≡ event_type → (number (drop (header_at ps + 16) b) ≡ 0 → ⊥) → FaultAt b 10 (header_at ps + 16)
  -- "20 to 23 that header byte": it is wrong there, and those in front of it are right
  magic_wrong : (ps : List (List ℕ)) (p : List ℕ) → HeaderIn b ps p → (get_or b (header_at ps) 0 ≡ magic → ⊥) → FaultAt b 20 (header_at ps)
  version_wrong : (ps : List (List ℕ)) (p : List ℕ) → HeaderIn b ps p → get_or b (header_at ps) 0 ≡ magic → (get_or b (header_at ps + 1) 0 ≡ version → ⊥) → FaultAt b 21 (header_at ps + 1)
  type_wrong : (ps : List (List ℕ)) (p : List ℕ) → HeaderIn b ps p → get_or b (header_at ps) 0 ≡ magic → get_or b (header_at ps + 1) 0 ≡ version → is_type (get_or b (header_at ps + 2) 0) ≡ false → FaultAt b 22 (header_at ps + 2)
  flag_wrong : (ps : List (List ℕ)) (p : List ℕ) → HeaderIn b ps p → get_or b (header_at ps) 0 ≡ magic → get_or b (header_at ps + 1) 0 ≡ version → is_type (get_or b (header_at ps + 2) 0) ≡ true →
      are_flags (get_or b (header_at ps + 3) 0) ≡ false → FaultAt b 23 (header_at ps + 3)

-- ---- the call

-- its record
abbrev pub number_told : List ℕ → ℕ
number_told row = number_in row 0

abbrev pub byte_told : List ℕ → ℕ
byte_told row = number_in row 1

-- the least number that has a byte
abbrev pub least_fault : ℕ
least_fault = 4

-- what lampreycoil_read_fault returned, and what it left in its record, lent as `lent`
pub record FaultTold (b lent : List ℕ) (r : ℕ) (row : List ℕ) : Type 0 where
  -- it "returns what lampreycoil_read returns for the same bytes", with whatever record that has room, and lists that number
  pub reads : (other : List ℕ) (q : ℕ) (listed : List ℕ) → read_record ≤ length other → Reads b other q listed → r ≡ q
  pub number : number_told row ≡ r
  -- "A good frame is 0 with (0, 0); refusals 1, 2 and 3 have byte 0"
  pub none : r < least_fault → byte_told row ≡ 0
  -- the byte is the one of the ticket's row, and no other is
  pub place : least_fault ≤ r → FaultAt b r (byte_told row)
  pub only : least_fault ≤ r → (byte : ℕ) → FaultAt b r byte → byte ≡ byte_told row
  -- the frame is all there; its body has a byte at that place, or has none at all: then it is 6 at 8
  pub there : least_fault ≤ r → 8 + body_length b ≤ length b
  pub least : least_fault ≤ r → 8 ≤ byte_told row
  pub within : least_fault ≤ r → 0 < body_length b → byte_told row < 8 + body_length b
  pub empty : least_fault ≤ r → body_length b ≡ 0 → (r ≡ 6) × (byte_told row ≡ 8)
  -- a longer record "keeps its tail"
  pub tail : drop fault_record row ≡ drop fault_record lent

-- of every input, and every record with room
abbrev pub FaultIsTold : List ℕ → Type 0
FaultIsTold b = (lent : List ℕ) (r : ℕ) (row : List ℕ) → fault_record ≤ length lent → ReadsFault b lent r row → FaultTold b lent r row
