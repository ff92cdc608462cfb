-- Demand 2, of the two C calls themselves: "each accepted frame is written back as the same bytes, each written message read back as the same
-- message".
use Rattle.std.specs.Prelude.{◌≡◌, false, ℕ, ◌+◌, ◌*◌, ◌<◌, ◌≤◌, List, [], ◌++◌, length, get_or, take, drop}
use Rattle.bytes_number.specs.Number.{four, number_in}
use Rattle.frame_message.specs.declared.Header.{Header}
use Rattle.refusal.specs.Answer.{answered}
use Rattle.frame_message.specs.Header.{has_topic, has_payload}
use Rattle.frame_message.specs.Message.{Message}
use Rattle.frame_message.specs.Frame.{frame_of}
use Rattle.frame_message.specs.Reading.{reading_of}
use Rattle.frame_forms.specs.Forms.{route_length}
use Rattle.frame_message.specs.Writing.{given_message}
use Rattle.frame_layout.specs.Layout.{stretch}
use Rattle.call_specs.specs.Calls.{Reads, Writes, read_record, count_record}
use Rattle.claim_frames.specs.Records.{route_part, taken, fields_in, routes_at, topic_at, payload_at, handed_on}

-- ---- a record holds the message that was read

-- "The reader hands each part on as a stretch of the caller's bytes", "and the answer says how many bytes the frame took"
pub record Holds (bytes listed : List ℕ) (m : Message) : Type 0 where
  pub taken : taken listed ≡ length (frame_of m)
  pub fields : fields_in listed ≡ m.header
  pub count : number_in listed 7 ≡ length m.routes
  -- the first route where the record says, the others 38 bytes apart
  pub routes : (i : ℕ) → i < length m.routes → stretch bytes (number_in listed 8 + route_part * i) route_length ≡ get_or m.routes i []
  -- "the reader shows it without the zero"
  pub topic : topic_at bytes listed ≡ m.topic
  pub payload : payload_at bytes listed ≡ m.payload
  -- a part that is absent has start 0 and length 0
  pub no_topic : has_topic m.header.flags ≡ false → (number_in listed 9 ≡ 0) × (number_in listed 10 ≡ 0)
  pub no_payload : has_payload m.header.flags ≡ false → (number_in listed 11 ≡ 0) × (number_in listed 12 ≡ 0)

-- the message that the bytes hold by the definition of reading, and that the record holds it
pub record HeldMessage (bytes listed : List ℕ) : Type 0 where
  pub message : Message
  pub read : reading_of bytes ≡ answered message
  pub holds : Holds bytes listed message

-- if lampreycoil_read accepts the bytes, with whatever record slice, then its record holds the message
abbrev pub RecordHoldsMessage : List ℕ → Type 0
RecordHoldsMessage bytes = (row listed : List ℕ) → Reads bytes row 0 listed → HeldMessage bytes listed

-- ---- "each accepted frame is written back as the same bytes"

-- lampreycoil_write returns 0, lists the length that the read took, and leaves so many of the bytes that were read; the tails stay
pub record WrittenBack (bytes listed out tally : List ℕ) (r : ℕ) (filled counted : List ℕ) : Type 0 where
  pub returns : r ≡ 0
  pub lists : counted ≡ four (taken listed) ++ drop count_record tally
  pub writes : filled ≡ take (taken listed) bytes ++ drop (taken listed) out

-- if lampreycoil_read accepts the bytes, then lampreycoil_write, given the fields of the record and the bytes at the places that it names, into any
-- output and record slice with room, writes the frame back
abbrev pub AcceptedIsWrittenBack : List ℕ → Type 0
AcceptedIsWrittenBack bytes =
    (row listed : List ℕ) → Reads bytes row 0 listed →
    (out tally : List ℕ) → taken listed ≤ length out → count_record ≤ length tally →
    (r : ℕ) (filled counted : List ℕ) → Writes (handed_on bytes listed) out tally r filled counted →
    WrittenBack bytes listed out tally r filled counted

-- ---- "each written message read back as the same message"

-- lampreycoil_read returns 0 and lists the fields, and places at which the bytes lie that were given; the record's tail stays
pub record ReadBack (header : Header) (routes topic payload filled counted row : List ℕ) (r : ℕ) (listed : List ℕ) : Type 0 where
  pub returns : r ≡ 0
  pub whole_frame : taken listed ≡ taken counted
  pub same_fields : fields_in listed ≡ header
  pub same_routes : routes_at filled listed ≡ routes
  pub same_topic : topic_at filled listed ≡ topic
  pub same_payload : payload_at filled listed ≡ payload
  pub tail : drop read_record listed ≡ drop read_record row

-- if lampreycoil_write wrote the message into some output, then lampreycoil_read, with any record slice that has room, reads it from there
abbrev pub WrittenIsReadBack : Header → List ℕ → List ℕ → List ℕ → Type 0
WrittenIsReadBack header routes topic payload =
    (out tally filled counted : List ℕ) → Writes (given_message header routes topic payload) out tally 0 filled counted →
    (row : List ℕ) → read_record ≤ length row →
    (r : ℕ) (listed : List ℕ) → Reads filled row r listed →
    ReadBack header routes topic payload filled counted row r listed
