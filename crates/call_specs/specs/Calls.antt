-- The C calls, as include/lampreycoil.h describes them: what each returns, and what it leaves in the slices that it was lent.
use Rattle.std.specs.Prelude.{◌≡◌, ℕ, ◌<◌, ◌≤◌, List, [], ◌∷◌, ◌++◌, ltb, length}
use Rattle.bytes_number.specs.Number.{row_bytes}
use Rattle.bytes_number.specs.Laid.{laid}
use Rattle.frame_message.specs.declared.Header.{Header}
use Rattle.refusal.specs.declared.Refusal.TheVariants.{OutputShort}
use Rattle.refusal.specs.Refusals.{number_of}
use Rattle.refusal.specs.Answer.{Answer, refused, answered, refuse_if, and_then, written_over}
use Rattle.frame_message.specs.Message.{Message}
use Rattle.frame_message.specs.Reading.{reading_of}
use Rattle.frame_message.specs.Writing.{writing_into}
use Rattle.table_tree_check.specs.Checking.{depths_into}
use Rattle.step_routing.specs.declared.Broker.{Broker}
use Rattle.step_routing.specs.Messages.{Owner, owner_of}
use Rattle.step_routing.specs.Routed.{Tables, Outcome}
use Rattle.step_pass.specs.Step.{step_of, left_by, stepped_of, told_as}
use Rattle.walk.specs.Walk.{Walk, walk_of}
use Rattle.call_read_record.specs.Rows.{read_row}
use Rattle.call_step_record.specs.Steps.{step_row, last_row, frame_length}
use Rattle.frame_stream.specs.Stream.{Stream, stream_of, list_row}
use Rattle.frame_layout.specs.Layout.{layout_of}

-- ---- what a call tells of its answer

-- a call returns 0, or the number of its refusal
abbrev pub returned : {A : Type 0} → Answer A → ℕ
returned (refused r) = number_of r
returned (answered a) = 0

-- a record is a row of 4-byte big-endian numbers in a lent slice; a longer slice keeps its tail, and a refusal writes nothing
abbrev pub recorded : Answer (List ℕ) → List ℕ → List ℕ
recorded (refused r) row = row
recorded (answered numbers) row = laid (row_bytes numbers) row

-- how many bytes were written: the frame's length, or how many depths
abbrev pub wrote : Answer (List ℕ) → Answer (List ℕ)
wrote bytes = and_then bytes (λ written. answered (length written ∷ []))

-- a call that lists the numbers of its answer in `row`: it returns r, and leaves `row` as `listed`
pub record Lists (answer : Answer (List ℕ)) (row : List ℕ) (r : ℕ) (listed : List ℕ) : Type 0 where
  pub returns : r ≡ returned answer
  pub lists : listed ≡ recorded answer row

-- a call that lays the bytes of its answer over the front of `lent`, and lists in `row` how many they are
pub record Fills (answer : Answer (List ℕ)) (lent row : List ℕ) (r : ℕ) (filled listed : List ℕ) : Type 0 where
  pub returns : r ≡ returned answer
  pub fills : filled ≡ written_over answer lent
  pub lists : listed ≡ recorded (wrote answer) row

-- ---- how long a record is: thirteen numbers of a read, and one that counts bytes

abbrev pub read_record : ℕ
read_record = 52

abbrev pub count_record : ℕ
count_record = 4

-- ---- the calls; in each, "a record buffer" that is too short "gives 11 before anything else"

-- where the message lies, or why there is none; rowRoom is the record slice's length
unfoldable pub read_call : List ℕ → ℕ → Answer (List ℕ)
read_call bytes rowRoom = refuse_if (ltb rowRoom read_record) OutputShort (and_then (reading_of bytes) (λ m. answered (read_row (layout_of m))))

-- lampreycoil_read
abbrev pub Reads : List ℕ → List ℕ → ℕ → List ℕ → Type 0
Reads bytes row r listed = Lists (read_call bytes (length row)) row r listed

-- the header's fields, one by one
abbrev pub header_of : ℕ → ℕ → ℕ → ℕ → ℕ → ℕ → Header
header_of kind flags userid rolemask first second = record { kind = kind; flags = flags; userid = userid; rolemask = rolemask; first = first; second = second }

-- the frame, or why it is not written; room is the output's length
unfoldable pub write_call : Message → ℕ → ℕ → Answer (List ℕ)
write_call m room rowRoom = refuse_if (ltb rowRoom count_record) OutputShort (writing_into room m)

-- lampreycoil_write, given the message m
abbrev pub Writes : Message → List ℕ → List ℕ → ℕ → List ℕ → List ℕ → Type 0
Writes m out row r filled listed = Fills (write_call m (length out) (length row)) out row r filled listed

-- the depths, or why they are not written; room is the lent buffer's length
unfoldable pub tree_call : List ℕ → ℕ → ℕ → Answer (List ℕ)
tree_call tree room rowRoom = refuse_if (ltb rowRoom count_record) OutputShort (depths_into room tree)

-- lampreycoil_check_tree
abbrev pub ChecksTree : List ℕ → List ℕ → List ℕ → ℕ → List ℕ → List ℕ → Type 0
ChecksTree tree depths row r filled listed = Fills (tree_call tree (length depths) (length row)) depths row r filled listed

-- ---- the step: "The host's step call also writes 16 bytes"

abbrev pub step_record : ℕ
step_record = 16

-- the broker of a rank, whose error replies are this owner's
abbrev pub broker_as : Owner → ℕ → Broker
broker_as owner rank = record { rank = rank; userid = owner.userid; rolemask = owner.rolemask }

-- "userid FFFFFFFF, rolemask 0"
abbrev pub nobody : Owner
nobody = owner_of 4294967295 0

-- the broker of the host's calls
abbrev pub host_broker : ℕ → Broker
host_broker rank = broker_as nobody rank

-- "A record buffer below 16 bytes gives 11 before anything else"
unfoldable pub step_call : Tables → Broker → List ℕ → ℕ → Answer Outcome
step_call t b buffer rowRoom = refuse_if (ltb rowRoom step_record) OutputShort (step_of t b buffer)

-- the four numbers of an answer, where this is left in the buffer
abbrev pub step_numbers : List ℕ → Answer Outcome → Answer (List ℕ)
step_numbers left answer = and_then answer (λ o. answered (step_row (stepped_of o) (frame_length left)))

-- a step that ends with this answer: it returns r, and leaves the buffer and the record so
pub record Tells (answer : Answer Outcome) (buffer row : List ℕ) (r : ℕ) (left listed : List ℕ) : Type 0 where
  pub returns : r ≡ returned answer
  pub leaves : left ≡ left_by answer buffer
  pub lists : listed ≡ recorded (step_numbers left answer) row

-- lampreycoil_step
abbrev pub Steps : Tables → Broker → List ℕ → List ℕ → ℕ → List ℕ → List ℕ → Type 0
Steps t b buffer row r left listed = Tells (step_call t b buffer (length row)) buffer row r left listed

-- ---- the walk

abbrev pub walk_record : ℕ
walk_record = 24

-- a walk's record: the step's four numbers, then the rank at which it rests and the links crossed; where it is refused the four are 0
abbrev pub walk_numbers : Walk → List ℕ
walk_numbers w = last_row (told_as w.answer) (frame_length w.left) ++ (w.rank ∷ w.links ∷ [])

-- a walk that comes to w: it returns r, and leaves the buffer and the record so
pub record Reports (w : Walk) (row : List ℕ) (r : ℕ) (left listed : List ℕ) : Type 0 where
  pub returns : r ≡ returned w.answer
  pub leaves : left ≡ w.left
  pub lists : listed ≡ laid (row_bytes (walk_numbers w)) row

-- lampreycoil_walk: a record that is too short is 11 before all else, and nothing is written
pub record Plays (t : Tables) (b : Broker) (buffer row : List ℕ) (r : ℕ) (left listed : List ℕ) : Type 0 where
  pub short : length row < walk_record → (r ≡ number_of OutputShort) × (left ≡ buffer) × (listed ≡ row)
  pub walks : walk_record ≤ length row → Reports (walk_of t b buffer) row r left listed

-- ---- the stream

-- three numbers
abbrev pub stream_record : ℕ
stream_record = 12

-- "how many entries it wrote" (paper 01), "which refusal stopped it and where that frame starts"
abbrev pub stream_numbers : Stream → List ℕ
stream_numbers s = length s.frames ∷ number_of s.stopped ∷ s.stop ∷ []

-- a stream that comes to s: the refusal that stopped it is its answer, so it returns 0; and it leaves the list and the record so
pub record ListsFrames (s : Stream) (list row : List ℕ) (r : ℕ) (filled listed : List ℕ) : Type 0 where
  pub returns : r ≡ 0
  pub fills : filled ≡ laid (row_bytes (list_row s.frames)) list
  pub lists : listed ≡ laid (row_bytes (stream_numbers s)) row

-- lampreycoil_read_stream: a record that is too short is 11 before all else, and nothing is written
pub record ReadsStream (bytes list row : List ℕ) (r : ℕ) (filled listed : List ℕ) : Type 0 where
  pub short : length row < stream_record → (r ≡ number_of OutputShort) × (filled ≡ list) × (listed ≡ row)
  pub streams : stream_record ≤ length row → ListsFrames (stream_of (length list) bytes) list row r filled listed
