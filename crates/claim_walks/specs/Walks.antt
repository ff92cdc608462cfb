-- W1 to W11 of the C calls: the rows of the path's own table (the crate walk_path's specs/Walks.antt), as lampreycoil_walk reports them and as lampreycoil_step
-- ends them, called one after another.
use Rattle.std.specs.Prelude.{◌≡◌, ℕ, ◌+◌, ◌-◌, ◌≤◌, List, [], ◌∷◌, ◌++◌, length, drop, replicate}
use Prim.Native.String.{String}
use Rattle.bytes_number.specs.Number.{row_bytes}
use Rattle.frame_message.specs.Message.{Message}
use Rattle.frame_message.specs.Frame.{frame_of}
use Rattle.frame_message.specs.Reading.{final}
use Rattle.walk_path.specs.Walks.{bytes, floor_tree, floor_services, Told, delivered, failed, silenced, Row, walk, header, table}
use Rattle.step_routing.specs.Messages.{Owner}
use Rattle.step_routing.specs.Routed.{Tables, tables_of}
use Rattle.step_routing.specs.declared.Stepped.{Stepped}
use Rattle.step_routing.specs.declared.Stepped.TheVariants.{Delivered, Replied, Silenced}
use Rattle.walk.specs.Walk.{least_buffer}
use Rattle.call_step_record.specs.Steps.{step_row, frame_length}
use Rattle.call_specs.specs.Calls.{broker_as, Plays, walk_record}
use Rattle.claim_walks.specs.Demand3.{Enters, StepsOver}

-- ---- the floor's tables

-- "36 characters, lower-case hex in groups 8-4-4-4-12 with hyphens, then a zero byte": the last character is the rank's digit, and 48 is the code of 0
abbrev pub identity_of : ℕ → List ℕ
identity_of rank = bytes "00000000-0000-0000-0000-00000000000" ++ ((48 + rank) ∷ 0 ∷ [])

-- "one 37-byte route a rank", of which there are seven
abbrev pub floor_identities : List ℕ
floor_identities = identity_of 0 ++ identity_of 1 ++ identity_of 2 ++ identity_of 3 ++ identity_of 4 ++ identity_of 5 ++ identity_of 6

abbrev pub floor : Tables
floor = tables_of floor_tree floor_services floor_identities

-- ---- what enters, and how it ends

-- the request of a row: no routes and no payload
abbrev pub request_of : ℕ → ℕ → String → Message
request_of nodeid flags topic = record { header = header nodeid flags; routes = []; topic = bytes topic; payload = [] }

-- its frame in front of a buffer of so many bytes, and zeros behind it
abbrev pub entering : ℕ → Message → List ℕ
entering room m = frame_of m ++ replicate (room - length (frame_of m)) 0

-- "delivered" is answer 1 with the record's number, an error 3, "silenced" 4
abbrev pub answer_of : Told → Stepped
answer_of (delivered number) = Delivered number
answer_of (failed errnum) = Replied errnum
answer_of (silenced errnum) = Silenced errnum

-- the walk call returns 0 and lists this answer, the length of the frame now in the buffer, this rank and these links; the record's tail stays
pub record ReportsEnd (answer : Stepped) (rank links : ℕ) (left row : List ℕ) (r : ℕ) (after listed : List ℕ) : Type 0 where
  pub returns : r ≡ 0
  pub lists : listed ≡ row_bytes (step_row answer (frame_length after) ++ (rank ∷ links ∷ [])) ++ drop walk_record row
  pub leaves : after ≡ left

-- of a request m that enters in `buffer`
pub record EndsAs (t : Tables) (owner : Owner) (entry : ℕ) (buffer : List ℕ) (m : Message) (answer : Stepped) (rank links : ℕ) : Type 0 where
  -- the premises of demand 3
  pub enters : Enters t entry buffer m
  -- the brokers that it visits, from the entry to this rank, one more than these links; and what is left in the buffer
  pub brokers : List ℕ
  pub first : (rest : List ℕ) × (brokers ≡ entry ∷ rest)
  pub last : final 0 brokers ≡ rank
  pub count : length brokers ≡ links + 1
  pub left : List ℕ
  -- the steps over these brokers, one after another, end with this answer
  pub steps : StepsOver t owner buffer brokers answer left
  -- and so does the walk
  pub walk :
      (row : List ℕ) (r : ℕ) (after listed : List ℕ) → walk_record ≤ length row → Plays t (broker_as owner entry) buffer row r after listed →
      ReportsEnd answer rank links left row r after listed

-- ---- the claim

-- of a row, in a buffer of so many bytes
unfoldable pub RowEnds : Owner → ℕ → Row → Type 0
RowEnds owner room (walk entry nodeid flags topic told rank links) =
    let request = request_of nodeid flags topic in
    EndsAs floor owner entry (entering room request) request (answer_of told) rank links

-- of each row
unfoldable pub EachRow : (Row → Type 0) → List Row → Type 0
EachRow holds [] = Unit {0}
EachRow holds (row ∷ rows) = holds row × EachRow holds rows

-- W1 to W11, in any buffer that a walk takes, whosever the error replies are
abbrev pub WalksOfTheTable : Owner → Type 0
WalksOfTheTable owner = (room : ℕ) → least_buffer ≤ room → EachRow (RowEnds owner room) table
