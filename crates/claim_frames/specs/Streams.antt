-- Many frames in one read, of the call itself: "The outcome equals the single reader called again on what remains." (paper 02, ticket 1) The listed
-- frames one after another, each accepted by the reader with the listed length, are the input up to the stop.
use Rattle.std.specs.Prelude.{◌≡◌, ℕ, zero, suc, ◌+◌, ◌-◌, ◌*◌, ◌<◌, ◌≤◌, List, [], ◌++◌, length, take, drop}
use Rattle.refusal.specs.declared.Refusal.{Refusal}
use Rattle.refusal.specs.declared.Refusal.TheVariants.{OutputShort}
use Rattle.refusal.specs.Refusals.{number_of}
use Rattle.refusal.specs.Answer.{refused, answered}
use Rattle.frame_message.specs.Message.{Message}
use Rattle.frame_message.specs.Frame.{frame_of}
use Rattle.frame_message.specs.Reading.{reading_of}
use Rattle.frame_layout.specs.Layout.{stretch}
use Rattle.frame_stream.specs.Stream.{seen, entry_size}
use Rattle.call_specs.specs.Calls.{stream_record, ReadsStream}
use Rattle.bytes_number.specs.Number.{number_in}

-- the call's record: how many frames it listed, the refusal that stopped it, and where that frame starts
abbrev pub entries_in : List ℕ → ℕ
entries_in row = number_in row 0

abbrev pub stop_reason_in : List ℕ → ℕ
stop_reason_in row = number_in row 1

abbrev pub stop_in : List ℕ → ℕ
stop_in row = number_in row 2

-- entry i of its list: the frame's "start and length"
abbrev pub start_at : List ℕ → ℕ → ℕ
start_at list i = number_in list (2 * i)

abbrev pub length_at : List ℕ → ℕ → ℕ
length_at list i = number_in list (2 * i + 1)

-- the frames that the first n entries name, one after another
abbrev pub frames_at : List ℕ → List ℕ → ℕ → List ℕ
frames_at bytes list zero = []
frames_at bytes list (suc n) = frames_at bytes list n ++ stretch bytes (start_at list n) (length_at list n)

-- the single reader accepts what remains from a place on, with a frame of so many bytes
pub record AcceptedAt (bytes : List ℕ) (start len : ℕ) : Type 0 where
  pub message : Message
  pub read : reading_of (drop start bytes) ≡ answered message
  pub long : length (frame_of message) ≡ len

-- why it stopped where it did: the refusal is the single reader's of what remains there; or what remains begins with a good frame, and then it is 11,
-- "with no room for 8 more"
pub record StoppedBy (bytes : List ℕ) (room stop number : ℕ) : Type 0 where
  pub unread : (r : Refusal) → reading_of (drop stop bytes) ≡ refused r → number ≡ number_of r
  pub full : (m : Message) → reading_of (drop stop bytes) ≡ answered m → (number ≡ number_of OutputShort) × (room < entry_size)

-- the header's LAMPREYCOIL_LIST_MAX: as many entries as frames of 29 bytes find place in 1,048,576, and no frame is shorter
abbrev pub enough_list : ℕ
enough_list = 289256

-- what lampreycoil_read_stream returned, and what it left in its list, lent as `list`, and in its record, lent as `lent`
pub record FramesOf (bytes list lent : List ℕ) (r : ℕ) (filled row : List ℕ) : Type 0 where
  pub returns : r ≡ 0
  -- the entries lie in the list
  pub fits : entry_size * entries_in row ≤ length list
  pub accepted : (i : ℕ) → i < entries_in row → AcceptedAt (seen bytes) (start_at filled i) (length_at filled i)
  -- each frame starts where those in front of it end
  pub starts : (i : ℕ) → i < entries_in row → start_at filled i ≡ length (frames_at bytes filled i)
  -- one after another they are the input up to the stop
  pub joined : frames_at bytes filled (entries_in row) ≡ take (stop_in row) bytes
  pub within : stop_in row ≤ length (seen bytes)
  pub stopped : StoppedBy (seen bytes) (length list - entry_size * entries_in row) (stop_in row) (stop_reason_in row)
  -- a list of so many bytes is never too short: no good frame is left at the stop
  pub enough : enough_list ≤ length list → (m : Message) → reading_of (drop (stop_in row) (seen bytes)) ≡ answered m → ⊥
  -- "and bytes behind them stay"
  pub tail : drop (entry_size * entries_in row) filled ≡ drop (entry_size * entries_in row) list
  pub record_tail : drop stream_record row ≡ drop stream_record lent

-- of all bytes, every list, and every record with room
abbrev pub StreamIsTheInput : List ℕ → Type 0
StreamIsTheInput bytes =
    (list row : List ℕ) (r : ℕ) (filled listed : List ℕ) → stream_record ≤ length row → ReadsStream bytes list row r filled listed →
    FramesOf bytes list row r filled listed
