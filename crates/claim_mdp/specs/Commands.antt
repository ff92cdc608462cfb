-- "Both ways round must hold as for Flux frames" (paper 02, ticket 5), of the two C calls themselves.
use Rattle.std.specs.Prelude.{◌≡◌, true, false, ℕ, ◌+◌, ◌≤◌, List, ◌++◌, length, take, drop}
use Rattle.bytes_number.specs.Number.{four, number_in}
use Rattle.refusal.specs.declared.Refusal.{Refusal}
use Rattle.refusal.specs.declared.Refusal.TheVariants.{PartWrong}
use Rattle.refusal.specs.Answer.{refused, answered}
use Rattle.frame_message.specs.Frame.{joined}
use Rattle.frame_message.specs.Reading.{parts_in}
use Rattle.mdp_command.specs.Command.{Command, client, worker, has_name, has_address, has_body}
use Rattle.mdp_command.specs.CommandReading.{command_read}
use Rattle.mdp_command.specs.CommandWriting.{Given}
use Rattle.call_specs.specs.Calls.{count_record}
use Rattle.call_specs.specs.CommandCalls.{command_record, ReadsCommand, WritesCommand}
use Rattle.claim_mdp.specs.CommandRecords.{sender_in, code_in, name_at, address_at, body_at, body_parts_in, command_handed_on}

-- ---- a record holds the command that was read

pub record HoldsCommand (bytes listed : List ℕ) (c : Command) : Type 0 where
  pub sender : sender_in listed ≡ c.sender
  pub code : code_in listed ≡ c.code
  pub name : name_at bytes listed ≡ c.name
  pub address : address_at bytes listed ≡ c.address
  -- "it is one stretch in the form that the writer takes", "and the body goes to the end of the bytes"
  pub body : body_at bytes listed ≡ joined c.body
  pub parts : body_parts_in listed ≡ length c.body
  pub ends : has_body c.sender c.code ≡ true → number_in listed 5 + number_in listed 6 ≡ length bytes
  -- "What the command lacks has start 0, length 0, and 0 parts."
  pub no_name : has_name c.sender c.code ≡ false → (number_in listed 2 ≡ 0) × (number_in listed 3 ≡ 0)
  pub no_address : has_address c.sender c.code ≡ false → number_in listed 4 ≡ 0
  pub no_body : has_body c.sender c.code ≡ false → (number_in listed 5 ≡ 0) × (number_in listed 6 ≡ 0) × (body_parts_in listed ≡ 0)

-- the command that the bytes hold by the definition of reading, and that the record holds it
pub record HeldCommand (bytes listed : List ℕ) : Type 0 where
  pub command : Command
  pub read : command_read bytes ≡ answered command
  pub holds : HoldsCommand bytes listed command

-- if lampreycoil_read_command accepts the bytes, with whatever record slice, then its record holds the command
abbrev pub RecordHoldsCommand : List ℕ → Type 0
RecordHoldsCommand bytes = (row listed : List ℕ) → ReadsCommand bytes row 0 listed → HeldCommand bytes listed

-- ---- what is read is written back as the same bytes

-- lampreycoil_write_command returns 0, lists how many bytes there are, and leaves them; the tails stay
pub record CommandWrittenBack (bytes out tally : List ℕ) (r : ℕ) (filled counted : List ℕ) : Type 0 where
  pub returns : r ≡ 0
  pub lists : counted ≡ four (length bytes) ++ drop count_record tally
  pub writes : filled ≡ bytes ++ drop (length bytes) out

-- "The bytes that read takes (return 0) are written again, as the same bytes, by write with the fields that the record shows, in an out of just that length",
-- or of any more
abbrev pub ReadIsWrittenBack : List ℕ → Type 0
ReadIsWrittenBack bytes =
    (row listed : List ℕ) → ReadsCommand bytes row 0 listed →
    (out tally : List ℕ) → length bytes ≤ length out → count_record ≤ length tally →
    (r : ℕ) (filled counted : List ℕ) → WritesCommand (command_handed_on bytes listed) out tally r filled counted →
    CommandWrittenBack bytes out tally r filled counted

-- ---- what is written is read back as the same fields

-- the bytes written: as many of the output as the record tells
abbrev pub written_in : List ℕ → List ℕ → List ℕ
written_in filled counted = take (number_in counted 0) filled

-- lampreycoil_read_command returns 0 and lists the fields, and places at which the bytes lie that were given; the record's tail stays
pub record CommandReadBack (g : Given) (bytes row : List ℕ) (r : ℕ) (listed : List ℕ) : Type 0 where
  pub returns : r ≡ 0
  pub same_sender : sender_in listed ≡ g.sender
  pub same_code : code_in listed ≡ g.code
  pub same_name : name_at bytes listed ≡ g.name
  pub same_address : address_at bytes listed ≡ g.address
  pub same_body : body_at bytes listed ≡ g.body
  pub tail : drop command_record listed ≡ drop command_record row

-- "the bytes that write makes are read again as the same fields"
abbrev pub GivenIsReadBack : Given → Type 0
GivenIsReadBack g =
    (out tally filled counted : List ℕ) → WritesCommand g out tally 0 filled counted →
    (row : List ℕ) → command_record ≤ length row →
    (r : ℕ) (listed : List ℕ) → ReadsCommand (written_in filled counted) row r listed →
    CommandReadBack g (written_in filled counted) row r listed

-- ---- no bytes are a client's and a worker's command both

-- neither read as both, nor written for both
pub record NeverBoth (bytes : List ℕ) : Type 0 where
  pub reads : (row other listed others : List ℕ) → ReadsCommand bytes row 0 listed → ReadsCommand bytes other 0 others → sender_in listed ≡ client → sender_in others ≡ worker → ⊥
  pub writes : (g h : Given) → g.sender ≡ client → h.sender ≡ worker → (out tally filled counted out' tally' filled' counted' : List ℕ) →
      WritesCommand g out tally 0 filled counted → WritesCommand h out' tally' 0 filled' counted' → written_in filled counted ≡ bytes → written_in filled' counted' ≡ bytes → ⊥

-- ---- "30 a part's size as in 4": there is no 5

-- with room for as many parts as bytes, what stops the cutting of bytes into parts is what is 4 in a frame
abbrev pub AnyNumberOfParts : List ℕ → Type 0
AnyNumberOfParts bytes = (r : Refusal) → parts_in (length bytes) bytes ≡ refused r → r ≡ PartWrong
