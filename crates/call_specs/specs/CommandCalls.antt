-- lampreycoil_read_command and lampreycoil_write_command, as include/lampreycoil.h describes them: what each returns, and what it leaves in the slices that
-- it was lent.
use Rattle.std.specs.Prelude.{ℕ, List, [], ◌∷◌, ltb, length}
use Rattle.refusal.specs.declared.Refusal.TheVariants.{OutputShort}
use Rattle.refusal.specs.Answer.{Answer, answered, refuse_if, and_then}
use Rattle.mdp_command.specs.declared.CommandPlaces.{CommandPlaces}
use Rattle.mdp_command.specs.CommandReading.{command_read}
use Rattle.mdp_command.specs.CommandWriting.{Given, command_into}
use Rattle.mdp_command.specs.Places.{places_of}
use Rattle.call_specs.specs.Calls.{Lists, Fills, count_record}

-- eight numbers
abbrev pub command_record : ℕ
command_record = 32

-- "The read's record: sender, command, name start, name length, address start, body start, body length, number of body parts."
abbrev pub command_row : CommandPlaces → List ℕ
command_row f = f.sender ∷ f.code ∷ f.name.start ∷ f.name.len ∷ f.address ∷ f.body.start ∷ f.body.len ∷ f.parts ∷ []

-- "Read refuses in this order: 11 (record below 32 bytes), 31, 30, 32, 33, 34, 35, 36, 37"; rowRoom is the record slice's length
unfoldable pub read_command_call : List ℕ → ℕ → Answer (List ℕ)
read_command_call bytes rowRoom = refuse_if (ltb rowRoom command_record) OutputShort (and_then (command_read bytes) (λ c. answered (command_row (places_of c))))

-- lampreycoil_read_command
abbrev pub ReadsCommand : List ℕ → List ℕ → ℕ → List ℕ → Type 0
ReadsCommand bytes row r listed = Lists (read_command_call bytes (length row)) row r listed

-- "Write: 11 (record below 4 bytes), 33, 30, 34, 35, 36, 31, 11 (out too short)"; room is the output's length
unfoldable pub write_command_call : Given → ℕ → ℕ → Answer (List ℕ)
write_command_call g room rowRoom = refuse_if (ltb rowRoom count_record) OutputShort (command_into room g)

-- lampreycoil_write_command, given these: its record has one number, "the bytes written"
abbrev pub WritesCommand : Given → List ℕ → List ℕ → ℕ → List ℕ → List ℕ → Type 0
WritesCommand g out row r filled listed = Fills (write_command_call g (length out) (length row)) out row r filled listed
