-- Whether a payload is JSON, of the call itself: "Say yes exactly for those. .. A \"no\" gives the first byte at which no continuation is allowed, or the
-- length if it stops early; 26 gives the opening byte." (paper 02, ticket 2) What a good payload is, and where one stops being good, is said by RFC 7159's
-- grammar alone, in json_grammar/specs.
use Rattle.std.specs.Prelude.{◌≡◌, ℕ, ◌≤◌, List, length, drop}
use Rattle.refusal.specs.declared.Refusal.TheVariants.{JsonDeep}
use Rattle.refusal.specs.Refusals.{number_of}
use Rattle.json_grammar.specs.Json.{payload_to, most_deep}
use Rattle.json_grammar.specs.Places.{NoAt, DeepAt}
use Rattle.call_specs.specs.JsonCalls.{json_record, told_byte, ChecksJson}
use Rattle.bytes_number.specs.Number.{number_in}

-- the call's record
abbrev pub answer_in : List ℕ → ℕ
answer_in row = number_in row 0

abbrev pub byte_in : List ℕ → ℕ
byte_in row = number_in row 1

-- "returns 0 with answer 1 and byte 0 for yes"; the header's lampreycoil_is_json is this test
abbrev pub SaysYes : ℕ → List ℕ → Type 0
SaysYes r row = (r ≡ 0) × (answer_in row ≡ 1) × (byte_in row ≡ 0)

-- "0 with answer 2 and the byte for no"
abbrev pub SaysNo : ℕ → List ℕ → ℕ → Type 0
SaysNo r row place = (r ≡ 0) × (answer_in row ≡ 2) × (byte_in row ≡ told_byte place)

-- "26 with answer 0 and the opening byte for too deep"
abbrev pub SaysDeep : ℕ → List ℕ → ℕ → Type 0
SaysDeep r row place = (r ≡ number_of JsonDeep) × (answer_in row ≡ 0) × (byte_in row ≡ told_byte place)

-- the longest payload whose every place is told as it is
abbrev pub most_told : ℕ
most_told = 4294967295

-- what lampreycoil_check_json returned, and what it left in its record, lent as `lent`
pub record JsonOf (payload lent : List ℕ) (r : ℕ) (row : List ℕ) : Type 0 where
  -- "Say yes exactly for those": what the record's first number says is enough
  pub good : answer_in row ≡ 1 → payload_to most_deep payload
  pub yes : payload_to most_deep payload → SaysYes r row
  -- a no, exactly at the grammar's place
  pub wrong : answer_in row ≡ 2 → length payload ≤ most_told → NoAt payload (byte_in row)
  pub no : (place : ℕ) → NoAt payload place → SaysNo r row place
  -- 26, exactly at the opening byte of the 33rd level
  pub nested : answer_in row ≡ 0 → length payload ≤ most_told → DeepAt payload (byte_in row)
  pub deep : (place : ℕ) → DeepAt payload place → SaysDeep r row place
  -- there is no fourth answer
  pub answers : answer_in row ≤ 2
  -- a longer record "keeps its tail"
  pub tail : drop json_record row ≡ drop json_record lent

-- of every payload, and every record with room
abbrev pub JsonIsTheGrammar : List ℕ → Type 0
JsonIsTheGrammar payload = (lent : List ℕ) (r : ℕ) (row : List ℕ) → json_record ≤ length lent → ChecksJson payload lent r row → JsonOf payload lent r row
