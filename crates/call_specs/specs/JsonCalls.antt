-- lampreycoil_check_json, as include/lampreycoil.h describes it: what it returns, and what it leaves in the record that it was lent.
use Rattle.std.specs.Prelude.{Result, Ok, Err}
use Rattle.std.specs.Prelude.{◌≡◌, ℕ, ◌<◌, ◌≤◌, min, List, [], ◌∷◌, length}
use Rattle.bytes_number.specs.Number.{row_bytes}
use Rattle.bytes_number.specs.Laid.{laid}
use Rattle.refusal.specs.declared.Refusal.TheVariants as refusals
use Rattle.refusal.specs.Refusals.{number_of}
use Rattle.json_scan.specs.Scan.{Verdict}
use Rattle.json_scan.specs.declared.Fault.TheVariants.{NotJson, TooDeep}
use Rattle.json_scan.specs.Scan.{verdict_of}

-- two numbers: answer, byte
abbrev pub json_record : ℕ
json_record = 8

-- "A byte above 4294967295 is told as 4294967295."
abbrev pub told_byte : ℕ → ℕ
told_byte byte = min 4294967295 byte

-- 0, or "26 .. for too deep"
abbrev pub json_return : Verdict → ℕ
json_return (Ok tt) = 0
json_return (Err (NotJson byte)) = 0
json_return (Err (TooDeep byte)) = number_of refusals.JsonDeep

-- "answer 1 and byte 0 for yes, .. answer 2 and the byte for no, and .. answer 0 and the opening byte for too deep": a record of zeros is no yes
abbrev pub json_numbers : Verdict → List ℕ
json_numbers (Ok tt) = 1 ∷ 0 ∷ []
json_numbers (Err (NotJson byte)) = 2 ∷ told_byte byte ∷ []
json_numbers (Err (TooDeep byte)) = 0 ∷ told_byte byte ∷ []

-- a payload of which this is said: it returns r, and leaves the record so
pub record TellsJson (v : Verdict) (row : List ℕ) (r : ℕ) (listed : List ℕ) : Type 0 where
  pub returns : r ≡ json_return v
  pub lists : listed ≡ laid (row_bytes (json_numbers v)) row

-- a record that is too short is 11 before all else, and nothing is written
pub record ChecksJson (payload row : List ℕ) (r : ℕ) (listed : List ℕ) : Type 0 where
  pub short : length row < json_record → (r ≡ number_of refusals.OutputShort) × (listed ≡ row)
  pub checks : json_record ≤ length row → TellsJson (verdict_of payload) row r listed
