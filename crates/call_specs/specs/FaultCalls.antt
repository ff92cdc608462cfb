-- lampreycoil_read_fault, as include/lampreycoil.h describes it: what it returns, and what it leaves in the record that it was lent.
use Rattle.std.specs.Prelude.{◌≡◌, ℕ, ◌<◌, ◌≤◌, List, [], ◌∷◌, length}
use Rattle.bytes_number.specs.Number.{row_bytes}
use Rattle.bytes_number.specs.Laid.{laid}
use Rattle.refusal.specs.declared.Refusal.TheVariants.{OutputShort}
use Rattle.refusal.specs.Refusals.{number_of}
use Rattle.frame_fault.specs.declared.Fault.{Fault}
use Rattle.frame_fault.specs.Fault.{fault_of}

-- two numbers
abbrev pub fault_record : ℕ
fault_record = 8

-- "the number, and the byte counted from the frame's front"
abbrev pub fault_numbers : Fault → List ℕ
fault_numbers f = f.number ∷ f.byte ∷ []

-- a frame with this fault: the number is returned, "and writes its record then too"
pub record TellsFault (f : Fault) (row : List ℕ) (r : ℕ) (listed : List ℕ) : Type 0 where
  pub returns : r ≡ f.number
  pub lists : listed ≡ laid (row_bytes (fault_numbers f)) row

-- "Only its own 11, for a record below 8 bytes, writes nothing"; that comes before all else
pub record ReadsFault (bytes row : List ℕ) (r : ℕ) (listed : List ℕ) : Type 0 where
  pub short : length row < fault_record → (r ≡ number_of OutputShort) × (listed ≡ row)
  pub tells : fault_record ≤ length row → TellsFault (fault_of bytes) row r listed
