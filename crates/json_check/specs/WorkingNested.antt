-- Where a value begins, how far a reader of what is open came, and what the bytes behind the outer object come to.
use Rattle.std.specs.Prelude.{Option, Some, None, Result, Ok, Err}
use Rattle.std.specs.Prelude.{◌≡◌, false, List, [], ◌∷◌, ℕ, ◌+◌, ◌-◌, ◌<◌, ◌≤◌, length, drop, get_or}
use Rattle.json_scan.specs.Scan.{Verdict}
use Rattle.json_scan.specs.Scan.{is_white, Kind, in_object, in_array, Due, first_name, first_value, behind, between, scan}
use Rattle.json_scan.specs.WorkingReads.{Came, place_of, resumed}
use Rattle.json_scan.specs.declared.Fault.{Fault}
use Rattle.json_scan.specs.declared.Fault.TheVariants.{TooDeep}

-- what a reader tells that leaves the fault in a lent place: what it read, or that fault
abbrev pub left_by : {A : Type 0} → Option A → Fault → Result A Fault
left_by (Some a) fault = Ok a
left_by None fault = Err fault

-- this byte stands there, or a zero behind the end, and it is no white space
pub record Stands (bytes : List ℕ) (at c : ℕ) : Type 0 where
  pub there : c ≡ get_or bytes at 0
  pub dark : at < length bytes → is_white c ≡ false

-- what is due behind the opening byte
abbrev pub first : Kind → Due
first in_object = first_name
first in_array = first_value

-- behind the closing byte it is closed, and it stands behind a value in what is open around it
pub record Nests (bytes : List ℕ) (room at : ℕ) (kind : Kind) (r : Came) : Type 0 where
  pub same :
      (around : List Kind) →
      scan (length (kind ∷ around) + room) (between (first kind)) (kind ∷ around) at (drop at bytes) ≡ resumed bytes (scan (length (kind ∷ around) + room) (between behind) around) r
  pub onward : at ≤ place_of r

-- from the opening byte on: it may be a level too many
pub record Opened (bytes : List ℕ) (room at : ℕ) (kind : Kind) (r : Came) : Type 0 where
  pub deeper : room ≡ 0 → r ≡ Err (TooDeep at)
  pub nests : 0 < room → Nests bytes (room - 1) (at + 1) kind r

-- behind the outer object nothing is open
abbrev pub Ends : List ℕ → ℕ → Verdict → Type 0
Ends bytes at r = (most : ℕ) → scan most (between behind) [] at (drop at bytes) ≡ r
