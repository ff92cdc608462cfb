-- What a reader's place is good for: reading on from where it began is reading on from where it came to.
use Rattle.std.specs.Prelude.{◌≡◌, List, ℕ, ◌+◌, ◌≤◌, length, drop, Result, Ok, Err}
use Rattle.json_scan.specs.declared.Fault.{Fault}
use Rattle.json_scan.specs.declared.Fault.TheVariants.{NotJson, TooDeep}
use Rattle.json_scan.specs.Scan.{Kind, State, Verdict, scan}

-- how far a reader came: behind what it read, or to the place where it shows that the payload is not JSON
abbrev pub Came : Type 0
Came = Result ℕ Fault

abbrev pub place_of : Came → ℕ
place_of (Ok i) = i
place_of (Err (NotJson i)) = i
place_of (Err (TooDeep i)) = i

-- a reader of a token opens no level: where it stops, the payload is not JSON
abbrev pub came : {A : Type 0} → Result A ℕ → Result A Fault
came (Ok a) = Ok a
came (Err i) = Err (NotJson i)

-- what the whole comes to, if behind the token it is read on so
abbrev pub resumed : List ℕ → (ℕ → List ℕ → Verdict) → Came → Verdict
resumed bytes next (Ok i) = next i (drop i bytes)
resumed bytes next (Err fault) = Err fault

-- in bytes, from a place on where it stood in one state: behind what was read it stands in the other. What is open around it stays, and so many levels
-- more may be opened.
pub record ReadsOn (bytes : List ℕ) (room at : ℕ) (state next : State) (r : Came) : Type 0 where
  pub same : (around : List Kind) → scan (length around + room) state around at (drop at bytes) ≡ resumed bytes (scan (length around + room) next around) r
  pub onward : at ≤ place_of r
