-- What the code that lists a walk promises.
use Rattle.std.specs.Prelude.{ℕ, Result, Ok, Err, List, [], ◌∷◌, ◌++◌}
use Rattle.refusal.specs.declared.Refusal.{Refusal}
use Rattle.refusal.specs.Refusals.{number_of}
use Rattle.step_routing.specs.declared.Stepped.{Stepped}
use Rattle.walk.specs.declared.Walked.{Walked}
use Rattle.call_step_record.specs.Steps.{last_row}

-- "Its return is the refusal number, or 0."
abbrev pub refusal_in : Result Stepped Refusal → ℕ
refusal_in (Err r) = number_of r
refusal_in (Ok s) = 0

-- a walk: "that answer, the rank and the links crossed"
abbrev pub walk_row : Walked → ℕ → List ℕ
walk_row w size = last_row w.step size ++ (w.rank ∷ w.links ∷ [])
