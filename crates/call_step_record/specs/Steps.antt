-- A step as a row of numbers: "answer, its number (record or rank, else 0), error number or 0, length of the frame now in the buffer".
use Rattle.std.specs.Prelude.{ℕ, Result, Ok, Err, ◌+◌, List, [], ◌∷◌}
use Rattle.frame_message.specs.Reading.{body_length}
use Rattle.refusal.specs.declared.Refusal.{Refusal}
use Rattle.step_routing.specs.declared.Stepped.{Stepped}
use Rattle.step_routing.specs.declared.Stepped.TheVariants.{Delivered, Forwarded, Replied, Silenced, Home}

-- "1 delivered, with the record's number ..; 2 forward, with the rank; 3 error reply made, with the error number; 4 silenced .., with that number; 5 home"
abbrev pub step_row : Stepped → ℕ → List ℕ
step_row (Delivered number) size = 1 ∷ number ∷ 0 ∷ size ∷ []
step_row (Forwarded next) size = 2 ∷ next ∷ 0 ∷ size ∷ []
step_row (Replied errnum) size = 3 ∷ 0 ∷ errnum ∷ size ∷ []
step_row (Silenced errnum) size = 4 ∷ 0 ∷ errnum ∷ size ∷ []
step_row Home size = 5 ∷ 0 ∷ 0 ∷ size ∷ []

-- the last step of a walk: a refusal has no answer, and four zeros in the walk's record
abbrev pub last_row : Result Stepped Refusal → ℕ → List ℕ
last_row (Err r) size = 0 ∷ 0 ∷ 0 ∷ 0 ∷ []
last_row (Ok s) size = step_row s size

-- "length of the frame now in the buffer": a frame says it in its first eight bytes
abbrev pub frame_length : List ℕ → ℕ
frame_length buffer = 8 + body_length buffer
