-- What the size in front of a part says, of the part itself.
use Rattle.std.specs.Prelude.{ℕ, ◌+◌, cond, ltb, Option, Some, None, List, [], ◌∷◌, length}
use Rattle.refusal.specs.Answer.{Answer, refused, answered}
use Rattle.frame_message.specs.Frame.{size_bytes}
use Rattle.frame_message.specs.Reading.{first_part}
use Rattle.frame_message.specs.declared.Stretch.{Stretch}

-- so many bytes behind a size, where there are as many
abbrev pub data_at : ℕ → ℕ → ℕ → Option Stretch
data_at size start len = cond (ltb size (start + len)) None (Some (record { start = start; len = len }))

-- a part that was cut: its data starts behind its size
abbrev pub sized_as : Answer (List ℕ × List ℕ) → Option Stretch
sized_as (refused r) = None
sized_as (answered cut) = Some (record { start = length (size_bytes (length cut.0)); len = length cut.0 })

abbrev pub size_at : List ℕ → Option Stretch
size_at [] = None
size_at (x ∷ xs) = sized_as (first_part x xs)
