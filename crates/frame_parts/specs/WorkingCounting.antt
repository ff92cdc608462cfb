-- What the counting of a body's parts finds, of the list of parts; and where it stops.
use Rattle.std.specs.Prelude.{ℕ, Result, Ok, Err, zero, suc, ◌+◌, List, [], ◌∷◌, length}
use Rattle.refusal.specs.Answer.{Answer, refused, answered}
use Rattle.frame_message.specs.Frame.{part_bytes, joined}
use Rattle.frame_message.specs.Reading.{first_part, parts_in, front, before_empty}
use Rattle.frame_parts.specs.declared.PartCounts.{PartCounts}
use Rattle.frame_parts.specs.declared.Stop.{Stop}

-- behind a part that was cut: its own bytes, and so many more of those that are left; none behind one that was refused
abbrev pub behind_part : Answer (List ℕ × List ℕ) → (List ℕ → ℕ) → ℕ
behind_part (refused r) more = 0
behind_part (answered cut) more = length (part_bytes cut.0) + more cut.1

-- the byte at which the part begins that `parts_in` refuses, counted from the front of the bytes; the byte behind all parts where it refuses none
unfoldable pub stop_byte : ℕ → List ℕ → ℕ
stop_byte zero bytes = 0
stop_byte (suc most) [] = 0
stop_byte (suc most) (x ∷ xs) = behind_part (first_part x xs) (stop_byte most)

-- the parts, counted: all of them, those in front of the first empty one and their bytes, and the bytes in front of the last
abbrev pub counted_as : ℕ → Answer (List (List ℕ)) → Result PartCounts Stop
counted_as stop (refused r) = Err (record { why = r; at = stop })
counted_as stop (answered ps) =
    Ok (record { count = length ps; empty = length (before_empty ps); group = length (joined (before_empty ps)); last = length (joined (front ps)) })

-- what is answered of bytes in which at most so many parts may come
abbrev pub counting_of : ℕ → List ℕ → Result PartCounts Stop
counting_of most bytes = counted_as (stop_byte most bytes) (parts_in most bytes)

-- the parts, of an answer that is known to have some
abbrev pub parts_or_none : Answer (List (List ℕ)) → List (List ℕ)
parts_or_none (refused r) = []
parts_or_none (answered ps) = ps
