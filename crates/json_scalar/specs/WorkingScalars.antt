-- Where a number or a literal name ends, from its first byte on.
use Rattle.std.specs.Prelude.{Err}
use Rattle.std.specs.Prelude.{List, [], ◌∷◌, ℕ, ◌+◌}
use Rattle.json_scan.specs.WorkingEnds.{Reached}
use Rattle.json_scan.specs.Scan.{Class, exactly, between, number, text, escape, rest, ended, Move, nowhere, to, value_step}
use Rattle.json_scan.specs.WorkingEnds.{rest_end}
use Rattle.json_number.specs.WorkingFigures.{number_end}

-- these bytes are still to come
abbrev pub spelling : List ℕ → List Class
spelling [] = []
spelling (x ∷ xs) = exactly x ∷ spelling xs

-- by where the first byte leads: into a number, into a name, or, to stop there at once, into any other value or nowhere
abbrev pub scalar_on : ℕ → List ℕ → Move → Reached
scalar_on at cs nowhere = Err at
scalar_on at cs (to (number figure) around) = number_end figure (at + 1) cs
scalar_on at cs (to (rest k ks next) around) = rest_end (k ∷ ks) (at + 1) cs
scalar_on at cs (to (between due) around) = Err at
scalar_on at cs (to (text due) around) = Err at
scalar_on at cs (to (escape due) around) = Err at
scalar_on at cs (to ended around) = Err at

unfoldable pub scalar_end : ℕ → List ℕ → Reached
scalar_end at [] = Err at
scalar_end at (c ∷ cs) = scalar_on at cs (value_step [] c)
