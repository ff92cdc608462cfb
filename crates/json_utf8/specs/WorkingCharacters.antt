-- Where a character of two bytes or more ends.
use Rattle.std.specs.Prelude.{List, [], ◌∷◌, ℕ, ◌+◌, Err}
use Rattle.json_scan.specs.Scan.{Class}
use Rattle.json_scan.specs.WorkingEnds.{Reached, rest_end}

-- by what comes behind its first byte; it stops there, if nothing does
abbrev pub character_end : ℕ → List Class → List ℕ → Reached
character_end at [] xs = Err at
character_end at (k ∷ ks) xs = rest_end (k ∷ ks) (at + 1) xs
