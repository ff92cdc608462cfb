-- Bytes written over the front of a lent buffer.
use Rattle.std.specs.Prelude.{ℕ, List, ◌++◌, length, drop}

-- xs over the front of out, and the rest of out as it was
abbrev pub laid : List ℕ → List ℕ → List ℕ
laid xs out = xs ++ drop (length xs) out
