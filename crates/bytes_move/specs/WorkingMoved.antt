-- Bytes moved within a buffer, and a buffer cleared.
use Rattle.std.specs.Prelude.{ℕ, ◌+◌, cond, ◌&&◌, List, ◌++◌, leb, length, take, drop, replicate}

-- how many bytes are moved at the most
abbrev pub most_moved : ℕ
most_moved = 32768

-- the n bytes at one place stand at another, which may overlap it; all else is as it was
abbrev pub moved : ℕ → ℕ → ℕ → List ℕ → List ℕ
moved from to n buffer = take to buffer ++ take n (drop from buffer) ++ drop (to + n) buffer

-- the same where they are few enough and both places lie in the buffer, and the buffer as it was elsewhere
abbrev pub moved_if_room : ℕ → ℕ → ℕ → List ℕ → List ℕ
moved_if_room from to n buffer =
    cond (leb n most_moved && (leb (from + n) (length buffer) && leb (to + n) (length buffer))) (moved from to n buffer) buffer

-- as many zeros
abbrev pub zeros : List ℕ → List ℕ
zeros buffer = replicate (length buffer) 0
