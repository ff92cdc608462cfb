-- A table as records of one width, one after another.
use Rattle.std.specs.Prelude.{ℕ, ◌*◌, List, take, drop}

-- "1 to 1,024 ranks", "at most 1,024 records": the most records of any table
abbrev pub most_records : ℕ
most_records = 1024

-- the record with the number i, counted from 0
abbrev pub record_at : ℕ → List ℕ → ℕ → List ℕ
record_at width table i = take width (drop (i * width) table)
