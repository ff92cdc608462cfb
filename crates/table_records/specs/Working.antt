-- What only the code's own steps promise each other: no promise of a public call speaks of it, and no reader has to believe it.
use Rattle.std.specs.Prelude.{◌≡◌, ℕ, zero, suc, ◌+◌, ◌/◌, ◌≤◌, ◌*◌, Bool, cond, not, ◌&&◌, List, length, take, drop, leb}
use Rattle.table_records.specs.Below.{all_below, none_twice}
use Rattle.table_records.specs.Bytes.{same_bytes}
use Rattle.table_records.specs.Records.{record_at, most_records}

-- record i differs from all before it
abbrev pub fresh : ℕ → List ℕ → ℕ → Bool
fresh width table i = all_below i (λ j. not (same_bytes (record_at width table i) (record_at width table j)))

-- how many bytes in front of a and b are equal, counted in whole groups of four, of which a has n: up to the first group that differs, or the end of b
unfoldable pub equal_fours : ℕ → List ℕ → List ℕ → ℕ
equal_fours zero a b = 0
equal_fours (suc n) a b = cond (same_bytes (take 4 a) (take 4 b)) (4 + equal_fours n (drop 4 a) (drop 4 b)) 0

-- the same for all whole groups that a has
abbrev pub equal_in_fours : List ℕ → List ℕ → ℕ
equal_in_fours a b = equal_fours (length a / 4) a b

-- both begin with the same n bytes
pub record EqualFront (a b : List ℕ) (n : ℕ) : Type 0 where
  pub fits : n ≤ length a
  pub fits_other : n ≤ length b
  pub equal : take n a ≡ take n b

-- the table holds n records, at most 1,024 of them, and no two are equal
unfoldable pub distinct : ℕ → List ℕ → ℕ → Bool
distinct width table n = leb n most_records && (leb (n * width) (length table) && none_twice (λ i j. same_bytes (record_at width table i) (record_at width table j)) n)
