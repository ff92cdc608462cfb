-- The tree's bytes. "Tree: 4 bytes a rank, the parent; 1 to 1,024 ranks; rank 0 holds 4294967295." Nothing but `ranks_in`, `whole_tree` and
-- `parent_of` reads them.
use Rattle.std.specs.Prelude.{ℕ, ◌*◌, ◌/◌, Bool, cond, ◌&&◌, List, eqb, leb, ltb, length, drop}
use Rattle.bytes_number.specs.Number.{number}
use Rattle.table_records.specs.Records.{most_records}

-- "4 bytes a rank"
abbrev pub record_width : ℕ
record_width = 4

-- "rank 0 holds 4294967295": the number that is no rank's
abbrev pub no_parent : ℕ
no_parent = 4294967295

-- how many ranks the tree has
unfoldable pub ranks_in : List ℕ → ℕ
ranks_in tree = length tree / record_width

-- "4 bytes a rank", "1 to 1,024 ranks"
unfoldable pub whole_tree : List ℕ → Bool
whole_tree tree = eqb (length tree) (ranks_in tree * record_width) && (leb 1 (ranks_in tree) && leb (ranks_in tree) most_records)

-- the parent that the record of rank r holds; what is no rank of the tree has none
unfoldable pub parent_of : List ℕ → ℕ → ℕ
parent_of tree r = cond (ltb r (ranks_in tree)) (number (drop (r * record_width) tree)) no_parent
