-- The tree check: "Accepted exactly if depths can be given so that rank 0 has 0, every other rank has its parent's plus 1, and none is above 16.
-- The tree check also writes one depth byte a rank to a lent buffer, the rest of it untouched."
use Rattle.std.specs.Prelude.{◌≡◌, ℕ, ◌<◌, ◌≤◌, List, ◌++◌, length, get_or, drop}
use Rattle.bytes_number.specs.Number.{four}
use Rattle.table_tree.specs.Tree.{ranks_in}
use Rattle.table_tree.specs.Depths.{Depths, Accepted}
use Rattle.call_specs.specs.Calls.{ChecksTree, count_record}

-- what lampreycoil_check_tree leaves where it returns 0: in front of the lent buffer the depth of each rank, whoever gives the depths, and how many
-- they are in its record; the tails stay
pub record DepthsWritten (tree depths row filled listed : List ℕ) : Type 0 where
  pub accepted : Accepted tree
  pub each : (d : ℕ → ℕ) → Depths tree d → (r : ℕ) → r < ranks_in tree → get_or filled r 0 ≡ d r
  -- "and none is above 16"
  pub deepest : (r : ℕ) → r < ranks_in tree → get_or filled r 0 ≤ 16
  pub tail : drop (ranks_in tree) filled ≡ drop (ranks_in tree) depths
  pub lists : listed ≡ four (ranks_in tree) ++ drop count_record row

-- with room for the record and the depths, it returns 0 exactly if the paper's sentence accepts the tree, and else 14
pub record TreeIsChecked (tree : List ℕ) : Type 0 where
  pub right : (depths row : List ℕ) (r : ℕ) (filled listed : List ℕ) → ChecksTree tree depths row r filled listed → Accepted tree → count_record ≤ length row → ranks_in tree ≤ length depths → r ≡ 0
  pub wrong : (depths row : List ℕ) (r : ℕ) (filled listed : List ℕ) → ChecksTree tree depths row r filled listed → (Accepted tree → ⊥) → count_record ≤ length row → r ≡ 14
  pub written : (depths row filled listed : List ℕ) → ChecksTree tree depths row 0 filled listed → DepthsWritten tree depths row filled listed
