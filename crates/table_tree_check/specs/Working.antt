-- What only the code's own steps promise each other: no promise of a public call speaks of it, and no reader has to believe it.
use Rattle.std.specs.Prelude.{◌≡◌, Bool, true, ℕ, ◌≤◌, ◌<◌, List, get_or}
use Rattle.table_tree.specs.Tree.{ranks_in}
use Rattle.table_tree.specs.Depths.{depth_of, tree_good}

-- `depths` has the depths of the ranks below r, none of them above 16: what the test of a tree has found so far
pub record Shallow (tree depths : List ℕ) (r : ℕ) : Type 0 where
  pub right : (k : ℕ) → k < r → get_or depths k 0 ≡ depth_of tree k
  pub most : (k : ℕ) → k < r → depth_of tree k ≤ 16

-- the test of a tree says whether it is one, and then leaves the depths of all its ranks
pub record Finds (tree left : List ℕ) (r : Bool) : Type 0 where
  pub told : r ≡ tree_good tree
  pub found : r ≡ true → Shallow tree left (ranks_in tree)
