-- Which trees are accepted: by the paper's sentence, and by a test that can be computed. That they are the same is the law `check_is_right` (table_tree_check's proofs/Checking.antt).
use Rattle.std.specs.Prelude.{◌≡◌, ℕ, zero, suc, ◌+◌, ◌≤◌, ◌<◌, Bool, true, cond, ◌&&◌, List, [], ◌∷◌, ◌++◌, eqb, leb}
use Rattle.table_records.specs.Below.{all_below}
use Rattle.table_tree.specs.Tree.{no_parent, ranks_in, whole_tree, parent_of}

-- "depths can be given so that rank 0 has 0, every other rank has its parent's plus 1, and none is above 16": d gives them
pub record Depths (tree : List ℕ) (d : ℕ → ℕ) : Type 0 where
  pub top : d 0 ≡ 0
  -- "its parent's": the parent is itself a rank of the tree, since the paper gives depths to ranks only, and d is a number everywhere
  pub inside : (r : ℕ) → r < ranks_in tree → (r ≡ 0 → ⊥) → parent_of tree r < ranks_in tree
  pub below : (r : ℕ) → r < ranks_in tree → (r ≡ 0 → ⊥) → d r ≡ d (parent_of tree r) + 1
  pub most : (r : ℕ) → r < ranks_in tree → d r ≤ 16

-- the paper's sentence: "Accepted exactly if depths can be given so that .."
pub record Accepted (tree : List ℕ) : Type 0 where
  pub whole : whole_tree tree ≡ true
  pub root : parent_of tree 0 ≡ no_parent
  pub depths : ℕ → ℕ
  pub given : Depths tree depths

-- how many parents one climbs from r to rank 0, and `most` where so many do not lead there
unfoldable pub climbs : List ℕ → ℕ → ℕ → ℕ
climbs tree zero r = 0
climbs tree (suc most) r = cond (eqb r 0) 0 (suc (climbs tree most (parent_of tree r)))

-- the depth of rank r, and 17 where 16 parents do not lead from r to rank 0
unfoldable pub depth_of : List ℕ → ℕ → ℕ
depth_of tree r = climbs tree 17 r

-- 14: the test that the code computes
unfoldable pub tree_good : List ℕ → Bool
tree_good tree = whole_tree tree && (eqb (parent_of tree 0) no_parent && all_below (ranks_in tree) (λ r. leb (depth_of tree r) 16))

-- the depths of the ranks below n, in their order
unfoldable pub depths_below : List ℕ → ℕ → List ℕ
depths_below tree zero = []
depths_below tree (suc n) = depths_below tree n ++ (depth_of tree n ∷ [])

-- "The tree check also writes one depth byte a rank to a lent buffer"
abbrev pub depths_of : List ℕ → List ℕ
depths_of tree = depths_below tree (ranks_in tree)
