-- The next broker on the way from one rank to another, and who is whose neighbour.
use Rattle.std.specs.Prelude.{ℕ, zero, suc, Bool, cond, ◌&&◌, ◌||◌, List, eqb, ltb}
use Rattle.table_tree.specs.Tree.{ranks_in, parent_of}
use Rattle.table_tree.specs.Depths.{depth_of}

-- "a neighbour (parent or child)": both are ranks of the tree, since the number that rank 0 holds for a parent is no broker's
unfoldable pub is_neighbour : List ℕ → ℕ → ℕ → Bool
is_neighbour tree a b = ltb a (ranks_in tree) && (ltb b (ranks_in tree) && (eqb (parent_of tree a) b || eqb (parent_of tree b) a))

-- from one rank to another: the child of `from` on the way, if `from` is among the first `depth` parents of the target, else the parent of `from`
unfoldable pub hop : List ℕ → ℕ → ℕ → ℕ → ℕ
hop tree zero from target = parent_of tree from
hop tree (suc depth) from target = cond (eqb (parent_of tree target) from) target (hop tree depth from (parent_of tree target))

-- "the next broker on the tree path", "found by recursion on the target's parent, with the target's depth falling"
unfoldable pub towards : List ℕ → ℕ → ℕ → ℕ
towards tree from target = hop tree (depth_of tree target) from target

-- ---- what the laws on the next broker speak of

-- the rank k parents above r: its chain of parents
unfoldable pub above : List ℕ → ℕ → ℕ → ℕ
above tree zero r = r
above tree (suc k) r = above tree k (parent_of tree r)

-- where one is after k hops towards the target
unfoldable pub after_hops : List ℕ → ℕ → ℕ → ℕ → ℕ
after_hops tree zero from target = from
after_hops tree (suc k) from target = after_hops tree k (towards tree from target) target
