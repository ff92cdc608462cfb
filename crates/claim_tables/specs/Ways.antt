-- The way to a rank: "Otherwise forward to the next broker on the tree path", "up to the lowest common ancestor and down to the target".
use Rattle.std.specs.Prelude.{◌≡◌, true, ℕ, ◌+◌, ◌-◌, ◌<◌, ◌≤◌, List}
use Rattle.table_tree.specs.Tree.{ranks_in}
use Rattle.table_tree.specs.Depths.{depth_of, tree_good}
use Rattle.table_tree_hops.specs.Towards.{is_neighbour, towards, above, after_hops}

-- where the chains of parents of two ranks meet first: the lowest common ancestor is `up` parents above the one and `down` above the other, and no
-- broker below it on the way up is the target or above it
pub record Meet (tree : List ℕ) (from target up down : ℕ) : Type 0 where
  pub up_most : up ≤ depth_of tree from
  pub down_most : down ≤ depth_of tree target
  pub there : above tree up from ≡ above tree down target
  pub first : (i : ℕ) → i < up → (k : ℕ) → k ≤ depth_of tree target → above tree k target ≡ above tree i from → ⊥

-- in a tree that is right, from one of its ranks to another
pub record WayToRank (tree : List ℕ) (from target : ℕ) : Type 0 where
  -- the chains meet
  pub up : ℕ
  pub down : ℕ
  pub meet : Meet tree from target up down
  -- the hops go up the one chain, then down the other, and end at the target
  pub climbs : (k : ℕ) → k ≤ up → after_hops tree k from target ≡ above tree k from
  pub descends : (k : ℕ) → k ≤ down → after_hops tree (up + k) from target ≡ above tree (down - k) target
  pub arrives : after_hops tree (up + down) from target ≡ target
  -- and no sooner
  pub not_before : (k : ℕ) → k < up + down → after_hops tree k from target ≡ target → ⊥
  -- each hop is to a neighbour: "parent or child"
  pub next : (from ≡ target → ⊥) → is_neighbour tree from (towards tree from target) ≡ true

abbrev pub EveryWay : List ℕ → Type 0
EveryWay tree = tree_good tree ≡ true → (from target : ℕ) → from < ranks_in tree → target < ranks_in tree → WayToRank tree from target
