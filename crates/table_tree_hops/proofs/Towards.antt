-- Laws on the next broker.
use mathlib.Core.Path.{◌≡◌, refl, ap, ◌∙◌}
use mathlib.Core.Bool.{true, false, or-true}
use mathlib.Core.List.{List}
use Prim.Native.Nat.{ℕ, zero, suc, ◌-◌, ◌<◌, ◌≤◌}
use native.Mathlib.Omega.{arith}
use lib.Dec.{eqb}
use borrow.Author.Tests.{eq-eqb, ne_eqb, lt-ltb, le-ltb}
use Rattle.table_tree.specs.Tree.{ranks_in, parent_of}
use Rattle.table_tree.specs.Depths.{depth_of}
use Rattle.table_tree_hops.specs.Towards.{is_neighbour, hop, towards}

-- ---- neighbours by the cases of the code

module _ (tree : List ℕ) (a b : ℕ) where
  pub outside_neighbour : ranks_in tree ≤ a → is_neighbour tree a b ≡ false
  unfolding is_neighbour
  outside_neighbour h = rw (le-ltb a (ranks_in tree) h) refl

  pub neighbour_outside : a < ranks_in tree → ranks_in tree ≤ b → is_neighbour tree a b ≡ false
  unfolding is_neighbour
  neighbour_outside ha hb = rw (lt-ltb a (ranks_in tree) ha, le-ltb b (ranks_in tree) hb) refl

  pub parent_neighbour : a < ranks_in tree → b < ranks_in tree → parent_of tree a ≡ b → is_neighbour tree a b ≡ true
  unfolding is_neighbour
  parent_neighbour ha hb e = rw (lt-ltb a (ranks_in tree) ha, lt-ltb b (ranks_in tree) hb, eq-eqb (parent_of tree a) b e) refl

  pub child_neighbour : a < ranks_in tree → b < ranks_in tree → parent_of tree b ≡ a → is_neighbour tree a b ≡ true
  unfolding is_neighbour
  child_neighbour ha hb e =
      rw (lt-ltb a (ranks_in tree) ha, lt-ltb b (ranks_in tree) hb, eq-eqb (parent_of tree b) a e) (or-true (eqb (parent_of tree a) b))

  pub other_neighbour : a < ranks_in tree → b < ranks_in tree → (parent_of tree a ≡ b → ⊥) → is_neighbour tree a b ≡ eqb (parent_of tree b) a
  unfolding is_neighbour
  other_neighbour ha hb h = rw (lt-ltb a (ranks_in tree) ha, lt-ltb b (ranks_in tree) hb, ne_eqb (parent_of tree a) b h) refl

-- ---- a hop by its cases

module _ (tree : List ℕ) (from target : ℕ) where
  pub hop_up : (depth : ℕ) → depth ≡ 0 → hop tree depth from target ≡ parent_of tree from
  unfolding hop
  hop_up depth e = rw e refl

  pub hop_child : (depth : ℕ) → (depth ≡ 0 → ⊥) → parent_of tree target ≡ from → hop tree depth from target ≡ target
  unfolding hop
  hop_child zero h e = absurd (h refl)
  hop_child (suc depth) h e = rw (eq-eqb _ _ e) refl

  pub hop_suc : (depth : ℕ) → (parent_of tree target ≡ from → ⊥) → hop tree (suc depth) from target ≡ hop tree depth from (parent_of tree target)
  unfolding hop
  hop_suc depth e = rw (ne_eqb _ _ e) refl

  pub hop_on : (depth : ℕ) → (depth ≡ 0 → ⊥) → (parent_of tree target ≡ from → ⊥) → hop tree depth from target ≡ hop tree (depth - 1) from (parent_of tree target)
  hop_on depth h e =
      let one : depth ≡ suc (depth - 1) = omega arith in
      ap (λ (d : ℕ). hop tree d from target) one ∙ hop_suc (depth - 1) e

  pub towards_is : towards tree from target ≡ hop tree (depth_of tree target) from target
  unfolding towards
  towards_is = refl
