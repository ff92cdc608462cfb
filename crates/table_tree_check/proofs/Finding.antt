-- Laws on the search for the depths: the test of a tree by its cases, in the code's order, and the ways out of the search.
use mathlib.Core.Path.{◌≡◌, sym, ◌∙◌}
use mathlib.Core.Bool.{true, false, ◌&&◌}
use mathlib.Core.List.{List}
use Prim.Native.Nat.{ℕ, ◌+◌, ◌<◌, ◌≤◌}
use native.Mathlib.Omega.{arith}
use borrow.Author.Count.{below_more}
use borrow.Author.Tests.{eq-eqb, ne_eqb, le-leb, lt-leb}
use lib.Dec.{eqb, leb}
use lib.ListN.{length, get_or, set}
use lib.Seq.{get_or-set_same, get_or-set_other}
use Rattle.table_records.specs.Below.{all_below}
use Rattle.bytes_number.proofs.Truth.{true_false, and_both as both, and_left_fails as left-fails, and_right_fails as right-fails}
use Rattle.table_records.proofs.Below.{all_of, all_fails}
use Rattle.table_tree.specs.Tree.{no_parent, ranks_in, whole_tree, parent_of}
use Rattle.table_tree.specs.Depths.{depth_of, tree_good}
use Rattle.table_tree_check.specs.Working.{Shallow, Finds}

module _ (tree : List ℕ) where
  -- ---- the test by its cases, in the code's order

  pub bad_whole : whole_tree tree ≡ false → tree_good tree ≡ false
  unfolding tree_good
  bad_whole w = left-fails (eqb (parent_of tree 0) no_parent && all_below (ranks_in tree) (λ r. leb (depth_of tree r) 16)) w

  pub bad_top : (parent_of tree 0 ≡ no_parent → ⊥) → tree_good tree ≡ false
  unfolding tree_good
  bad_top h = right-fails (whole_tree tree) (left-fails (all_below (ranks_in tree) (λ r. leb (depth_of tree r) 16)) (ne_eqb _ _ h))

  pub bad_depth : (r : ℕ) → r < ranks_in tree → 16 < depth_of tree r → tree_good tree ≡ false
  unfolding tree_good
  bad_depth r h deep =
      right-fails (whole_tree tree)
      (right-fails (eqb (parent_of tree 0) no_parent) (all_fails (λ r. leb (depth_of tree r) 16) (ranks_in tree) r h (lt-leb (depth_of tree r) 16 deep)))

  -- a turn of the loop over the ranks
  pub shallow_none : (depths : List ℕ) → Shallow tree depths 0
  shallow_none depths = record { right = λ k l. absurd (omega arith); most = λ k l. absurd (omega arith) }

  pub shallow_more : (depths : List ℕ) (r d : ℕ) → r < length depths → d ≡ depth_of tree r → d ≤ 16 → Shallow tree depths r → Shallow tree (set depths r d) (r + 1)
  shallow_more depths r d h e l s =
      record {
        right =
            below_more (λ k. get_or (set depths r d) k 0 ≡ depth_of tree k) r
            (λ k q. get_or-set_other depths r k d 0 (λ z. absurd (omega arith)) ∙ s.right k q)
            (get_or-set_same depths r d 0 h ∙ e);
        most = below_more (λ k. depth_of tree k ≤ 16) r s.most (omega arith);
      }

  -- ---- the search for the depths, by its ways out

  pub finds_none : (left : List ℕ) → tree_good tree ≡ false → Finds tree left false
  finds_none left g = record { told = sym g; found = λ e. absurd (true_false (sym e)) }

  pub good_all : whole_tree tree ≡ true → parent_of tree 0 ≡ no_parent → (depths : List ℕ) (r : ℕ) → r ≡ ranks_in tree → Shallow tree depths r → tree_good tree ≡ true
  unfolding tree_good
  good_all w top depths r e s =
      both w (both (eq-eqb _ _ top) (all_of (λ r. leb (depth_of tree r) 16) (ranks_in tree) (λ k h. le-leb (depth_of tree k) 16 (s.most k (omega arith)))))

  pub finds_all : whole_tree tree ≡ true → parent_of tree 0 ≡ no_parent → (left : List ℕ) (r : ℕ) → r ≡ ranks_in tree → Shallow tree left r → Finds tree left true
  finds_all w top left r e s = record { told = sym (good_all w top left r e s); found = λ t. rw (← e) s }
