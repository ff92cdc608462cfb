-- Laws on depths. The two that say what a tree is: `accepted_of` and `good_of`, the computed test is the paper's sentence, and `depths_are`, the
-- depths that can be given are the computed ones.
use mathlib.Core.Path.{◌≡◌, refl, sym, ap, ◌∙◌}
use mathlib.Core.Bool.{true, ◌&&◌}
use mathlib.Core.List.{List}
use mathlib.Core.Logic.{⊎_elim}
use Prim.Native.Nat.{ℕ, zero, suc, ◌+◌, ◌-◌, ◌<◌, ◌≤◌}
use native.Mathlib.Omega.{arith}
use borrow.Author.Tests.{eqb-true, eqb-false, leb-true, ltb-true, ltb-false, eq-eqb, ne_eqb, le-leb}
use lib.Dec.{eqb, leb, ltb}
use Rattle.table_records.specs.Below.{all_below}
use Rattle.bytes_number.proofs.Truth.{outcome, and_left as left, and_right as right, and_both as both}
use Rattle.table_records.proofs.Below.{all_at, all_of}
use Rattle.table_tree.specs.Tree.{no_parent, ranks_in, whole_tree, parent_of}
use Rattle.table_tree.specs.Depths.{Depths, Accepted, climbs, depth_of, tree_good}
use Rattle.table_tree.proofs.Tree.{parent_outside, whole_some, whole_few}

module _ (tree : List ℕ) where
  -- ---- climbing

  pub climbs_top : (most : ℕ) → climbs tree most 0 ≡ 0
  unfolding climbs
  climbs_top zero = refl
  climbs_top (suc most) = refl

  pub climbs_up : (most r : ℕ) → (r ≡ 0 → ⊥) → climbs tree (suc most) r ≡ suc (climbs tree most (parent_of tree r))
  unfolding climbs
  climbs_up most r h = simp (ne_eqb _ _ h)

  pub climbs-none : (r : ℕ) → climbs tree 0 r ≡ 0
  unfolding climbs
  climbs-none r = refl

  -- where fewer climbs lead to rank 0 than are allowed, allowing one more changes nothing
  climbs_enough : (most r : ℕ) → climbs tree most r < most → climbs tree (suc most) r ≡ climbs tree most r
  climbs_enough zero r h = absurd (omega arith)
  climbs_enough (suc most) r h =
      ⊎_elim
      (λ t. rw (eqb-true r 0 t, climbs_top (suc (suc most)), climbs_top (suc most)) refl)
      (λ t.
      let up = climbs_up most r (eqb-false r 0 t) in
      climbs_up (suc most) r (eqb-false r 0 t) ∙ ap suc (climbs_enough most (parent_of tree r) (omega (arith, rw up at h))) ∙ sym up)
      (outcome (eqb r 0))

  -- nor does allowing one less, where fewer climbs lead there than were allowed
  climbs_fewer : (most r : ℕ) → climbs tree (suc most) r ≤ most → climbs tree most r ≡ climbs tree (suc most) r
  climbs_fewer zero r h =
      ⊎_elim
      (λ t. rw (eqb-true r 0 t, climbs_top 1) (climbs_top 0))
      (λ t. absurd (omega (arith, climbs_up 0 r (eqb-false r 0 t))))
      (outcome (eqb r 0))
  climbs_fewer (suc most) r h =
      ⊎_elim
      (λ t. rw (eqb-true r 0 t, climbs_top (suc (suc most))) (climbs_top (suc most)))
      (λ t.
      let up = climbs_up (suc most) r (eqb-false r 0 t) in
      climbs_up most r (eqb-false r 0 t) ∙ ap suc (climbs_fewer most (parent_of tree r) (omega (arith, rw up at h))) ∙ sym up)
      (outcome (eqb r 0))

  -- nothing leads to rank 0 from outside the tree
  climbs_outside : whole_tree tree ≡ true → (most r : ℕ) → ranks_in tree ≤ r → climbs tree most r ≡ most
  climbs_outside w zero r h = climbs-none r
  climbs_outside w (suc most) r h =
      climbs_up most r (λ e. absurd (omega (arith, whole_some tree w)))
      ∙ ap suc (rw (parent_outside tree r h) (climbs_outside w most no_parent (omega (arith, whole_few tree w))))

  -- a turn of a loop that climbs from `at`, after d climbs
  pub climb_turn : (d at : ℕ) → d < 17 → (at ≡ 0 → ⊥) → d + 1 + climbs tree (17 - (d + 1)) (parent_of tree at) ≡ d + climbs tree (17 - d) at
  climb_turn d at l h =
      let more : 17 - d ≡ suc (17 - (d + 1)) = omega arith in
      rw more (omega (arith, climbs_up (17 - (d + 1)) at h))

  pub climb_stop : (d at rank : ℕ) → at ≡ 0 → d + climbs tree (17 - d) at ≡ climbs tree 17 rank → d ≡ depth_of tree rank
  unfolding depth_of
  climb_stop d at rank e inv = omega (arith, rw (e, climbs_top (17 - d)) at inv)

  pub climb_end : (d at rank : ℕ) → d ≡ 17 → d + climbs tree (17 - d) at ≡ climbs tree 17 rank → 17 ≡ depth_of tree rank
  unfolding depth_of
  climb_end d at rank e inv =
      let none : 17 - d ≡ 0 = omega arith in
      omega (arith, rw (none, climbs-none at) at inv)

  pub depth_top : depth_of tree 0 ≡ 0
  unfolding depth_of
  depth_top = climbs_top 17

  -- a rank is one deeper than its parent, if that is not too deep
  pub depth_next : (r : ℕ) → (r ≡ 0 → ⊥) → depth_of tree (parent_of tree r) ≤ 16 → depth_of tree r ≡ depth_of tree (parent_of tree r) + 1
  unfolding depth_of
  depth_next r low h = omega (arith, climbs_up 16 r low, climbs_fewer 16 (parent_of tree r) h)

  -- ---- the computed test is the paper's sentence

  pub good_whole : tree_good tree ≡ true → whole_tree tree ≡ true
  unfolding tree_good
  good_whole g = left (whole_tree tree) (eqb (parent_of tree 0) no_parent && all_below (ranks_in tree) (λ r. leb (depth_of tree r) 16)) g

  good_rest : tree_good tree ≡ true → (eqb (parent_of tree 0) no_parent && all_below (ranks_in tree) (λ r. leb (depth_of tree r) 16)) ≡ true
  unfolding tree_good
  good_rest g = right (whole_tree tree) (eqb (parent_of tree 0) no_parent && all_below (ranks_in tree) (λ r. leb (depth_of tree r) 16)) g

  pub good_root : tree_good tree ≡ true → parent_of tree 0 ≡ no_parent
  good_root g = eqb-true (parent_of tree 0) no_parent (left (eqb (parent_of tree 0) no_parent) (all_below (ranks_in tree) (λ r. leb (depth_of tree r) 16)) (good_rest g))

  pub good_depth : tree_good tree ≡ true → (r : ℕ) → r < ranks_in tree → depth_of tree r ≤ 16
  good_depth g r h =
      leb-true (depth_of tree r) 16
      (all_at (λ r. leb (depth_of tree r) 16) (ranks_in tree) r h
      (right (eqb (parent_of tree 0) no_parent) (all_below (ranks_in tree) (λ r. leb (depth_of tree r) 16)) (good_rest g)))

  -- a rank other than 0 has its parent in the tree, and is one deeper
  module _ (g : tree_good tree ≡ true) (r : ℕ) (h : r < ranks_in tree) (low : (r ≡ 0 → ⊥)) where
    climbed : suc (climbs tree 16 (parent_of tree r)) ≤ 16
    unfolding depth_of
    climbed = rw (climbs_up 16 r low) at (good_depth g r h)

    pub parent_in : parent_of tree r < ranks_in tree
    parent_in =
        ⊎_elim
        (λ t. ltb-true (parent_of tree r) (ranks_in tree) t)
        (λ t. absurd (omega (arith, climbed, climbs_outside (good_whole g) 16 (parent_of tree r) (ltb-false (parent_of tree r) (ranks_in tree) t))))
        (outcome (ltb (parent_of tree r) (ranks_in tree)))

    pub depth_below : depth_of tree r ≡ depth_of tree (parent_of tree r) + 1
    unfolding depth_of
    depth_below = omega (arith, climbs_up 16 r low, climbs_enough 16 (parent_of tree r) climbed)

  -- a tree that passes the test is accepted by the paper's sentence, with the computed depths
  pub accepted_of : tree_good tree ≡ true → Accepted tree
  accepted_of g =
      record {
        whole = good_whole g;
        root = good_root g;
        depths = depth_of tree;
        given = record { top = depth_top; inside = parent_in g; below = depth_below g; most = good_depth g };
      }

  -- depths that can be given are the computed ones: there are no others
  module _ (d : ℕ → ℕ) (given : Depths tree d) where
    climbs_are : (most r : ℕ) → r < ranks_in tree → d r ≤ most → climbs tree (suc most) r ≡ d r
    climbs_are zero r h l =
        ⊎_elim
        (λ t. rw (eqb-true r 0 t, given.top) (climbs_top 1))
        (λ t. absurd (omega (arith, given.below r h (eqb-false r 0 t))))
        (outcome (eqb r 0))
    climbs_are (suc most) r h l =
        ⊎_elim
        (λ t. rw (eqb-true r 0 t, given.top) (climbs_top (suc (suc most))))
        (λ t.
        let deeper = given.below r h (eqb-false r 0 t) in
        climbs_up (suc most) r (eqb-false r 0 t)
        ∙ ap suc (climbs_are most (parent_of tree r) (given.inside r h (eqb-false r 0 t)) (omega arith)) ∙ omega arith)
        (outcome (eqb r 0))

    pub depths_are : (r : ℕ) → r < ranks_in tree → d r ≡ depth_of tree r
    unfolding depth_of
    depths_are r h = sym (climbs_are 16 r h (given.most r h))

  -- a tree that the paper's sentence accepts passes the test
  pub good_of : Accepted tree → tree_good tree ≡ true
  unfolding tree_good
  good_of a =
      both a.whole
      (both (eq-eqb _ _ a.root)
      (all_of (λ r. leb (depth_of tree r) 16) (ranks_in tree) (λ r h. le-leb (depth_of tree r) 16 (rw (← depths_are a.depths a.given r h) (a.given.most r h)))))
