-- Laws on the tree's depth, on chains of parents as lists, and on the parts of such lists.
use mathlib.Core.Path.{◌≡◌, refl, sym, ap, ◌∙◌}
use mathlib.Core.Bool.{Bool, true, false, or-true}
use mathlib.Core.List.{List, [], ◌∷◌, ◌++◌, reverse, reverse-append}
use mathlib.Core.Logic.{⊎_elim}
use Prim.Native.Nat.{ℕ, zero, suc, ◌-◌, ◌<◌, ◌≤◌}
use native.Mathlib.Omega.{arith}
use native.Mathlib.Nat.{le_of_suc-le-suc, eq-or-lt_of_le}
use borrow.Author.Tests.{eqb-true, eq-eqb, ne_eqb}
use lib.Dec.{eqb}
use lib.ListN.{length, get_or}
use Rattle.bytes_number.proofs.Truth.{true_false, outcome}
use Rattle.frame_message.specs.Reading.{final}
use Rattle.frame_message.proofs.Lists.{Each, final_snoc}
use Rattle.table_tree.specs.Tree.{ranks_in, parent_of}
use Rattle.table_tree.specs.Depths.{depth_of, tree_good}
use Rattle.table_tree.proofs.Depths.{depth_top, good_depth, parent_in, depth_below}
use Rattle.table_tree_hops.specs.Towards.{above}
use Rattle.table_tree_hops.proofs.Paths.{Aside, Meeting, above-none, above_depth}
use Rattle.walk_path.specs.Path.{climbed, chain, up_to, below, is_in, common_ancestor, rank_path, deepest, tree_depth}

-- ---- the tree's depth

-- a rank of some depth is not rank 0
pub not_top : (tree : List ℕ) (r : ℕ) → 1 ≤ depth_of tree r → r ≡ 0 → ⊥
not_top tree r h e = omega (arith, rw (e, depth_top tree) at h)

module _ (tree : List ℕ) where
  deepest_at : (n r : ℕ) → r < n → depth_of tree r ≤ deepest tree n
  unfolding deepest
  deepest_at zero r h = absurd (omega arith)
  deepest_at (suc n) r h = ⊎_elim (λ e. rw e (omega arith)) (λ l. omega (arith, deepest_at n r l)) (eq-or-lt_of_le (le_of_suc-le-suc h))

  deepest_most : (n most : ℕ) → ((r : ℕ) → r < n → depth_of tree r ≤ most) → deepest tree n ≤ most
  unfolding deepest
  deepest_most zero most h = omega arith
  deepest_most (suc n) most h = omega (arith, h n (omega arith), deepest_most n most (λ r l. h r (omega arith)))

  -- no rank is deeper than the tree
  pub depth_at_most : (r : ℕ) → r < ranks_in tree → depth_of tree r ≤ tree_depth tree
  unfolding tree_depth
  depth_at_most r h = deepest_at (ranks_in tree) r h

  -- and it is no deeper than it must be: what bounds every rank's depth bounds the tree's
  pub tree_depth_least : (most : ℕ) → ((r : ℕ) → r < ranks_in tree → depth_of tree r ≤ most) → tree_depth tree ≤ most
  unfolding tree_depth
  tree_depth_least most h = deepest_most (ranks_in tree) most h

  -- "none is above 16"
  pub tree_depth_most : tree_good tree ≡ true → tree_depth tree ≤ 16
  tree_depth_most g = tree_depth_least 16 (good_depth tree g)

-- ---- the last of a list

pub final_next : (r s : ℕ) (rs : List ℕ) → final 0 (r ∷ s ∷ rs) ≡ final 0 (s ∷ rs)
final_next r s rs =
    let more : suc (suc (length rs)) - 1 ≡ suc (suc (length rs) - 1) = omega arith in
    ap (λ (k : ℕ). get_or (r ∷ s ∷ rs) k 0) more

final-append : (rs : List ℕ) (r : ℕ) (ss : List ℕ) → final 0 (rs ++ (r ∷ ss)) ≡ final 0 (r ∷ ss)
final-append [] r ss = refl
final-append (q ∷ []) r ss = final_next q r ss
final-append (q ∷ p ∷ rs) r ss = final_next q p (rs ++ (r ∷ ss)) ∙ final-append (p ∷ rs) r ss

-- ---- a search

-- a list searched by tests that agree as far as the search goes
pub same_search : (p q : ℕ → Bool) (rs : List ℕ) → Each (λ r. p r ≡ q r) (up_to p rs) → up_to q rs ≡ up_to p rs
unfolding up_to
same_search p q [] e = refl
same_search p q (r ∷ rs) e =
    ⊎_elim
    (λ (t : p r ≡ true). let each : Each (λ s. p s ≡ q s) (r ∷ []) = rw t at e in rw (t, sym each.0 ∙ t) refl)
    (λ (f : p r ≡ false).
    let each : Each (λ s. p s ≡ q s) (r ∷ up_to p rs) = rw f at e in
    rw (f, sym each.0 ∙ f) (ap (λ (l : List ℕ). r ∷ l) (same_search p q rs each.1)))
    (outcome (p r))

-- what is behind a rank ends as it does with that rank in front
final_behind : (s : ℕ) (rs : List ℕ) (r : ℕ) → is_in r rs ≡ true → final 0 (s ∷ rs) ≡ final 0 rs
unfolding is_in
final_behind s [] r e = absurd (true_false (sym e))
final_behind s (q ∷ rs) r e = final_next s q rs

only_one : (r s : ℕ) → is_in r (s ∷ []) ≡ true → s ≡ r
unfolding is_in
only_one r s e =
    ⊎_elim (λ t. eqb-true s r t) (λ (f : eqb s r ≡ false). let no : false ≡ true = rw f at e in absurd (true_false (sym no))) (outcome (eqb s r))

-- a search ends at what passes its test: whoever is on the way and passes is the last
pub search_ends : (p : ℕ → Bool) (rs : List ℕ) (r : ℕ) → is_in r (up_to p rs) ≡ true → p r ≡ true → final 0 (up_to p rs) ≡ r
unfolding up_to is_in
search_ends p [] r e t = absurd (true_false (sym e))
search_ends p (s ∷ rs) r e t =
    ⊎_elim
    (λ (found : p s ≡ true). let one : is_in r (s ∷ []) ≡ true = rw found at e in rw found (only_one r s one))
    (λ (on : p s ≡ false).
    let more : is_in r (s ∷ up_to p rs) ≡ true = rw on at e in
    let apart : s ≡ r → ⊥ = λ q. true_false (sym t ∙ sym (ap p q) ∙ on) in
    let rest : is_in r (up_to p rs) ≡ true = rw (ne_eqb s r apart) at more in
    rw on (final_behind s (up_to p rs) r rest ∙ search_ends p rs r rest t))
    (outcome (p s))

-- ---- the two ways along a chain

-- the k ranks on the way up from r, itself first, in front of the one that is k parents above it
unfoldable pub rise : List ℕ → ℕ → ℕ → List ℕ
rise tree zero r = []
rise tree (suc k) r = r ∷ rise tree k (parent_of tree r)

-- the k ranks on the way down to r, behind the one that is k parents above it
unfoldable pub fall : List ℕ → ℕ → ℕ → List ℕ
fall tree zero r = []
fall tree (suc k) r = above tree k r ∷ fall tree k r

-- a way up, where it turns, and a way down
joined : {up up' down down' : List ℕ} {top top' : ℕ} → up ≡ up' → top ≡ top' → down ≡ down' → up ++ (top ∷ down) ≡ up' ++ (top' ∷ down')
joined p q r = λ i. p i ++ (q i ∷ r i)

module _ (tree : List ℕ) where
  rise_last : (k r : ℕ) → rise tree (suc k) r ≡ rise tree k r ++ (above tree k r ∷ [])
  unfolding rise above
  rise_last zero r = refl
  rise_last (suc k) r = ap (λ (rs : List ℕ). r ∷ rs) (rise_last k (parent_of tree r))

  pub length_rise : (k r : ℕ) → length (rise tree k r) ≡ k
  unfolding rise
  length_rise zero r = refl
  length_rise (suc k) r = ap suc (length_rise k (parent_of tree r))

  pub length_fall : (k r : ℕ) → length (fall tree k r) ≡ k
  unfolding fall
  length_fall zero r = refl
  length_fall (suc k) r = ap suc (length_fall k r)

  -- the way down ends at r
  pub final_fall : (k r : ℕ) → final 0 (above tree k r ∷ fall tree k r) ≡ r
  unfolding fall
  final_fall zero r = above-none tree r
  final_fall (suc k) r = final_next (above tree (suc k) r) (above tree k r) (fall tree k r) ∙ final_fall k r

  -- the one is the other backwards
  pub reverse_rise : (k r : ℕ) → reverse (rise tree k r) ≡ fall tree k r
  unfolding fall
  reverse_rise zero r = unfold rise in refl
  reverse_rise (suc k) r =
      ap reverse (rise_last k r) ∙ reverse-append (rise tree k r) (above tree k r ∷ []) ∙ ap (λ (rs : List ℕ). above tree k r ∷ rs) (reverse_rise k r)

  -- ---- a rank and the so many parents above it

  -- up to the first that passes
  up_to_first : (p : ℕ → Bool) (n k r : ℕ) → k ≤ n → ((i : ℕ) → i < k → p (above tree i r) ≡ false) → p (above tree k r) ≡ true → up_to p (climbed tree n r) ≡ rise tree k r ++ (above tree k r ∷ [])
  unfolding climbed above up_to rise
  up_to_first p zero zero r h f t = rw t refl
  up_to_first p zero (suc k) r h f t = absurd (omega arith)
  up_to_first p (suc n) zero r h f t = rw t refl
  up_to_first p (suc n) (suc k) r h f t =
      rw (f 0 (omega arith))
      (ap (λ (rs : List ℕ). r ∷ rs) (up_to_first p n k (parent_of tree r) (le_of_suc-le-suc h) (λ i l. f (suc i) (omega arith)) t))

  -- in front of the first that is the rank s
  below-first : (n k r s : ℕ) → k ≤ n → ((i : ℕ) → i < k → above tree i r ≡ s → ⊥) → above tree k r ≡ s → below s (climbed tree n r) ≡ rise tree k r
  unfolding climbed above below rise
  below-first zero zero r s h f e = rw (eq-eqb r s e) refl
  below-first zero (suc k) r s h f e = absurd (omega arith)
  below-first (suc n) zero r s h f e = rw (eq-eqb r s e) refl
  below-first (suc n) (suc k) r s h f e =
      rw (ne_eqb r s (f 0 (omega arith)))
      (ap (λ (rs : List ℕ). r ∷ rs) (below-first n k (parent_of tree r) s (le_of_suc-le-suc h) (λ i l. f (suc i) (omega arith)) e))

  in_climbed : (n k r s : ℕ) → k ≤ n → above tree k r ≡ s → is_in s (climbed tree n r) ≡ true
  unfolding climbed above is_in
  in_climbed zero zero r s h e = rw (eq-eqb r s e) refl
  in_climbed zero (suc k) r s h e = absurd (omega arith)
  in_climbed (suc n) zero r s h e = rw (eq-eqb r s e) refl
  in_climbed (suc n) (suc k) r s h e = rw (in_climbed n k (parent_of tree r) s (le_of_suc-le-suc h) e) (or-true (eqb r s))

  not_in_climbed : (n r s : ℕ) → ((k : ℕ) → k ≤ n → above tree k r ≡ s → ⊥) → is_in s (climbed tree n r) ≡ false
  unfolding climbed above is_in
  not_in_climbed zero r s f = rw (ne_eqb r s (f 0 (omega arith))) refl
  not_in_climbed (suc n) r s f = rw (ne_eqb r s (f 0 (omega arith))) (not_in_climbed n (parent_of tree r) s (λ k l. f (suc k) (omega arith)))

  -- ---- the chain of a rank

  -- what is in it, and what is not
  pub in_chain : (k r s : ℕ) → k ≤ depth_of tree r → above tree k r ≡ s → is_in s (chain tree r) ≡ true
  unfolding chain
  in_chain k r s h e = in_climbed (depth_of tree r) k r s h e

  pub not_in_chain : (r s : ℕ) → Aside tree r s → is_in s (chain tree r) ≡ false
  unfolding chain
  not_in_chain r s f = not_in_climbed (depth_of tree r) r s f

  pub up_to_chain : (p : ℕ → Bool) (k r : ℕ) → k ≤ depth_of tree r → ((i : ℕ) → i < k → p (above tree i r) ≡ false) → p (above tree k r) ≡ true → up_to p (chain tree r) ≡ rise tree k r ++ (above tree k r ∷ [])
  unfolding chain
  up_to_chain p k r h f t = up_to_first p (depth_of tree r) k r h f t

  -- ---- in a tree that is right

  module _ (g : tree_good tree ≡ true) where
    climbed_in : (n r : ℕ) → r < ranks_in tree → n ≤ depth_of tree r → Each (λ s. s < ranks_in tree) (climbed tree n r)
    unfolding climbed
    climbed_in zero r h l = (h, tt)
    climbed_in (suc n) r h l =
        let apart = not_top tree r (omega arith) in
        (h, climbed_in n (parent_of tree r) (parent_in tree g r h apart) (omega (arith, depth_below tree g r h apart)))

    -- the ranks in front of the one that is k parents above
    pub below_chain : (k r s : ℕ) → r < ranks_in tree → k ≤ depth_of tree r → above tree k r ≡ s → below s (chain tree r) ≡ rise tree k r
    unfolding chain
    below_chain k r s h l e = below-first (depth_of tree r) k r s l early e
      where
        early : (i : ℕ) → i < k → above tree i r ≡ s → ⊥
        early i m q = omega (arith, above_depth tree g k r h l, rw (q ∙ sym e) at (above_depth tree g i r h (omega arith)))

    -- ---- "up to the lowest common ancestor and down to the target"

    module _ (from target : ℕ) (hf : from < ranks_in tree) (ht : target < ranks_in tree) (m : Meeting tree from target) where
      -- it is where the two chains meet first
      pub common_is : common_ancestor tree from target ≡ above tree m.up from
      unfolding common_ancestor
      common_is =
          ap (final 0)
          (up_to_chain (λ r. is_in r (chain tree target)) m.up from m.up_most
          (λ i l. not_in_chain target (above tree i from) (m.first i l))
          (in_chain m.down target (above tree m.up from) m.down_most (sym m.there)))
          ∙ final_snoc 0 (rise tree m.up from) (above tree m.up from)

      pub rank_path_is : rank_path tree from target ≡ rise tree m.up from ++ (above tree m.up from ∷ fall tree m.down target)
      unfolding rank_path
      rank_path_is =
          let top = common_ancestor tree from target in
          joined (below_chain m.up from top hf m.up_most (sym common_is)) common_is
          (ap reverse (below_chain m.down target top ht m.down_most (sym (common_is ∙ m.there))) ∙ reverse_rise m.down target)
