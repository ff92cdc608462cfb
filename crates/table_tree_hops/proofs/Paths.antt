-- Laws on chains of parents and on the way from one rank to another, in a tree that is right: the next broker is a neighbour (`next_neighbour`), the
-- way goes up to the first rank that is above the target (`hops_up`) and from there down the target's chain (`hops_down`), and it reaches the target
-- (`hops_reach`).
use mathlib.Core.Path.{◌≡◌, refl, sym, ap, ◌∙◌}
use mathlib.Core.Bool.{true, false}
use mathlib.Core.List.{List}
use mathlib.Core.Logic.{◌⊎◌, inl, inr, ⊎_elim}
use Prim.Native.Nat.{ℕ, zero, suc, ◌+◌, ◌-◌, ◌<◌, ◌≤◌}
use native.Mathlib.Omega.{arith}
use borrow.Author.Tests.{eqb-true, eqb-false, ne_eqb, ltb-true, ltb-false}
use lib.Dec.{eqb, ltb}
use Rattle.bytes_number.proofs.Truth.{outcome}
use Rattle.table_tree.specs.Tree.{ranks_in, parent_of}
use Rattle.table_tree.specs.Depths.{depth_of, tree_good}
use Rattle.table_tree_hops.specs.Towards.{is_neighbour, hop, towards, above, after_hops}
use Rattle.table_tree.proofs.Depths.{depth_top, good_root, parent_in, depth_below}
use Rattle.table_tree_hops.proofs.Towards.{hop_up, hop_child, hop_suc, towards_is, parent_neighbour, child_neighbour, other_neighbour}

module _ (tree : List ℕ) where
  pub above-none : (r : ℕ) → above tree 0 r ≡ r
  unfolding above
  above-none r = refl

  -- the chain from its other end
  pub above_last : (k r : ℕ) → above tree (suc k) r ≡ parent_of tree (above tree k r)
  unfolding above
  above_last zero r = refl
  above_last (suc k) r = above_last k (parent_of tree r)

  pub hops_none : (from target : ℕ) → after_hops tree 0 from target ≡ from
  unfolding after_hops
  hops_none from target = refl

  pub hops_more : (k from target : ℕ) → after_hops tree (suc k) from target ≡ after_hops tree k (towards tree from target) target
  unfolding after_hops
  hops_more k from target = refl

  pub hops_add : (j k from target : ℕ) → after_hops tree (j + k) from target ≡ after_hops tree k (after_hops tree j from target) target
  unfolding after_hops
  hops_add zero k from target = ap (λ (n : ℕ). after_hops tree n from target) (zero_sum k)
    where
      zero_sum : (k : ℕ) → 0 + k ≡ k
      zero_sum k = omega arith
  hops_add (suc j) k from target = ap (λ (n : ℕ). after_hops tree n from target) (suc_sum j k) ∙ hops_add j k (towards tree from target) target
    where
      suc_sum : (j k : ℕ) → suc j + k ≡ suc (j + k)
      suc_sum j k = omega arith

  -- whether r is the target or one of its first `depth` parents
  seek : (depth target r : ℕ) → ((k : ℕ) × (k ≤ depth) × (above tree k target ≡ r)) ⊎ ((k : ℕ) → k ≤ depth → above tree k target ≡ r → ⊥)
  unfolding above
  seek zero target r = ⊎_elim (λ t. inl (0, omega arith, eqb-true target r t)) (λ f. inr (none f)) (outcome (eqb target r))
    where
      none : eqb target r ≡ false → (k : ℕ) → k ≤ 0 → above tree k target ≡ r → ⊥
      none f zero l e = eqb-false target r f e
      none f (suc k) l e = omega arith
  seek (suc depth) target r =
      ⊎_elim
      (λ t. inl (0, omega arith, eqb-true target r t))
      (λ f. ⊎_elim (λ s. inl (suc s.0, omega (arith, s.1), s.2)) (λ n. inr (none f n)) (seek depth (parent_of tree target) r))
      (outcome (eqb target r))
    where
      none : eqb target r ≡ false → ((k : ℕ) → k ≤ depth → above tree k (parent_of tree target) ≡ r → ⊥) → (k : ℕ) → k ≤ suc depth → above tree k target ≡ r → ⊥
      none f n zero l e = eqb-false target r f e
      none f n (suc k) l e = n k (omega arith) e

-- r is neither the target nor above it
abbrev pub Aside : List ℕ → ℕ → ℕ → Type 0
Aside tree target r = (k : ℕ) → k ≤ depth_of tree target → above tree k target ≡ r → ⊥

-- where the two chains of parents meet first: the lowest common ancestor is so many parents above the one and so many above the other
pub record Meeting (tree : List ℕ) (from target : ℕ) : Type 0 where
  pub up : ℕ
  pub down : ℕ
  pub up_most : up ≤ depth_of tree from
  pub down_most : down ≤ depth_of tree target
  pub there : above tree up from ≡ above tree down target
  pub first : (i : ℕ) → i < up → Aside tree target (above tree i from)

module _ (tree : List ℕ) (g : tree_good tree ≡ true) where
  -- ---- chains of parents

  low : (r : ℕ) → 1 ≤ depth_of tree r → r ≡ 0 → ⊥
  low r h e = omega (arith, rw (e, depth_top tree) at h)

  -- only rank 0 has depth 0
  pub depth_none : (r : ℕ) → r < ranks_in tree → depth_of tree r ≡ 0 → r ≡ 0
  depth_none r h e = ⊎_elim (λ t. eqb-true r 0 t) (λ f. absurd (omega (arith, depth_below tree g r h (eqb-false r 0 f)))) (outcome (eqb r 0))

  -- no rank is its own parent, and so none is its own neighbour
  own_parent : (r : ℕ) → r < ranks_in tree → parent_of tree r ≡ r → ⊥
  own_parent r h e =
      ⊎_elim
      (λ t.
      let top : r ≡ 0 = eqb-true r 0 t in
      omega (arith, rw top at e, good_root tree g))
      (λ f. omega (arith, ap (depth_of tree) e, depth_below tree g r h (eqb-false r 0 f)))
      (outcome (eqb r 0))

  pub not_itself : (r : ℕ) → r < ranks_in tree → is_neighbour tree r r ≡ false
  not_itself r h = other_neighbour tree r r h h (own_parent r h) ∙ ne_eqb (parent_of tree r) r (own_parent r h)

  pub above_in : (k r : ℕ) → r < ranks_in tree → k ≤ depth_of tree r → above tree k r < ranks_in tree
  unfolding above
  above_in zero r h l = h
  above_in (suc k) r h l =
      let down = low r (omega arith) in
      above_in k (parent_of tree r) (parent_in tree g r h down) (omega (arith, depth_below tree g r h down))

  pub above_depth : (k r : ℕ) → r < ranks_in tree → k ≤ depth_of tree r → depth_of tree (above tree k r) + k ≡ depth_of tree r
  unfolding above
  above_depth zero r h l = omega arith
  above_depth (suc k) r h l =
      let down = low r (omega arith) in
      let deeper = depth_below tree g r h down in
      omega (arith, above_depth k (parent_of tree r) (parent_in tree g r h down) (omega arith))

  -- every chain ends at rank 0
  pub above_top : (r : ℕ) → r < ranks_in tree → above tree (depth_of tree r) r ≡ 0
  above_top r h =
      depth_none (above tree (depth_of tree r) r) (above_in (depth_of tree r) r h (omega arith)) (omega (arith, above_depth (depth_of tree r) r h (omega arith)))

  -- ---- one hop

  hop_down : (k depth from target : ℕ) → target < ranks_in tree → suc k ≤ depth → depth ≤ depth_of tree target → above tree (suc k) target ≡ from → hop tree depth from target ≡ above tree k target
  unfolding above
  hop_down zero depth from target h l m e = hop_child tree from target depth (λ z. absurd (omega arith)) e
  hop_down (suc k) zero from target h l m e = absurd (omega arith)
  hop_down (suc k) (suc depth) from target h l m e =
      let down = low target (omega arith) in
      let deeper = depth_below tree g target h down in
      let inside = parent_in tree g target h down in
      let far = above_depth (suc k) (parent_of tree target) inside (omega arith) in
      hop_suc tree from target depth (λ q. absurd (omega (arith, rw (e ∙ sym q) at far)))
      ∙ hop_down k depth from (parent_of tree target) inside (omega arith) (omega arith) e

  hop_past : (depth from target : ℕ) → ((k : ℕ) → k < depth → above tree (suc k) target ≡ from → ⊥) → hop tree depth from target ≡ parent_of tree from
  unfolding above
  hop_past zero from target n = hop_up tree from target 0 refl
  hop_past (suc depth) from target n =
      hop_suc tree from target depth (n 0 (omega arith)) ∙ hop_past depth from (parent_of tree target) (λ k l. n (suc k) (omega arith))

  -- "if `from` is a proper ancestor of the target, the child of `from` on the way to it"
  pub towards_down : (k target : ℕ) → target < ranks_in tree → k < depth_of tree target → towards tree (above tree (suc k) target) target ≡ above tree k target
  towards_down k target h l =
      towards_is tree (above tree (suc k) target) target
      ∙ hop_down k (depth_of tree target) (above tree (suc k) target) target h l (omega arith) refl

  -- "else the parent of `from`"
  pub towards_up : (from target : ℕ) → ((k : ℕ) → k < depth_of tree target → above tree (suc k) target ≡ from → ⊥) → towards tree from target ≡ parent_of tree from
  towards_up from target n = towards_is tree from target ∙ hop_past (depth_of tree target) from target n

  -- ---- the way

  -- rank 0 is above all
  aside_low : (target r : ℕ) → target < ranks_in tree → Aside tree target r → r ≡ 0 → ⊥
  aside_low target r h n e = n (depth_of tree target) (omega arith) (above_top target h ∙ sym e)

  -- up, as long as one is neither at the target nor above it
  pub hops_up : (j from target : ℕ) → ((i : ℕ) → i < j → Aside tree target (above tree i from)) → after_hops tree j from target ≡ above tree j from
  unfolding above after_hops
  hops_up zero from target n = refl
  hops_up (suc j) from target n =
      ap (λ (r : ℕ). after_hops tree j r target) (towards_up from target (λ k l e. n 0 (omega arith) (suc k) l e))
      ∙ hops_up j (parent_of tree from) target (λ i l. n (suc i) (omega arith))

  -- and from above the target down its chain
  pub hops_down : (i m target : ℕ) → target < ranks_in tree → i ≤ m → m ≤ depth_of tree target → after_hops tree i (above tree m target) target ≡ above tree (m - i) target
  hops_down zero m target h l d = hops_none tree (above tree m target) target ∙ ap (λ (k : ℕ). above tree k target) (omega arith)
  hops_down (suc i) zero target h l d = absurd (omega arith)
  hops_down (suc i) (suc m) target h l d =
      hops_more tree i (above tree (suc m) target) target
      ∙ ap (λ (r : ℕ). after_hops tree i r target) (towards_down m target h d)
      ∙ hops_down i m target h (omega arith) (omega arith)
      ∙ ap (λ (k : ℕ). above tree k target) (omega arith)

  meet_here : (from target k : ℕ) → k ≤ depth_of tree target → above tree k target ≡ from → Meeting tree from target
  meet_here from target k l e =
      record { up = 0; down = k; up_most = omega arith; down_most = l; there = above-none tree from ∙ sym e; first = λ i z. absurd (omega arith) }

  meet_on : (from target : ℕ) → from < ranks_in tree → (from ≡ 0 → ⊥) → Aside tree target from → Meeting tree (parent_of tree from) target → Meeting tree from target
  unfolding above
  meet_on from target h z n m =
      record {
        up = suc m.up;
        down = m.down;
        up_most = omega (arith, m.up_most, depth_below tree g from h z);
        down_most = m.down_most;
        there = m.there;
        first = early;
      }
    where
      early : (i : ℕ) → i < suc m.up → Aside tree target (above tree i from)
      early zero l = n
      early (suc i) l = m.first i (omega arith)

  meet_within : (d from target : ℕ) → from < ranks_in tree → target < ranks_in tree → depth_of tree from ≤ d → Meeting tree from target
  meet_within zero from target hf ht l =
      ⊎_elim
      (λ s. meet_here from target s.0 s.1 s.2)
      (λ n. absurd (omega (arith, depth_below tree g from hf (aside_low target from ht n))))
      (seek tree (depth_of tree target) target from)
  meet_within (suc d) from target hf ht l =
      ⊎_elim
      (λ s. meet_here from target s.0 s.1 s.2)
      (λ n.
      let z = aside_low target from ht n in
      meet_on from target hf z n (meet_within d (parent_of tree from) target (parent_in tree g from hf z) ht (omega (arith, depth_below tree g from hf z))))
      (seek tree (depth_of tree target) target from)

  pub meet : (from target : ℕ) → from < ranks_in tree → target < ranks_in tree → Meeting tree from target
  meet from target hf ht = meet_within (depth_of tree from) from target hf ht (omega arith)

  -- going on reaches the target, over the lowest common ancestor
  pub hops_reach : (from target : ℕ) → target < ranks_in tree → (m : Meeting tree from target) → after_hops tree (m.up + m.down) from target ≡ target
  hops_reach from target ht m =
      hops_add tree m.up m.down from target
      ∙ ap (λ (r : ℕ). after_hops tree m.down r target) (hops_up m.up from target m.first ∙ m.there)
      ∙ hops_down m.down m.down target ht (omega arith) m.down_most
      ∙ ap (λ (k : ℕ). above tree k target) (omega arith) ∙ above-none tree target

  -- the next broker is a neighbour, and in the tree
  pub next_neighbour : (from target : ℕ) → from < ranks_in tree → target < ranks_in tree → (from ≡ target → ⊥) → (is_neighbour tree from (towards tree from target) ≡ true) × (towards tree from target < ranks_in tree)
  next_neighbour from target hf ht n = ⊎_elim (λ s. under s.0 s.1 s.2) (λ a. over a) (seek tree (depth_of tree target) target from)
    where
      under : (k : ℕ) → k ≤ depth_of tree target → above tree k target ≡ from → (is_neighbour tree from (towards tree from target) ≡ true) × (towards tree from target < ranks_in tree)
      under zero l e = absurd (n (sym e ∙ above-none tree target))
      under (suc k) l e =
          let next : towards tree from target ≡ above tree k target = rw (← e) (towards_down k target ht l) in
          let inside = above_in k target ht (omega arith) in
          rw next (child_neighbour tree from (above tree k target) hf inside (sym (above_last tree k target) ∙ e), inside)

      over : Aside tree target from → (is_neighbour tree from (towards tree from target) ≡ true) × (towards tree from target < ranks_in tree)
      over a =
          let inside = parent_in tree g from hf (aside_low target from ht a) in
          rw (towards_up from target (λ k l e. a (suc k) l e)) (parent_neighbour tree from (parent_of tree from) hf inside refl, inside)

  -- and no sooner: on the way up no broker is the target, and on the way down each is above it
  pub hops_not_before : (from target : ℕ) → target < ranks_in tree → (m : Meeting tree from target) → (k : ℕ) → k < m.up + m.down → after_hops tree k from target ≡ target → ⊥
  hops_not_before from target ht m k h e = ⊎_elim rising falling (outcome (ltb k m.up))
    where
      rising : ltb k m.up ≡ true → ⊥
      rising t =
          let l = ltb-true k m.up t in
          let here = hops_up k from target (λ i j. m.first i (omega arith)) in
          m.first k l 0 (omega arith) (above-none tree target ∙ sym e ∙ here)

      falling : ltb k m.up ≡ false → ⊥
      falling f =
          let l = ltb-false k m.up f in
          let j = k - m.up in
          let sum : m.up + j ≡ k = omega arith in
          let here : after_hops tree k from target ≡ above tree (m.down - j) target =
          ap (λ (i : ℕ). after_hops tree i from target) (sym sum) ∙ hops_add tree m.up j from target
          ∙ ap (λ (r : ℕ). after_hops tree j r target) (hops_up m.up from target m.first ∙ m.there)
          ∙ hops_down j m.down target ht (omega arith) m.down_most in
          let deep = above_depth (m.down - j) target ht (omega (arith, m.down_most)) in
          omega (arith, rw (sym here ∙ e) at deep)
