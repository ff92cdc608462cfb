-- The brokers of a path follow it: each by its own step sends the request to the next one, and the last ends it as the path does (`followed`).
use Rattle.std.specs.Prelude.{Option, None, Some}
use mathlib.Core.Path.{◌≡◌, refl, sym, ap, ◌∙◌}
use mathlib.Core.Bool.{Bool, true, false, cond}
use mathlib.Core.List.{List, [], ◌∷◌, ◌++◌}
use mathlib.Core.Logic.{◌⊎◌, inl, inr, ⊎_elim}
use Prim.Native.Nat.{ℕ, zero, suc, ◌+◌, ◌*◌, ◌<◌, ◌≤◌}
use native.Mathlib.Omega.{arith}
use borrow.Author.Tests.{eqb-true, eqb-false, ltb-true, ltb-false, eq-eqb, ne_eqb, lt-ltb, le-ltb}
use lib.Dec.{eqb, ltb}
use lib.ListN.{length}
use Rattle.bytes_number.proofs.Truth.{outcome}
use Rattle.frame_message.specs.declared.Header.{Header}
use Rattle.frame_message.specs.Header.{is_upstream}
use Rattle.frame_message.specs.Reading.{final}
use Rattle.frame_message.proofs.Lists.{Each}
use Rattle.table_tree.specs.Tree.{ranks_in, parent_of}
use Rattle.table_tree.specs.Depths.{depth_of, tree_good}
use Rattle.table_tree.proofs.Depths.{parent_in, depth_below}
use Rattle.table_tree_hops.specs.Towards.{is_neighbour, towards, above}
use Rattle.table_tree_hops.proofs.Towards.{parent_neighbour, child_neighbour}
use Rattle.table_tree_hops.proofs.Paths.{Aside, meet, depth_none, above_last, above_in, above_depth, towards_down, towards_up}
use Rattle.step_routing.specs.declared.Way.{Way}
use Rattle.step_routing.specs.declared.Way.TheVariants.{Forward, Fail}
use Rattle.step_routing.specs.Requests.{deliver_or, to_parent, upwards, skips, request_way}
use Rattle.step_routing.proofs.Ways.{parent_none, parent_some, rank_outside, rank_reached, rank_ahead, way_any, way_upstream, way_rank}
use Rattle.walk_path.specs.Path.{End, delivers, fails, climbed, chain, up_to, record_of, served_at, is_found, up_path, rank_path, end_at, ending, stopping, path_of, tree_depth}
use Rattle.walk_path.specs.WorkingLeading.{way_of, Leads, Linked, Follows, Followed, IsFollowed}
use Rattle.walk_path.proofs.Chains.{not_top, final_next, rise, fall, rank_path_is, depth_at_most}

-- ---- the path by its cases

module _ (tree services : List ℕ) (entry : ℕ) (h : Header) (topic : List ℕ) where
  pub path_any : h.first ≡ 4294967295 → path_of tree services entry h topic ≡ ending (record_of services topic) (up_path tree (record_of services topic) entry)
  unfolding path_of
  path_any e = rw (eq-eqb h.first 4294967295 e) refl

  pub path_upstream : (h.first ≡ 4294967295 → ⊥) → is_upstream h.flags ≡ true → path_of tree services entry h topic ≡ ending (served_at services topic h.first) (up_path tree (served_at services topic h.first) entry)
  unfolding path_of
  path_upstream n u = rw (ne_eqb h.first 4294967295 n, u) refl

  pub path_outside : (h.first ≡ 4294967295 → ⊥) → is_upstream h.flags ≡ false → ranks_in tree ≤ h.first → path_of tree services entry h topic ≡ stopping entry 113
  unfolding path_of
  path_outside n u l = rw (ne_eqb h.first 4294967295 n, u, le-ltb h.first (ranks_in tree) l) refl

  pub path_rank : (h.first ≡ 4294967295 → ⊥) → is_upstream h.flags ≡ false → h.first < ranks_in tree → path_of tree services entry h topic ≡ ending (record_of services topic) (rank_path tree entry h.first)
  unfolding path_of
  path_rank n u l = rw (ne_eqb h.first 4294967295 n, u, lt-ltb h.first (ranks_in tree) l) refl

-- ---- a request led along brokers

module _ (way : ℕ → Way) where
  pub leads_last : (r : ℕ) (end : End) → way r ≡ way_of end → Leads way (r ∷ []) end
  unfolding Leads
  leads_last r end w = w

  pub leads_next : (r s : ℕ) (rs : List ℕ) (end : End) → way r ≡ Forward s → Leads way (s ∷ rs) end → Leads way (r ∷ s ∷ rs) end
  unfolding Leads
  leads_next r s rs end w l = (w, l)

  -- and back: what the last broker does, what any other does, and the brokers behind it
  pub leads_ends : (r : ℕ) (end : End) → Leads way (r ∷ []) end → way r ≡ way_of end
  unfolding Leads
  leads_ends r end l = l

  pub leads_here : (r s : ℕ) (rs : List ℕ) (end : End) → Leads way (r ∷ s ∷ rs) end → way r ≡ Forward s
  unfolding Leads
  leads_here r s rs end l = l.0

  pub leads_on : (r s : ℕ) (rs : List ℕ) (end : End) → Leads way (r ∷ s ∷ rs) end → Leads way (s ∷ rs) end
  unfolding Leads
  leads_on r s rs end l = l.1

module _ (tree : List ℕ) where
  pub linked_last : (r : ℕ) → r < ranks_in tree → Linked tree (r ∷ [])
  unfolding Linked
  linked_last r h = h

  pub linked_next : (r s : ℕ) (rs : List ℕ) → r < ranks_in tree → is_neighbour tree s r ≡ true → Linked tree (s ∷ rs) → Linked tree (r ∷ s ∷ rs)
  unfolding Linked
  linked_next r s rs h n l = (h, n, l)

  -- and back
  pub linked_rank : (r : ℕ) (rs : List ℕ) → Linked tree (r ∷ rs) → r < ranks_in tree
  unfolding Linked
  linked_rank r [] l = l
  linked_rank r (s ∷ rs) l = l.0

  pub linked_neighbour : (r s : ℕ) (rs : List ℕ) → Linked tree (r ∷ s ∷ rs) → is_neighbour tree s r ≡ true
  unfolding Linked
  linked_neighbour r s rs l = l.1

  pub linked_on : (r s : ℕ) (rs : List ℕ) → Linked tree (r ∷ s ∷ rs) → Linked tree (s ∷ rs)
  unfolding Linked
  linked_on r s rs l = l.2

  -- all are ranks of the tree, and so is the last
  pub linked_ranks : (rs : List ℕ) → Linked tree rs → Each (λ s. s < ranks_in tree) rs
  linked_ranks [] l = tt
  linked_ranks (r ∷ []) l = (linked_rank r [] l, tt)
  linked_ranks (r ∷ s ∷ rs) l = (linked_rank r (s ∷ rs) l, linked_ranks (s ∷ rs) (linked_on r s rs l))

-- ---- up to the nearest broker that serves it

abbrev passes : (ℕ → Option ℕ) → ℕ → Bool
passes serves r = is_found (serves r)

module _ (tree : List ℕ) (serves : ℕ → Option ℕ) where
  pub up_here : (n r number : ℕ) → serves r ≡ Some number → up_to (passes serves) (climbed tree n r) ≡ r ∷ []
  unfolding climbed up_to
  up_here zero r number e = rw e refl
  up_here (suc n) r number e = rw e refl

  up_top : (r : ℕ) → serves r ≡ None → up_to (passes serves) (climbed tree 0 r) ≡ r ∷ []
  unfolding climbed up_to
  up_top r e = rw e refl

  up_on : (n r : ℕ) → serves r ≡ None → up_to (passes serves) (climbed tree (suc n) r) ≡ r ∷ up_to (passes serves) (climbed tree n (parent_of tree r))
  unfolding climbed up_to
  up_on n r e = rw e refl

-- ---- brokers the last of which has the say

deliver_or_fail : (f : Option ℕ) → deliver_or f (Fail 38) ≡ way_of (end_at f)
deliver_or_fail (Some n) = refl
deliver_or_fail None = refl

found_or_not : (f : Option ℕ) → ((number : ℕ) × (f ≡ Some number)) ⊎ (f ≡ None)
found_or_not (Some number) = inl (number, refl)
found_or_not None = inr refl

-- by what a broker does with the request, and by what it serves
module _ (tree : List ℕ) (way : ℕ → Way) (serves : ℕ → Option ℕ) where
  -- from r the request goes along these brokers, at most so many, and ends as the last one serves it
  record Trail (r : ℕ) (brokers : List ℕ) (most : ℕ) : Type 0 where
    rest : List ℕ
    starts : brokers ≡ r ∷ rest
    leads : Leads way brokers (end_at (serves (final 0 brokers)))
    linked : Linked tree brokers
    few : length brokers ≤ most

  trail_last : (r : ℕ) → r < ranks_in tree → way r ≡ way_of (end_at (serves r)) → Trail r (r ∷ []) 1
  trail_last r inside w = record { rest = []; starts = refl; leads = leads_last way r _ w; linked = linked_last tree r inside; few = omega arith }

  trail_next : (r s : ℕ) (brokers : List ℕ) (most : ℕ) → r < ranks_in tree → is_neighbour tree s r ≡ true → way r ≡ Forward s → Trail s brokers most → Trail r (r ∷ brokers) (suc most)
  trail_next r s brokers most inside near w t =
      record {
        rest = brokers;
        starts = refl;
        leads = rw (t.starts, final_next r s t.rest) (leads_next way r s t.rest _ w (rw t.starts at t.leads));
        linked = rw t.starts (linked_next tree r s t.rest inside near (rw t.starts at t.linked));
        few = omega (arith, t.few);
      }

  trail_within : (r : ℕ) (brokers : List ℕ) (few most : ℕ) → few ≤ most → Trail r brokers few → Trail r brokers most
  trail_within r brokers few most l t = record { rest = t.rest; starts = t.starts; leads = t.leads; linked = t.linked; few = omega (arith, t.few) }

  module _ (g : tree_good tree ≡ true) where
    -- where each broker of the tree delivers the request if it serves it, or else sends it to its parent
    module _ (ways : (s : ℕ) → s < ranks_in tree → way s ≡ deliver_or (serves s) (to_parent tree s)) where
      trail_here : (n r number : ℕ) → r < ranks_in tree → serves r ≡ Some number → Trail r (up_to (passes serves) (climbed tree n r)) (suc n)
      trail_here n r number inside e =
          rw (up_here tree serves n r number e) (trail_within r (r ∷ []) 1 (suc n) (omega arith) (trail_last r inside (ways r inside ∙ rw e refl)))

      trail_top : (r : ℕ) → r < ranks_in tree → depth_of tree r ≡ 0 → serves r ≡ None → Trail r (up_to (passes serves) (climbed tree 0 r)) 1
      trail_top r inside d e = rw (up_top tree serves r e) (trail_last r inside (ways r inside ∙ rw e (parent_none tree r (depth_none tree g r inside d))))

      trail_on : (n r : ℕ) → r < ranks_in tree → (r ≡ 0 → ⊥) → serves r ≡ None → Trail (parent_of tree r) (up_to (passes serves) (climbed tree n (parent_of tree r))) (suc n) → Trail r (up_to (passes serves) (climbed tree (suc n) r)) (suc (suc n))
      trail_on n r inside apart e t =
          rw (up_on tree serves n r e)
          (trail_next r (parent_of tree r) (up_to (passes serves) (climbed tree n (parent_of tree r))) (suc n) inside
          (child_neighbour tree (parent_of tree r) r (parent_in tree g r inside apart) inside refl)
          (ways r inside ∙ rw e (parent_some tree r apart)) t)

      trail_up : (n r : ℕ) → r < ranks_in tree → depth_of tree r ≡ n → Trail r (up_to (passes serves) (climbed tree n r)) (suc n)
      trail_up zero r inside d = ⊎_elim (λ f. trail_here 0 r f.0 inside f.1) (trail_top r inside d) (found_or_not (serves r))
      trail_up (suc n) r inside d =
          ⊎_elim (λ f. trail_here (suc n) r f.0 inside f.1)
          (λ e.
          let apart = not_top tree r (omega arith) in
          trail_on n r inside apart e (trail_up n (parent_of tree r) (parent_in tree g r inside apart) (omega (arith, depth_below tree g r inside apart))))
          (found_or_not (serves r))

      trail_near : (r : ℕ) → r < ranks_in tree → Trail r (up_path tree serves r) (suc (depth_of tree r))
      unfolding up_path chain
      trail_near r inside = trail_up (depth_of tree r) r inside refl

    -- ---- to a rank, where each broker hands it to the next one on the way, and the target delivers it if it serves it

    module _ (target : ℕ) (ht : target < ranks_in tree) (there : way target ≡ deliver_or (serves target) (Fail 38))
        (ahead : (r : ℕ) → (target ≡ r → ⊥) → way r ≡ Forward (towards tree r target)) where
      -- from the rank that is k parents above it down to the target
      trail_down : (k : ℕ) → k ≤ depth_of tree target → Trail (above tree k target) (above tree k target ∷ fall tree k target) (suc k)
      unfolding above fall
      trail_down zero l = trail_last target ht (there ∙ deliver_or_fail (serves target))
      trail_down (suc k) l =
          let here = above_in tree g (suc k) target ht l in
          let next = above_in tree g k target ht (omega arith) in
          let deep = above_depth tree g (suc k) target ht l in
          trail_next (above tree (suc k) target) (above tree k target) (above tree k target ∷ fall tree k target) (suc k) here
          (parent_neighbour tree (above tree k target) (above tree (suc k) target) next here (sym (above_last tree k target)))
          (ahead (above tree (suc k) target) (λ e. absurd (omega (arith, rw (sym e) at deep))) ∙ ap Forward (towards_down tree g k target ht l))
          (trail_down k (omega arith))

      -- up to the rank that is u parents above r, where nothing below that is above the target
      trail_over : (u r : ℕ) (rs : List ℕ) (most : ℕ) → r < ranks_in tree → u ≤ depth_of tree r → ((i : ℕ) → i < u → Aside tree target (above tree i r)) → Trail (above tree u r) (above tree u r ∷ rs) most → Trail r (rise tree u r ++ (above tree u r ∷ rs)) (u + most)
      unfolding above rise
      trail_over zero r rs most inside l f t = trail_within r (r ∷ rs) most (0 + most) (omega arith) t
      trail_over (suc u) r rs most inside l f t =
          let apart = not_top tree r (omega arith) in
          let parent = parent_in tree g r inside apart in
          trail_within r (r ∷ (rise tree u (parent_of tree r) ++ (above tree u (parent_of tree r) ∷ rs))) (suc (u + most)) (suc u + most) (omega arith)
          (trail_next r (parent_of tree r) (rise tree u (parent_of tree r) ++ (above tree u (parent_of tree r) ∷ rs)) (u + most) inside
          (child_neighbour tree (parent_of tree r) r parent inside refl)
          (ahead r (λ e. absurd (f 0 (omega arith) 0 (omega arith) e)) ∙ ap Forward (towards_up tree g r target (λ k m e. f 0 (omega arith) (suc k) m e)))
          (trail_over u (parent_of tree r) rs most parent (omega (arith, depth_below tree g r inside apart)) (λ i m. f (suc i) (omega arith)) t))

      trail_rank : (entry : ℕ) → entry < ranks_in tree → Trail entry (rank_path tree entry target) (suc (depth_of tree entry + depth_of tree target))
      trail_rank entry he =
          let m = meet tree g entry target he ht in
          rw (rank_path_is tree g entry target he ht m)
          (trail_within entry _ (m.up + suc m.down) (suc (depth_of tree entry + depth_of tree target)) (omega (arith, m.up_most, m.down_most))
          (trail_over m.up entry (fall tree m.down target) (suc m.down) he m.up_most m.first
          (rw m.there (trail_down m.down m.down_most))))

-- ---- who serves, where the named rank is skipped

served : (services topic : List ℕ) (named r n : ℕ) → served_at services topic named r ≡ Some n → record_of services topic r ≡ Some n
served services topic named r n e = go (eqb r named) refl
  where
    go : (t : Bool) → eqb r named ≡ t → record_of services topic r ≡ Some n
    go true q = absurd (let z : cond true None (record_of services topic r) ≡ Some n = rw q at e in let no : ◌≡◌ {A = ℕ} 0 1 = cc in omega arith)
    go false q = rw q at e

-- a broker that is skipped serves nothing
upwards_served : (tree services : List ℕ) (r : ℕ) (topic : List ℕ) (named : ℕ) → upwards tree services r topic (skips named r) ≡ deliver_or (served_at services topic named r) (to_parent tree r)
upwards_served tree services r topic named = ⊎_elim (λ q. rw q) (λ l. rw l) (outcome (eqb r named))

-- ---- the claim

pub end_found : (f : Option ℕ) (n : ℕ) → end_at f ≡ delivers n → f ≡ Some n
end_found (Some m) n e = cc
end_found None n e = cc

module _ (tree services : List ℕ) (entry : ℕ) (h : Header) (topic : List ℕ) (inside : entry < ranks_in tree) where
  abbrev way : ℕ → Way
  way r = request_way tree services r h topic

  follows_stop : (errnum : ℕ) → way entry ≡ Fail errnum → Follows tree services entry h topic (stopping entry errnum)
  follows_stop errnum w =
      record {
        rest = [];
        starts = refl;
        leads = leads_last way entry (fails errnum) w;
        linked = linked_last tree entry inside;
        few = omega arith;
        ends = λ n e. cc;
      }

  -- what is served is registered
  follows_trail : (serves : ℕ → Option ℕ) → ((r n : ℕ) → serves r ≡ Some n → record_of services topic r ≡ Some n) → (brokers : List ℕ) (most : ℕ) → most ≤ 2 * tree_depth tree + 1 → Trail tree way serves entry brokers most → Follows tree services entry h topic (ending serves brokers)
  follows_trail serves registers brokers most l t =
      record {
        rest = t.rest;
        starts = t.starts;
        leads = t.leads;
        linked = t.linked;
        few = omega (arith, t.few);
        ends = λ n e. registers (final 0 brokers) n (end_found (serves (final 0 brokers)) n e);
      }

  module _ (g : tree_good tree ≡ true) where
    follows_any : h.first ≡ 4294967295 → Followed tree services entry h topic
    follows_any e =
        rw (path_any tree services entry h topic e)
        (follows_trail (record_of services topic) (λ r n p. p) (up_path tree (record_of services topic) entry) (suc (depth_of tree entry)) (omega (arith, depth_at_most tree entry inside))
        (trail_near tree way (record_of services topic) g (λ s m. way_any tree services s topic h e) entry inside))

    module _ (n : h.first ≡ 4294967295 → ⊥) where
      follows_upstream : is_upstream h.flags ≡ true → Followed tree services entry h topic
      follows_upstream u =
          let serves = served_at services topic h.first in
          rw (path_upstream tree services entry h topic n u)
          (follows_trail serves (served services topic h.first) (up_path tree serves entry) (suc (depth_of tree entry)) (omega (arith, depth_at_most tree entry inside))
          (trail_near tree way serves g (λ s m. way_upstream tree services s topic h n u ∙ upwards_served tree services s topic h.first) entry inside))

      follows_outside : is_upstream h.flags ≡ false → ranks_in tree ≤ h.first → Followed tree services entry h topic
      follows_outside u l =
          rw (path_outside tree services entry h topic n u l)
          (follows_stop 113 (way_rank tree services entry topic h n u ∙ rank_outside tree services entry topic h.first l))

      follows_rank : is_upstream h.flags ≡ false → h.first < ranks_in tree → Followed tree services entry h topic
      follows_rank u l =
          rw (path_rank tree services entry h topic n u l)
          (follows_trail (record_of services topic) (λ r m p. p) (rank_path tree entry h.first) (suc (depth_of tree entry + depth_of tree h.first))
          (omega (arith, depth_at_most tree entry inside, depth_at_most tree h.first l))
          (trail_rank tree way (record_of services topic) g h.first l
          (way_rank tree services h.first topic h n u ∙ rank_reached tree services h.first topic h.first l refl)
          (λ r apart. way_rank tree services r topic h n u ∙ rank_ahead tree services r topic h.first l apart)
          entry inside))

pub followed : (tree services : List ℕ) (entry : ℕ) (h : Header) (topic : List ℕ) → IsFollowed tree services entry h topic
followed tree services entry h topic g inside =
    ⊎_elim (λ t. follows_any tree services entry h topic inside g (eqb-true h.first 4294967295 t)) (λ f. other (eqb-false h.first 4294967295 f)) (outcome (eqb h.first 4294967295))
  where
    other : (h.first ≡ 4294967295 → ⊥) → Followed tree services entry h topic
    other n =
        ⊎_elim
        (follows_upstream tree services entry h topic inside g n)
        (λ u.
        ⊎_elim
        (λ t. follows_rank tree services entry h topic inside g n u (ltb-true h.first (ranks_in tree) t))
        (λ f. follows_outside tree services entry h topic inside g n u (ltb-false h.first (ranks_in tree) f))
        (outcome (ltb h.first (ranks_in tree))))
        (outcome (is_upstream h.flags))
