-- The claim on the way to a rank, from the laws on hops.
use mathlib.Core.Path.{◌≡◌, ap, ◌∙◌}
use mathlib.Core.Bool.{true}
use Prim.Native.Nat.{ℕ, ◌<◌}
use native.Mathlib.Omega.{arith}
use mathlib.Core.List.{List}
use Rattle.table_tree.specs.Tree.{ranks_in}
use Rattle.table_tree.specs.Depths.{tree_good}
use Rattle.table_tree_hops.specs.Towards.{after_hops}
use Rattle.table_tree_hops.proofs.Paths.{Meeting, meet, hops_add, hops_up, hops_down, hops_reach, hops_not_before, next_neighbour}
use Rattle.claim_tables.specs.Ways.{WayToRank, EveryWay}

module _ (tree : List ℕ) (good : tree_good tree ≡ true) (from target : ℕ) (hf : from < ranks_in tree) (ht : target < ranks_in tree) where
  abbrev m : Meeting tree from target
  m = meet tree good from target hf ht

  way : WayToRank tree from target
  way =
      record {
        up = m.up;
        down = m.down;
        meet = record { up_most = m.up_most; down_most = m.down_most; there = m.there; first = m.first };
        climbs = λ k h. hops_up tree good k from target (λ i l. m.first i (omega arith));
        descends = λ k h. hops_add tree m.up k from target ∙ ap (λ (r : ℕ). after_hops tree k r target) (hops_up tree good m.up from target m.first ∙ m.there) ∙ hops_down tree good k m.down target ht h m.down_most;
        arrives = hops_reach tree good from target ht m;
        not_before = hops_not_before tree good from target ht m;
        next = λ apart. (next_neighbour tree good from target hf ht apart).0;
      }

pub every_way : (tree : List ℕ) → EveryWay tree
every_way tree good from target hf ht = way tree good from target hf ht
