-- Where a request and a response go: one law for each way through the definitions, in the code's order.
use Rattle.std.specs.Prelude.{Option, None, Some, Ok, Err}
use mathlib.Core.Path.{◌≡◌, refl}
use mathlib.Core.Bool.{Bool, true, false, cond, ◌&&◌}
use Prim.Native.Nat.{ℕ, ◌<◌, ◌≤◌}
use mathlib.Core.List.{List, [], ◌∷◌}
use native.Mathlib.Omega.{arith}
use lib.Dec.{ltb}
use borrow.Author.Tests.{eq-eqb, ne_eqb, lt-ltb, le-ltb}
use Rattle.refusal.specs.declared.Refusal.{Refusal}
use Rattle.refusal.specs.declared.Refusal.TheVariants.{NoNeighbour}
use Rattle.frame_message.specs.declared.Header.{Header}
use Rattle.frame_message.specs.Header.{is_upstream}
use Rattle.table_tree.specs.Tree.{ranks_in, parent_of}
use Rattle.table_tree_hops.specs.Towards.{is_neighbour}
use Rattle.table_identities.specs.Identities.{broker_of}
use Rattle.step_routing.specs.declared.Way.TheVariants.{Forward, Fail}
use Rattle.step_routing.specs.Requests.{registered, deliver_or, to_parent, upwards, next_broker, to_rank, request_way, skips}
use Rattle.step_routing.specs.Responses.{Back, towards_broker, response_way}

module _ (tree : List ℕ) (rank : ℕ) where
  pub parent_none : rank ≡ 0 → to_parent tree rank ≡ Fail 38
  parent_none e = rw (eq-eqb rank 0 e)

  pub parent_some : (rank ≡ 0 → ⊥) → to_parent tree rank ≡ Forward (parent_of tree rank)
  parent_some n = rw (ne_eqb rank 0 n)

module _ (tree services : List ℕ) (rank : ℕ) (topic : List ℕ) where
  pub up_skipped : {skipped : Bool} → skipped ≡ true → upwards tree services rank topic skipped ≡ to_parent tree rank
  up_skipped e = rw e

  pub up_tried : {skipped : Bool} → skipped ≡ false → upwards tree services rank topic skipped ≡ deliver_or (registered services rank topic) (to_parent tree rank)
  up_tried e = rw e

  module _ (nodeid : ℕ) where
    pub rank_outside : ranks_in tree ≤ nodeid → to_rank tree services rank nodeid topic ≡ Fail 113
    rank_outside h = rw (le-ltb nodeid (ranks_in tree) h)

    pub rank_reached : nodeid < ranks_in tree → nodeid ≡ rank → to_rank tree services rank nodeid topic ≡ deliver_or (registered services rank topic) (Fail 38)
    rank_reached h e = rw (lt-ltb nodeid (ranks_in tree) h, eq-eqb nodeid rank e)

    pub rank_ahead : nodeid < ranks_in tree → (nodeid ≡ rank → ⊥) → to_rank tree services rank nodeid topic ≡ Forward (next_broker tree rank nodeid)
    rank_ahead h n = rw (lt-ltb nodeid (ranks_in tree) h, ne_eqb nodeid rank n)

  module _ (h : Header) where
    pub way_any : h.first ≡ 4294967295 → request_way tree services rank h topic ≡ upwards tree services rank topic false
    unfolding request_way
    way_any e = rw (eq-eqb h.first 4294967295 e)

    pub way_upstream : (h.first ≡ 4294967295 → ⊥) → is_upstream h.flags ≡ true → request_way tree services rank h topic ≡ upwards tree services rank topic (skips h.first rank)
    unfolding request_way
    way_upstream n u = rw (ne_eqb h.first 4294967295 n, u)

    pub way_rank : (h.first ≡ 4294967295 → ⊥) → is_upstream h.flags ≡ false → request_way tree services rank h topic ≡ to_rank tree services rank h.first topic
    unfolding request_way
    way_rank n u = rw (ne_eqb h.first 4294967295 n, u)

module _ (tree identities : List ℕ) (rank : ℕ) where
  pub back_none : response_way tree identities rank [] ≡ Ok None
  unfolding response_way
  back_none = refl

  pub back_top : (top : List ℕ) (below : List (List ℕ)) → response_way tree identities rank (top ∷ below) ≡ towards_broker tree rank (broker_of identities top)
  unfolding response_way
  back_top top below = refl

module _ (tree : List ℕ) (rank broker : ℕ) where
  pub broker_no_rank : 1024 ≤ broker → towards_broker tree rank (Some broker) ≡ Err NoNeighbour
  broker_no_rank h = rw (le-ltb broker 1024 h)

  pub broker_near : broker < 1024 → is_neighbour tree rank broker ≡ true → towards_broker tree rank (Some broker) ≡ Ok (Some broker)
  broker_near h e = rw (lt-ltb broker 1024 h, e)

  pub broker_far : broker < 1024 → is_neighbour tree rank broker ≡ false → towards_broker tree rank (Some broker) ≡ Err NoNeighbour
  broker_far h e = rw (lt-ltb broker 1024 h, e)

-- a response is refused for one reason alone
only_one : (t : Bool) (broker : ℕ) {r : Refusal} → ◌≡◌ {A = Back} (cond t (Ok (Some broker)) (Err NoNeighbour)) (Err r) → r ≡ NoNeighbour
only_one true broker e = absurd (let z : ◌≡◌ {A = ℕ} 0 1 = cc in omega arith)
only_one false broker e = cc

only_stray : (tree : List ℕ) (rank : ℕ) (found : Option ℕ) {r : Refusal} → towards_broker tree rank found ≡ Err r → r ≡ NoNeighbour
only_stray tree rank None e = absurd (let z : ◌≡◌ {A = ℕ} 0 1 = cc in omega arith)
only_stray tree rank (Some broker) e = only_one (ltb broker 1024 && is_neighbour tree rank broker) broker e

pub stray_only : (tree identities : List ℕ) (rank : ℕ) (rs : List (List ℕ)) {r : Refusal} → response_way tree identities rank rs ≡ Err r → r ≡ NoNeighbour
unfolding response_way
stray_only tree identities rank [] e = absurd (let z : ◌≡◌ {A = ℕ} 0 1 = cc in omega arith)
stray_only tree identities rank (top ∷ below) e = only_stray tree rank (broker_of identities top) e
