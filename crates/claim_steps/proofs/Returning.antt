-- The rules on responses.
use Rattle.std.specs.Prelude.{Option, None, Some, Ok, Err}
use mathlib.Core.Path.{◌≡◌, refl, sym, ap, ◌∙◌}
use mathlib.Core.Logic.{inr, ⊎_elim}
use Prim.Native.Nat.{ℕ, ◌+◌, ◌<◌}
use native.Mathlib.Omega.{arith}
use mathlib.Core.List.{List, [], ◌∷◌}
use lib.ListN.{length, drop}
use Rattle.bytes_number.proofs.Truth.{outcome}
use Rattle.refusal.specs.declared.Refusal.TheVariants.{NoNeighbour}
use Rattle.refusal.specs.Answer.{answered}
use Rattle.frame_message.specs.Message.{Message}
use Rattle.frame_message.specs.Frame.{frame_of}
use Rattle.table_tree.proofs.Tree.{whole_few}
use Rattle.table_tree.proofs.Depths.{good_whole}
use Rattle.table_tree_hops.specs.Towards.{is_neighbour}
use Rattle.table_tree_hops.proofs.Paths.{not_itself}
use Rattle.table_identities.specs.Identities.{broker_of}
use Rattle.table_identities.proofs.Identities.{GoodIdentities, good_identities, found_holds, found_only}
use Rattle.step_routing.specs.declared.Broker.{Broker}
use Rattle.step_routing.specs.Responses.{Back, towards_broker, response_way}
use Rattle.step_routing.specs.Messages.{popped}
use Rattle.step_routing.specs.Routed.{Tables, forwarded, responded, routed}
use Rattle.step_routing.proofs.Ways.{back_none, back_top, broker_near, broker_far, stray_only}
use Rattle.step_routing.proofs.Made.{popped_frame, popped_writable}
use Rattle.step_routing.proofs.Outcomes.{back_of, clashing, routed_response, home_is, sent_is, stray_is, not_delivered, not_replied, not_silenced}
use Rattle.claim_steps.specs.Rules.{Right, Valid, Neighbour, ErrorDue, Names, AtHome, Loses, GoesBack}
use Rattle.claim_steps.proofs.Neighbours.{neighbour_passes, passes_neighbour, neighbour_fails, fails_neighbour}

-- which of the conditions holds
pub data Whither (t : Tables) (b : Broker) (m : Message) : Type 0 where
  ended : AtHome t m → Whither t b m
  near : (rank : ℕ) → Names t m rank → Neighbour t b rank → Whither t b m
  far : (rank : ℕ) → Names t m rank → (Neighbour t b rank → ⊥) → Whither t b m

module _ (t : Tables) (b : Broker) (right : Right t b) (m : Message) where
  abbrev way : Back
  way = back_of t b m

  good : GoodIdentities t.tree t.identities
  good = good_identities t.tree t.identities right.tables.identities

  -- ---- each condition leads to one way

  way_top : (top : List ℕ) (below : List (List ℕ)) → m.routes ≡ top ∷ below → (f : Option ℕ) → broker_of t.identities top ≡ f → way ≡ towards_broker t.tree b.rank f
  way_top top below routes f e =
      ap (response_way t.tree t.identities b.rank) routes ∙ back_top t.tree t.identities b.rank top below ∙ ap (towards_broker t.tree b.rank) e

  way_names : (rank : ℕ) → Names t m rank → way ≡ towards_broker t.tree b.rank (Some rank)
  way_names rank n = way_top n.top n.below n.routes (Some rank) (found_only t.tree t.identities good n.top rank n.within n.same)

  few : (rank : ℕ) → Names t m rank → rank < 1024
  few rank n = omega (arith, n.within, whole_few t.tree (good_whole t.tree right.tables.tree))

  way_near : (rank : ℕ) → Names t m rank → Neighbour t b rank → way ≡ Ok (Some rank)
  way_near rank n e = way_names rank n ∙ broker_near t.tree b.rank rank (few rank n) (neighbour_passes t b right.rank rank n.within e)

  way_far : (rank : ℕ) → Names t m rank → (Neighbour t b rank → ⊥) → way ≡ Err NoNeighbour
  way_far rank n e = way_names rank n ∙ broker_far t.tree b.rank rank (few rank n) (neighbour_fails t b right.rank rank n.within e)

  -- the broker that is found is the one that is named
  found_names : (top : List ℕ) (below : List (List ℕ)) → m.routes ≡ top ∷ below → (rank : ℕ) → broker_of t.identities top ≡ Some rank → Names t m rank
  found_names top below routes rank e =
      let f = found_holds t.tree t.identities good top rank e in
      record { within = f.0; top = top; below = below; routes = routes; same = f.1 }

  way_empty : m.routes ≡ [] → way ≡ Ok None
  way_empty e = ap (response_way t.tree t.identities b.rank) e ∙ back_none t.tree t.identities b.rank

  way_home : AtHome t m → way ≡ Ok None
  way_home (AtHome.no_routes e) = way_empty e
  way_home (AtHome.no_broker none) = go m.routes refl
    where
      found : (top : List ℕ) (below : List (List ℕ)) → m.routes ≡ top ∷ below → (f : Option ℕ) → broker_of t.identities top ≡ f → way ≡ Ok None
      found top below routes (Some rank) e = absurd (none rank (found_names top below routes rank e))
      found top below routes None e = way_top top below routes None e

      go : (routes : List (List ℕ)) → m.routes ≡ routes → way ≡ Ok None
      go [] e = way_empty e
      go (top ∷ below) e = found top below e (broker_of t.identities top) refl

  -- ---- one of them holds

  named : (rank : ℕ) → Names t m rank → Whither t b m
  named rank n = ⊎_elim (λ e. near rank n (passes_neighbour t b right.rank rank n.within e)) (λ e. far rank n (fails_neighbour t b right.rank rank n.within e)) (outcome (is_neighbour t.tree b.rank rank))

  pub whither : Whither t b m
  whither = go m.routes refl
    where
      -- no other rank is named where none is found
      found : (top : List ℕ) (below : List (List ℕ)) → m.routes ≡ top ∷ below → (f : Option ℕ) → broker_of t.identities top ≡ f → Whither t b m
      found top below routes (Some rank) e = named rank (found_names top below routes rank e)
      found top below routes None e =
          ended
          (AtHome.no_broker
          (λ rank n.
          let there = found_only t.tree t.identities good n.top rank n.within n.same in
          let ends : n.top ∷ n.below ≡ top ∷ below = sym n.routes ∙ routes in
          let same : n.top ≡ top = cc in
          let here : broker_of t.identities top ≡ Some rank = rw (← same) there in
          clashing cc))

      go : (routes : List (List ℕ)) → m.routes ≡ routes → Whither t b m
      go [] e = ended (AtHome.no_routes e)
      go (top ∷ below) e = found top below e (broker_of t.identities top) refl

  -- ---- so each way tells its condition

  home_only : way ≡ Ok None → AtHome t m
  home_only e = go whither
    where
      go : Whither t b m → AtHome t m
      go (ended h) = h
      go (near rank n i) = let w = way_near rank n i in clashing cc
      go (far rank n i) = let w = way_far rank n i in clashing cc

  near_only : (next : ℕ) → way ≡ Ok (Some next) → Names t m next × Neighbour t b next
  near_only next e = go whither
    where
      go : Whither t b m → Names t m next × Neighbour t b next
      go (ended h) = let w = way_home h in clashing cc
      go (near rank n i) =
          let w = way_near rank n i in
          let same : rank ≡ next = cc in
          rw (← same) (n, i)
      go (far rank n i) = let w = way_far rank n i in clashing cc

  far_only : way ≡ Err NoNeighbour → (rank : ℕ) × Names t m rank × (Neighbour t b rank → ⊥)
  far_only e = go whither
    where
      go : Whither t b m → (rank : ℕ) × Names t m rank × (Neighbour t b rank → ⊥)
      go (ended h) = let w = way_home h in clashing cc
      go (near rank n i) = let w = way_near rank n i in clashing cc
      go (far rank n i) = (rank, n, i)

  -- ---- what is forwarded

  -- the routes without the top one, and back
  loses_popped : (new : Message) → Loses m new → new ≡ popped m
  loses_popped new l = λ i. record { header = l.header i; routes = ap (drop 1) (sym l.routes) i; topic = l.topic i; payload = l.payload i }

  pub popped_loses : (new : Message) → new ≡ popped m → (rank : ℕ) → Names t m rank → Loses m new
  popped_loses new e rank n =
      rw e (record { header = refl; top = n.top; routes = n.routes ∙ ap (λ (rs : List (List ℕ)). n.top ∷ rs) (sym (ap (drop 1) n.routes)); topic = refl; payload = refl })

  module _ (v : Valid 2 m) where
    step : routed t b m ≡ responded m way
    step = routed_response t b m v.typed

    no_error : (errnum : ℕ) → ErrorDue (routed t b m) errnum → ⊥
    no_error errnum (ErrorDue.made reply e) = not_replied m way errnum reply (sym step ∙ e)
    no_error errnum (ErrorDue.silent e) = not_silenced m way errnum (sym step ∙ e)

    module _ (next : ℕ) (new : Message) (e : routed t b m ≡ answered (forwarded next new)) where
      sent : (way ≡ Ok (Some next)) × (new ≡ popped m)
      sent = sent_is m way next new (sym step ∙ e)

      names : Names t m next × Neighbour t b next
      names = near_only next sent.0

      -- popped, by the routes that are left
      new_is : new ≡ record { header = m.header; routes = names.0.below; topic = m.topic; payload = m.payload }
      new_is = sent.1 ∙ ap (λ (rs : List (List ℕ)). record { header = m.header; routes = drop 1 rs; topic = m.topic; payload = m.payload }) names.0.routes

      new_shrinks : length (frame_of new) + 38 ≡ length (frame_of m)
      new_shrinks = rw new_is (popped_frame m v.writable (inr v.typed) names.0.top names.0.below names.0.routes)

      new_valid : Valid 2 new
      new_valid =
          rw new_is
          (record { typed = v.typed; writable = popped_writable m v.writable (inr v.typed) names.0.top names.0.below names.0.routes })

    pub returns : GoesBack t b m (routed t b m)
    returns =
        record {
          homeward = (λ e. home_only (home_is m way (sym step ∙ e)), λ h. step ∙ ap (responded m) (way_home h));
          forward =
              λ next new. (
                λ e. ((names next new e).0, (names next new e).1, popped_loses new (sent next new e).1 next (names next new e).0),
                λ c. step ∙ ap (responded m) (way_near next c.0 c.1) ∙ ap (λ (new : Message). answered (forwarded next new)) (sym (loses_popped new c.2)),
              );
          no_neighbour = (λ e. far_only (stray_is m way NoNeighbour (sym step ∙ e)), λ c. step ∙ ap (responded m) (way_far c.0 c.1 c.2));
          itself = λ n. step ∙ ap (responded m) (way_far b.rank n (fails_neighbour t b right.rank b.rank right.rank (not_itself t.tree right.tables.tree b.rank right.rank)));
          refusal = λ r e. stray_only t.tree t.identities b.rank m.routes (stray_is m way r (sym step ∙ e));
          shrinks = λ next new e. omega (arith, new_shrinks next new e);
          valid = new_valid;
          not_delivered = λ number e. not_delivered m way number (sym step ∙ e);
          no_error = no_error;
        }
