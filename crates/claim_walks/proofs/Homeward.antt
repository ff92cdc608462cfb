-- A response's walk: back over the brokers whose identities are its routes, to the one at which these end.
use Rattle.std.specs.Prelude.{Option, None, Some, Ok, Err}
use mathlib.Core.Path.{◌≡◌, refl, sym, ap, ◌∙◌, subst}
use mathlib.Core.Bool.{true, false}
use mathlib.Core.Logic.{inr}
use Prim.Native.Nat.{ℕ, ◌+◌, ◌<◌, ◌≤◌}
use mathlib.Core.List.{List, [], ◌∷◌, ◌++◌, map, reverse, reverse_aux}
use native.Mathlib.Omega.{arith}
use borrow.Author.Tests.{le-ltb, ne_eqb}
use lib.Dec.{eqb}
use lib.ListN.{length, drop, length-append}
use Rattle.bytes_number.proofs.Truth.{true_false}
use Rattle.refusal.specs.Answer.{answered, and_then}
use Rattle.frame_message.specs.Message.{Message}
use Rattle.frame_message.specs.Frame.{part_bytes, body_of, frame_of}
use Rattle.frame_message.specs.Reading.{reading_of}
use Rattle.table_tree.specs.Tree.{ranks_in}
use Rattle.table_tree.proofs.Tree.{whole_few}
use Rattle.table_tree.proofs.Depths.{good_whole}
use Rattle.table_tree_hops.specs.Towards.{is_neighbour}
use Rattle.table_identities.specs.Identities.{identity_at, same_identity, broker_of}
use Rattle.table_identities.proofs.Identities.{good_identities, found_holds, found_own}
use Rattle.walk_path.specs.WorkingLeading.{Linked}
use Rattle.walk_path.proofs.Leading.{linked_rank, linked_neighbour, linked_on}
use Rattle.frame_rewrite.specs.Renewed.{cleared}
use Rattle.step_routing.specs.declared.Broker.{Broker}
use Rattle.step_routing.specs.Responses.{Back, towards_broker, response_way}
use Rattle.step_routing.specs.Messages.{with_routes, popped}
use Rattle.step_routing.specs.Routed.{Tables, forwarded, home, responded, ValidTables}
use Rattle.step_routing.proofs.Ways.{broker_near}
use Rattle.step_pass.specs.Step.{room_for, step_of}
use Rattle.step_pass.proofs.Bodies.{popped_body}
use Rattle.frame_message.proofs.Frames.{frame_long}
use Rattle.step_routing.proofs.Outcomes.{routed_response}
use Rattle.step_pass.proofs.Passing.{pass_as, step_pass}
use Rattle.step_pass.proofs.Keeping.{Sound, sound_route, sound_short, popped_sound, read_cleared}
use Rattle.walk.specs.Runs.{Run, rests, goes}
use Rattle.claim_walks.specs.Demand3.{left_of}
use Rattle.claim_walks.proofs.There.{cleared-length, cleared_again}

-- a list of routes whose first is no broker's identity
abbrev pub Strangers : Tables → List (List ℕ) → Type 0
Strangers t routes =
    (top : List ℕ) (below : List (List ℕ)) → routes ≡ top ∷ below → (rank : ℕ) → rank < ranks_in t.tree → same_identity (identity_at t.identities rank) top ≡ false

-- each is a rank of the tree, and the one behind it is its neighbour
unfoldable pub BackLinked : List ℕ → List ℕ → Type 0
BackLinked tree [] = Unit {0}
BackLinked tree (r ∷ []) = r < ranks_in tree
BackLinked tree (r ∷ s ∷ rs) = (r < ranks_in tree) × (is_neighbour tree r s ≡ true) × BackLinked tree (s ∷ rs)

module _ (tree : List ℕ) where
  pub back_rank : (r : ℕ) (rs : List ℕ) → BackLinked tree (r ∷ rs) → r < ranks_in tree
  unfolding BackLinked
  back_rank r [] l = l
  back_rank r (s ∷ rs) l = l.0

  back_neighbour : (r s : ℕ) (rs : List ℕ) → BackLinked tree (r ∷ s ∷ rs) → is_neighbour tree r s ≡ true
  unfolding BackLinked
  back_neighbour r s rs l = l.1

  back_on : (r s : ℕ) (rs : List ℕ) → BackLinked tree (r ∷ s ∷ rs) → BackLinked tree (s ∷ rs)
  unfolding BackLinked
  back_on r s rs l = l.2

-- ---- one step

module _ (t : Tables) (valid : ValidTables t) (b : Broker) (m : Message) (buffer : List ℕ) (sound : Sound m) (kind : m.header.kind ≡ 2)
    (read : reading_of buffer ≡ answered m) (inside : b.rank < ranks_in t.tree) where
  abbrev way : Back
  way = response_way t.tree t.identities b.rank m.routes

  step_as : {w : Back} → way ≡ w → step_of t b buffer ≡ and_then (responded m w) (room_for (length buffer))
  step_as w =
      step_pass t b buffer valid.tree valid.services valid.identities
      ∙ pass_as t b buffer inside m read (routed_response t b m kind ∙ ap (responded m) w)

  -- "if there are no routes, or the top route is no broker's identity, the response is home"
  way_home : (routes : List (List ℕ)) → Strangers t routes → response_way t.tree t.identities b.rank routes ≡ Ok None
  unfolding response_way
  way_home [] strangers = refl
  way_home (top ∷ below) strangers = by_found (broker_of t.identities top) refl
    where
      by_found : (found : Option ℕ) → broker_of t.identities top ≡ found → towards_broker t.tree b.rank (broker_of t.identities top) ≡ Ok None
      by_found None e = ap (towards_broker t.tree b.rank) e
      by_found (Some rank) e =
          let holds = found_holds t.tree t.identities (good_identities t.tree t.identities valid.identities) top rank e in
          absurd (true_false (sym holds.1 ∙ strangers top below refl rank holds.0))

  pub home_step : Strangers t m.routes → step_of t b buffer ≡ answered home
  home_step strangers = step_as (way_home m.routes strangers)

  -- "If it names a neighbour (parent or child), remove it and forward there."
  module _ (next : ℕ) (below : List (List ℕ)) (routes : m.routes ≡ identity_at t.identities next ∷ below) (there : next < ranks_in t.tree)
      (near : is_neighbour t.tree b.rank next ≡ true) where
    way_on : way ≡ Ok (Some next)
    unfolding response_way
    way_on =
        let own = found_own t.tree t.identities (good_identities t.tree t.identities valid.identities) next there in
        ap (response_way t.tree t.identities b.rank) routes ∙ ap (towards_broker t.tree b.rank) own
        ∙ broker_near t.tree b.rank next (omega (arith, whole_few t.tree (good_whole t.tree valid.tree))) near

    pub on_sound : Sound (popped m)
    on_sound = popped_sound m sound (inr kind) (identity_at t.identities next) below routes

    shorter : length (body_of (popped m)) ≤ length (body_of m)
    shorter =
        omega (
          arith,
          ap length (popped_body m (identity_at t.identities next) below (sound_route m sound (inr kind)) routes),
          length-append (part_bytes (identity_at t.identities next)) (body_of (popped m)),
        )

    pub on_fits : 32776 ≤ length buffer → length (frame_of (popped m)) ≤ length buffer
    on_fits long = omega (arith, frame_long (popped m), shorter, sound_short m sound)

    pub on_step : 32776 ≤ length buffer → step_of t b buffer ≡ answered (forwarded next (popped m))
    on_step long = step_as way_on ∙ rw (le-ltb (length buffer) (length (frame_of (popped m))) (on_fits long))

-- ---- all of them

-- what is left: the frame with the routes at home and zeros behind it, or the buffer as it was where no link is crossed
abbrev pub home_buffer : List ℕ → Message → List (List ℕ) → List ℕ → List ℕ
home_buffer [] m routes buffer = buffer
home_buffer (s ∷ rs) m routes buffer = cleared (frame_of (with_routes m routes)) buffer

module _ (t : Tables) (valid : ValidTables t) (userid rolemask : ℕ) (routes : List (List ℕ)) (strangers : Strangers t routes) where
  abbrev at : ℕ → Broker
  at r = record { rank = r; userid = userid; rolemask = rolemask }

  abbrev names : List ℕ → List (List ℕ)
  names = map (λ rank. identity_at t.identities rank)

  -- behind the first link
  home_left : (rs : List ℕ) (m : Message) (buffer : List ℕ) → drop 1 m.routes ≡ names rs ++ routes → length (frame_of (popped m)) ≤ length buffer →
      home_buffer rs (popped m) routes (cleared (frame_of (popped m)) buffer) ≡ cleared (frame_of (with_routes m routes)) buffer
  home_left [] m buffer stack fits = ap (λ (rs : List (List ℕ)). cleared (frame_of (with_routes m rs)) buffer) stack
  home_left (s ∷ rs) m buffer stack fits = cleared_again (frame_of (with_routes m routes)) (frame_of (popped m)) buffer fits

  pub response_run : (r : ℕ) (rs : List ℕ) (m : Message) (buffer : List ℕ) → BackLinked t.tree (r ∷ rs) → m.routes ≡ names rs ++ routes →
      Sound m → m.header.kind ≡ 2 → reading_of buffer ≡ answered m → 32776 ≤ length buffer →
      Run t (at r) buffer (r ∷ rs) (answered home) (home_buffer rs m routes buffer)
  response_run r [] m buffer linked stack sound kind read long =
      rests (at r) buffer (answered home)
      (home_step t valid (at r) m buffer sound kind read (back_rank t.tree r [] linked)
      (λ top below e. strangers top below (sym stack ∙ e)))
      refl
  response_run r (s ∷ rs) m buffer linked stack sound kind read long =
      let b = at r in
      let inside = back_rank t.tree r (s ∷ rs) linked in
      let rest = back_on t.tree r s rs linked in
      let there = back_rank t.tree s rs rest in
      let near = back_neighbour t.tree r s rs linked in
      let below = names rs ++ routes in
      let fits = on_fits t valid b m buffer sound kind read inside s below stack there near long in
      let fewer = on_sound t valid b m buffer sound kind read inside s below stack there near in
      let after = cleared (frame_of (popped m)) buffer in
      let on = response_run s rs (popped m) after rest (ap (drop 1) stack) fewer kind (read_cleared (popped m) fewer buffer) (omega (arith, cleared-length (frame_of (popped m)) buffer fits)) in
      subst (λ (left : List ℕ). Run t b buffer (r ∷ s ∷ rs) (answered home) left) (home_left rs m buffer (ap (drop 1) stack) fits)
      (goes b buffer s (popped m) (s ∷ rs) (answered home) (home_buffer rs (popped m) routes after)
      (on_step t valid b m buffer sound kind read inside s below stack there near long) on)

  -- at home it can be written
  pub home_sound : (rs : List ℕ) (m : Message) → m.routes ≡ names rs ++ routes → Sound m → m.header.kind ≡ 2 → Sound (with_routes m routes)
  home_sound [] m stack sound kind = subst (λ (l : List (List ℕ)). Sound (with_routes m l)) stack sound
  home_sound (s ∷ rs) m stack sound kind =
      home_sound rs (popped m) (ap (drop 1) stack) (popped_sound m sound (inr kind) (identity_at t.identities s) (names rs ++ routes) stack) kind

-- what is left, by the number of links
pub home_left_of : (rs : List ℕ) (m : Message) (routes : List (List ℕ)) (buffer : List ℕ) → home_buffer rs m routes buffer ≡ left_of (eqb (length rs) 0) (with_routes m routes) buffer
home_left_of [] m routes buffer = refl
home_left_of (s ∷ rs) m routes buffer = sym (rw (ne_eqb (length (s ∷ rs)) 0 (λ e. omega arith)))

-- ---- the way home is the way there, from its end

module _ (tree : List ℕ) where
  back_last : (r : ℕ) → r < ranks_in tree → BackLinked tree (r ∷ [])
  unfolding BackLinked
  back_last r h = h

  back_next : (r s : ℕ) (rs : List ℕ) → r < ranks_in tree → is_neighbour tree r s ≡ true → BackLinked tree (s ∷ rs) → BackLinked tree (r ∷ s ∷ rs)
  unfolding BackLinked
  back_next r s rs h n l = (h, n, l)

  back_along : (r : ℕ) (xs ys : List ℕ) → Linked tree (r ∷ xs) → BackLinked tree (r ∷ ys) → BackLinked tree (reverse_aux xs (r ∷ ys))
  back_along r [] ys linked back = back
  back_along r (s ∷ xs) ys linked back =
      let rest = linked_on tree r s xs linked in
      back_along s xs (r ∷ ys) rest (back_next s r ys (linked_rank tree s xs rest) (linked_neighbour tree r s xs linked) back)

  pub back_linked : (r : ℕ) (rs : List ℕ) → Linked tree (r ∷ rs) → BackLinked tree (reverse (r ∷ rs))
  back_linked r rs linked = back_along r rs [] linked (back_last r (linked_rank tree r rs linked))
