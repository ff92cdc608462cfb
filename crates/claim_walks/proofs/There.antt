-- A request's walk: over the brokers of its path, each of which sends it to the next, to where the last one ends it.
use mathlib.Core.Path.{◌≡◌, refl, sym, ap, ◌∙◌}
use mathlib.Core.Bool.{true, false, cond}
use mathlib.Core.Logic.{inl, ⊎_elim}
use Prim.Native.Nat.{ℕ, suc, ◌+◌, ◌-◌, ◌*◌, ◌<◌, ◌≤◌}
use mathlib.Core.List.{List, [], ◌∷◌, ◌++◌, map, reverse, reverse_aux-eq, append_assoc}
use native.Mathlib.Omega.{arith}
use borrow.Author.Tests.{le-ltb}
use lib.Dec.{ltb}
use lib.ListN.{length, take, replicate, length-append, length-replicate}
use Rattle.bytes_number.proofs.Truth.{outcome, or_neither}
use Rattle.refusal.specs.Answer.{Answer, answered, and_then}
use Rattle.frame_message.specs.Header.{no_response, has_route}
use Rattle.frame_message.specs.Message.{Message}
use Rattle.frame_message.specs.Frame.{body_of, frame_of}
use Rattle.frame_message.specs.Reading.{front, reading_of}
use Rattle.frame_message.proofs.Forms.{route_length_lem}
use Rattle.frame_forms.specs.Forms.{is_route}
use Rattle.table_tree.specs.Tree.{ranks_in}
use Rattle.table_identities.specs.Identities.{identity_at}
use Rattle.table_identities.proofs.Identities.{good_identities}
use Rattle.walk_path.specs.Path.{End, delivers, fails}
use Rattle.walk_path.specs.WorkingLeading.{way_of, Leads, Linked}
use Rattle.walk_path.proofs.Leading.{leads_ends, leads_here, leads_on, linked_rank, linked_on}
use Rattle.frame_rewrite.specs.Renewed.{cleared}
use Rattle.step_routing.specs.declared.Broker.{Broker}
use Rattle.step_routing.specs.declared.Way.{Way}
use Rattle.step_routing.specs.declared.Way.TheVariants.{Forward}
use Rattle.step_routing.specs.Requests.{request_way}
use Rattle.step_routing.specs.Messages.{with_routes, pushed, error_reply, too_large}
use Rattle.step_routing.specs.Routed.{Tables, Outcome, delivered, forwarded, replied, silenced, requested, ValidTables}
use Rattle.step_routing.proofs.Bodies.{body_grows}
use Rattle.step_pass.specs.Step.{room_for, step_of, left_after}
use Rattle.frame_message.proofs.Frames.{frame_long}
use Rattle.step_pass.proofs.Lying.{fails_silent, fails_reply, fails_anyhow}
use Rattle.step_routing.proofs.Outcomes.{routed_request}
use Rattle.step_pass.proofs.Passing.{pass_as, step_pass}
use Rattle.step_pass.proofs.Keeping.{Sound, sound_route, pushed_sound, read_cleared}
use Rattle.walk.specs.Runs.{is_forward, Run, rests, goes}
use Rattle.claim_walks.specs.Demand3.{routes_at_rest}

-- ---- what the last broker does

abbrev pub end_outcome : ℕ → ℕ → End → Message → Outcome
end_outcome userid rolemask (delivers number) m = delivered number
end_outcome userid rolemask (fails errnum) m = cond (no_response m.header.flags) (silenced errnum) (replied errnum (error_reply userid rolemask errnum m))

module _ (t : Tables) (b : Broker) (m : Message) where
  end_is : (end : End) → requested t b m (way_of end) ≡ answered (end_outcome b.userid b.rolemask end m)
  end_is (delivers number) = refl
  end_is (fails errnum) = refl

  end_room : (end : End) (room : ℕ) → room_for room (end_outcome b.userid b.rolemask end m) ≡ answered (end_outcome b.userid b.rolemask end m)
  end_room (delivers number) room = refl
  end_room (fails errnum) room = fails_anyhow b errnum m room

  end_rests : (end : End) → is_forward (answered (end_outcome b.userid b.rolemask end m)) ≡ false
  end_rests (delivers number) = refl
  end_rests (fails errnum) =
      ⊎_elim (λ q. ap is_forward (fails_silent b errnum m q)) (λ l. ap is_forward (fails_reply b errnum m l)) (outcome (no_response m.header.flags))

-- ---- a buffer cleared behind a frame that fits is as long as it was, and only its length matters

pub cleared-length : (xs b : List ℕ) → length xs ≤ length b → length (cleared xs b) ≡ length b
cleared-length xs b h = omega (arith, length-append xs (replicate (length b - length xs) 0), length-replicate {A = ℕ} (length b - length xs) 0)

pub cleared_again : (xs ys b : List ℕ) → length ys ≤ length b → cleared xs (cleared ys b) ≡ cleared xs b
cleared_again xs ys b h = ap (λ (n : ℕ). xs ++ replicate (n - length xs) 0) (cleared-length ys b h)

-- ---- one step

module _ (t : Tables) (valid : ValidTables t) (b : Broker) (m : Message) (buffer : List ℕ) (sound : Sound m) (kind : m.header.kind ≡ 1)
    (read : reading_of buffer ≡ answered m) (inside : b.rank < ranks_in t.tree) where
  abbrev way : Way
  way = request_way t.tree t.services b.rank m.header m.topic

  abbrev identity : List ℕ
  identity = identity_at t.identities b.rank

  is_route_lem : is_route identity ≡ true
  is_route_lem = (good_identities t.tree t.identities valid.identities).form b.rank inside

  step_as : {a : Answer Outcome} {w : Way} → way ≡ w → requested t b m w ≡ a → step_of t b buffer ≡ and_then a (room_for (length buffer))
  step_as w e =
      step_pass t b buffer valid.tree valid.services valid.identities
      ∙ pass_as t b buffer inside m read (routed_request t b m kind ∙ ap (requested t b m) w ∙ e)

  pub last_step : (end : End) → way ≡ way_of end → step_of t b buffer ≡ answered (end_outcome b.userid b.rolemask end m)
  last_step end w = step_as w (end_is t b m end) ∙ end_room t b m end (length buffer)

  -- where there is room for a route more
  module _ (few : length m.routes < 64) (short : length (body_of m) + 38 ≤ 32768) (long : 32776 ≤ length buffer) where
    grown : length (body_of (pushed identity m)) ≡ length (body_of m) + 38
    grown = body_grows m (sound_route m sound (inl kind)) identity m.routes (route_length_lem identity is_route_lem)

    small : too_large (pushed identity m) ≡ false
    small =
        or_neither (ltb 64 (length (identity ∷ m.routes))) (ltb 32768 (length (body_of (pushed identity m))))
        (le-ltb 64 (length (identity ∷ m.routes)) (omega arith)) (le-ltb 32768 (length (body_of (pushed identity m))) (omega (arith, grown)))

    pub next_fits : length (frame_of (pushed identity m)) ≤ length buffer
    next_fits = omega (arith, frame_long (pushed identity m), grown)

    pub next_sound : Sound (pushed identity m)
    next_sound = pushed_sound m sound (inl kind) identity is_route_lem small

    pub next_step : (next : ℕ) → way ≡ Forward next → step_of t b buffer ≡ answered (forwarded next (pushed identity m))
    next_step next w =
        let goes_on : requested t b m (Forward next) ≡ answered (forwarded next (pushed identity m)) = rw small in
        step_as w goes_on ∙ rw (le-ltb (length buffer) (length (frame_of (pushed identity m))) next_fits)

    pub next_grown : length (body_of (pushed identity m)) ≡ length (body_of m) + 38
    next_grown = grown

-- ---- all of them

-- the request and the buffer as the last broker gets them
abbrev pub at_end : List ℕ → ℕ → List ℕ → Message → Message
at_end identities r [] m = m
at_end identities r (s ∷ rs) m = at_end identities s rs (pushed (identity_at identities r) m)

abbrev pub buffer_at : List ℕ → ℕ → List ℕ → Message → List ℕ → List ℕ
buffer_at identities r [] m buffer = buffer
buffer_at identities r (s ∷ rs) m buffer =
    let n = pushed (identity_at identities r) m in
    buffer_at identities s rs n (cleared (frame_of n) buffer)

module _ (t : Tables) (valid : ValidTables t) (userid rolemask : ℕ) where
  abbrev at : ℕ → Broker
  at r = record { rank = r; userid = userid; rolemask = rolemask }

  pub request_run : (r : ℕ) (rs : List ℕ) (end : End) (m : Message) (buffer : List ℕ) →
      Leads (λ s. request_way t.tree t.services s m.header m.topic) (r ∷ rs) end → Linked t.tree (r ∷ rs) →
      Sound m → m.header.kind ≡ 1 → reading_of buffer ≡ answered m →
      length m.routes + length rs ≤ 64 → length (body_of m) + 38 * length rs ≤ 32768 → 32776 ≤ length buffer →
      Run t (at r) buffer (r ∷ rs) (answered (end_outcome userid rolemask end (at_end t.identities r rs m)))
      (left_after (end_outcome userid rolemask end (at_end t.identities r rs m)) (buffer_at t.identities r rs m buffer))
  request_run r [] end m buffer leads linked sound kind read few short long =
      rests (at r) buffer (answered (end_outcome userid rolemask end m))
      (last_step t valid (at r) m buffer sound kind read (linked_rank t.tree r [] linked) end (leads_ends (λ x. request_way t.tree t.services x m.header m.topic) r end leads))
      (end_rests t (at r) m end)
  request_run r (s ∷ rs) end m buffer leads linked sound kind read few short long =
      let b = at r in
      let inside = linked_rank t.tree r (s ∷ rs) linked in
      let n = pushed (identity_at t.identities r) m in
      let room : length m.routes < 64 = omega arith in
      let fits : length (body_of m) + 38 ≤ 32768 = omega arith in
      let grown = next_grown t valid b m buffer sound kind read inside room fits long in
      let whole = next_fits t valid b m buffer sound kind read inside room fits long in
      let next_is = next_sound t valid b m buffer sound kind read inside room fits long in
      let out = end_outcome userid rolemask end (at_end t.identities s rs n) in
      goes b buffer s n (s ∷ rs) (answered out) (left_after out (buffer_at t.identities s rs n (cleared (frame_of n) buffer)))
      (next_step t valid b m buffer sound kind read inside room fits long s (leads_here (λ x. request_way t.tree t.services x m.header m.topic) r s rs end leads))
      (request_run s rs end n (cleared (frame_of n) buffer) (leads_on (λ x. request_way t.tree t.services x m.header m.topic) r s rs end leads) (linked_on t.tree r s rs linked)
      next_is kind (read_cleared n next_is buffer) (omega arith) (omega (arith, grown)) (omega (arith, cleared-length (frame_of n) buffer whole)))

  -- the request at rest can be written
  pub end_sound : (r : ℕ) (rs : List ℕ) (m : Message) → Linked t.tree (r ∷ rs) → Sound m → m.header.kind ≡ 1 →
      length m.routes + length rs ≤ 64 → length (body_of m) + 38 * length rs ≤ 32768 → Sound (at_end t.identities r rs m)
  end_sound r [] m linked sound kind few short = sound
  end_sound r (s ∷ rs) m linked sound kind few short =
      let name = identity_at t.identities r in
      let route = (good_identities t.tree t.identities valid.identities).form r (linked_rank t.tree r (s ∷ rs) linked) in
      let grown : length (body_of (pushed name m)) ≡ length (body_of m) + 38 = body_grows m (sound_route m sound (inl kind)) name m.routes (route_length_lem name route) in
      let small =
      or_neither (ltb 64 (length (name ∷ m.routes))) (ltb 32768 (length (body_of (pushed name m))))
      (le-ltb 64 (length (name ∷ m.routes)) (omega arith)) (le-ltb 32768 (length (body_of (pushed name m))) (omega (arith, grown))) in
      end_sound s rs (pushed name m) (linked_on t.tree r s rs linked) (pushed_sound m sound (inl kind) name route small) kind (omega arith) (omega (arith, grown))

-- ---- what is left

-- the request at rest has the identities of all brokers but the last on top, the latest first
front_more : (r s : ℕ) (rs : List ℕ) → front (r ∷ s ∷ rs) ≡ r ∷ front (s ∷ rs)
front_more r s rs =
    let n = length rs in
    let one : suc (suc n) - 1 ≡ suc n = omega arith in
    let two : n ≡ suc n - 1 = omega arith in
    ap (λ (k : ℕ). take k (r ∷ s ∷ rs)) one ∙ ap (λ (k : ℕ). r ∷ take k (s ∷ rs)) two

rest_more : (identities : List ℕ) (r s : ℕ) (rs : List ℕ) (routes : List (List ℕ)) →
    routes_at_rest identities (s ∷ rs) (identity_at identities r ∷ routes) ≡ routes_at_rest identities (r ∷ s ∷ rs) routes
rest_more identities r s rs routes =
    let names : List ℕ → List (List ℕ) = map (λ rank. identity_at identities rank) in
    let above = names (front (s ∷ rs)) in
    sym (append_assoc (reverse above) (identity_at identities r ∷ []) routes)
    ∙ ap (λ (l : List (List ℕ)). l ++ routes) (sym (reverse_aux-eq above (identity_at identities r ∷ [])))
    ∙ ap (λ (l : List ℕ). reverse (names l) ++ routes) (sym (front_more r s rs))

pub at_end_lem : (identities : List ℕ) (r : ℕ) (rs : List ℕ) (m : Message) → at_end identities r rs m ≡ with_routes m (routes_at_rest identities (r ∷ rs) m.routes)
at_end_lem identities r [] m = refl
at_end_lem identities r (s ∷ rs) m =
    at_end_lem identities s rs (pushed (identity_at identities r) m) ∙ ap (with_routes m) (rest_more identities r s rs m.routes)

-- the buffer behind the first link holds its frame, and zeros behind that
module _ (t : Tables) (valid : ValidTables t) where
  grows : (r : ℕ) (m : Message) → r < ranks_in t.tree → has_route m.header.flags ≡ true → length (body_of (pushed (identity_at t.identities r) m)) ≡ length (body_of m) + 38
  grows r m inside group =
      body_grows m group (identity_at t.identities r) m.routes (route_length_lem (identity_at t.identities r) ((good_identities t.tree t.identities valid.identities).form r inside))

  buffer_at_lem : (r : ℕ) (rs : List ℕ) (m : Message) (buffer : List ℕ) → Linked t.tree (r ∷ rs) → has_route m.header.flags ≡ true →
      length (body_of m) + 38 * length rs ≤ 32768 → 32776 ≤ length buffer →
      buffer_at t.identities r rs m (cleared (frame_of m) buffer) ≡ cleared (frame_of (at_end t.identities r rs m)) buffer
  buffer_at_lem r [] m buffer linked group short long = refl
  buffer_at_lem r (s ∷ rs) m buffer linked group short long =
      let name = identity_at t.identities r in
      let n = pushed name m in
      let grown = grows r m (linked_rank t.tree r (s ∷ rs) linked) group in
      ap (buffer_at t.identities s rs n) (cleared_again (frame_of n) (frame_of m) buffer (omega (arith, frame_long m)))
      ∙ buffer_at_lem s rs n buffer (linked_on t.tree r s rs linked) group (omega (arith, grown)) long

  pub buffer_behind : (r s : ℕ) (rs : List ℕ) (m : Message) (buffer : List ℕ) → Linked t.tree (r ∷ s ∷ rs) → has_route m.header.flags ≡ true →
      length (body_of m) + 38 * length (s ∷ rs) ≤ 32768 → 32776 ≤ length buffer →
      buffer_at t.identities r (s ∷ rs) m buffer ≡ cleared (frame_of (at_end t.identities r (s ∷ rs) m)) buffer
  buffer_behind r s rs m buffer linked group short long =
      let grown = grows r m (linked_rank t.tree r (s ∷ rs) linked) group in
      buffer_at_lem s rs (pushed (identity_at t.identities r) m) buffer (linked_on t.tree r s rs linked) group (omega (arith, grown)) long
