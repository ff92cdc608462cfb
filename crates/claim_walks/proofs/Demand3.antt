-- Demand 3. The path is followed (the crate walk_path's `followed`), so the request's steps are a run along it (There), and the response's a run back
-- (Homeward); a run is what the C calls make (Stepping).
use Rattle.std.specs.Prelude.{Some}
use mathlib.Core.Path.{◌≡◌, refl, sym, ap, ◌∙◌, subst, subst⁻¹}
use mathlib.Core.Bool.{Bool, true, false, cond, ◌&&◌}
use mathlib.Core.Logic.{◌⊎◌, inl, ⊎_elim}
use Prim.Native.Nat.{ℕ, suc, ◌+◌, ◌-◌, ◌*◌, ◌≤◌}
use mathlib.Core.List.{List, [], ◌∷◌, ◌++◌, map, reverse, reverse_aux, reverse-append}
use native.Mathlib.Omega.{arith}
use borrow.Author.Tests.{ne_eqb}
use lib.Dec.{eqb}
use lib.ListN.{length}
use lib.Seq.{length-take-le}
use Rattle.bytes_number.specs.Number.{Bytes}
use Rattle.bytes_number.proofs.Truth.{outcome}
use Rattle.refusal.specs.Answer.{answered}
use Rattle.frame_message.specs.Header.{no_response, has_route}
use Rattle.frame_message.specs.Message.{Message}
use Rattle.frame_message.specs.Frame.{body_of, frame_of}
use Rattle.frame_message.specs.Reading.{front, final}
use Rattle.frame_message.specs.Writing.{writing}
use Rattle.frame_message.proofs.Lists.{front-final}
use Rattle.table_services_find.specs.Lookup.{service_of, registered_as}
use Rattle.table_services_find.proofs.Lookup.{found_holds}
use Rattle.table_identities.specs.Identities.{identity_at}
use Rattle.walk_path.specs.Path.{End, delivers, fails, Path, path_of, links_of, tree_depth}
use Rattle.walk_path.specs.WorkingLeading.{Leads, Linked}
use Rattle.walk_path.proofs.Chains.{tree_depth_most}
use Rattle.walk_path.proofs.Leading.{followed}
use Rattle.frame_rewrite.specs.Renewed.{cleared}
use Rattle.step_routing.specs.Requests.{request_way}
use Rattle.call_specs.specs.Calls.{broker_as}
use Rattle.step_routing.specs.Messages.{Owner, with_routes, error_reply}
use Rattle.step_routing.specs.Routed.{Tables, Outcome, delivered, replied, silenced, home, ValidTables}
use Rattle.step_routing.proofs.Made.{reply_writable}
use Rattle.step_routing.specs.declared.Stepped.{Stepped}
use Rattle.step_routing.specs.declared.Stepped.TheVariants.{Home}
use Rattle.step_pass.specs.Step.{left_after, stepped_of}
use Rattle.frame_message.proofs.Frames.{frame_long}
use Rattle.step_pass.proofs.Keeping.{Sound, sound_read, sound_route, sound_short}
use Rattle.walk.specs.Runs.{Run}
use Rattle.claim_walks.specs.Demand3.{Enters, Responds, Goes, routes_at_rest, answer_at, message_at, as_on_entry, left_of, ThereAndHome, DemandThree}
use Rattle.claim_walks.proofs.Stepping.{run_goes}
use Rattle.claim_walks.proofs.There.{end_outcome, at_end, buffer_at, request_run, end_sound, at_end_lem, buffer_behind, cleared_again}
use Rattle.claim_walks.proofs.Homeward.{BackLinked, home_buffer, response_run, home_sound, home_left_of, back_linked}

-- ---- what the last broker's outcome says and leaves

abbrev outcome_of : Owner → End → Message → Outcome
outcome_of owner = end_outcome owner.userid owner.rolemask

end_told : (owner : Owner) (end : End) (m : Message) → stepped_of (outcome_of owner end m) ≡ answer_at end (no_response m.header.flags)
end_told owner (delivers number) m = refl
end_told owner (fails errnum) m = ⊎_elim (λ q. rw q) (λ l. rw l) (outcome (no_response m.header.flags))

-- an error, by whether noresponse is set: on 0 links, and on more
error_none : (quiet : Bool) (errnum : ℕ) (m reply : Message) (links : ℕ) (buffer : List ℕ) → eqb links 0 ≡ true →
    left_after (cond quiet (silenced errnum) (replied errnum reply)) buffer ≡ left_of (quiet && eqb links 0) (cond quiet m reply) buffer
error_none true errnum m reply links buffer none = rw none
error_none false errnum m reply links buffer none = refl

error_some : (quiet : Bool) (errnum : ℕ) (m reply : Message) (links : ℕ) (buffer : List ℕ) → eqb links 0 ≡ false → length (frame_of m) ≤ length buffer →
    left_after (cond quiet (silenced errnum) (replied errnum reply)) (cleared (frame_of m) buffer) ≡ left_of (quiet && eqb links 0) (cond quiet m reply) buffer
error_some true errnum m reply links buffer some fits = rw some
error_some false errnum m reply links buffer some fits = cleared_again (frame_of reply) (frame_of m) buffer fits

-- on 0 links
end_left_none : (owner : Owner) (end : End) (m : Message) (links : ℕ) (buffer : List ℕ) → eqb links 0 ≡ true →
    left_after (outcome_of owner end m) buffer ≡ left_of (as_on_entry end (no_response m.header.flags) links) (message_at owner end m) buffer
end_left_none owner (delivers number) m links buffer none = rw none
end_left_none owner (fails errnum) m links buffer none = error_none (no_response m.header.flags) errnum m (error_reply owner.userid owner.rolemask errnum m) links buffer none

-- on more
end_left_some : (owner : Owner) (end : End) (m : Message) (links : ℕ) (buffer : List ℕ) → eqb links 0 ≡ false → length (frame_of m) ≤ length buffer →
    left_after (outcome_of owner end m) (cleared (frame_of m) buffer) ≡ left_of (as_on_entry end (no_response m.header.flags) links) (message_at owner end m) buffer
end_left_some owner (delivers number) m links buffer some fits = rw some
end_left_some owner (fails errnum) m links buffer some fits = error_some (no_response m.header.flags) errnum m (error_reply owner.userid owner.rolemask errnum m) links buffer some fits

end_writes : (owner : Owner) (end : End) (m : Message) → Sound m → m.header.kind ≡ 1 → writing (message_at owner end m) ≡ answered (frame_of (message_at owner end m))
end_writes owner (delivers number) m sound kind = sound.writes
end_writes owner (fails errnum) m sound kind =
    ⊎_elim (λ q. rw q sound.writes) (λ l. rw l (reply_writable m sound.writes (inl kind) owner.userid owner.rolemask errnum)) (outcome (no_response m.header.flags))

-- ---- lists

reverse_final : (r : ℕ) (rs : List ℕ) → reverse (r ∷ rs) ≡ final 0 (r ∷ rs) ∷ reverse (front (r ∷ rs))
reverse_final r rs =
    let xs = r ∷ rs in
    ap reverse (sym (front-final 0 xs (omega arith))) ∙ reverse-append (front xs) (final 0 xs ∷ [])

map_aux : (f : ℕ → List ℕ) (xs ys : List ℕ) → map f (reverse_aux xs ys) ≡ reverse_aux (map f xs) (map f ys)
map_aux f [] ys = refl
map_aux f (x ∷ xs) ys = map_aux f xs (x ∷ ys)

length_aux : (xs ys : List ℕ) → length (reverse_aux xs ys) ≡ length xs + length ys
length_aux [] ys = omega arith
length_aux (x ∷ xs) ys = length_aux xs (x ∷ ys) ∙ omega arith

front_length_lem : (r : ℕ) (rs : List ℕ) → length (reverse (front (r ∷ rs))) ≡ length rs
front_length_lem r rs =
    let cut : length (front (r ∷ rs)) ≡ suc (length rs) - 1 = length-take-le (suc (length rs) - 1) (r ∷ rs) (omega arith) in
    length_aux (front (r ∷ rs)) [] ∙ omega (arith, cut)

-- ---- what is left at the end of the path

left_along : (t : Tables) (owner : Owner) → ValidTables t → (entry : ℕ) (rest : List ℕ) (m : Message) (buffer : List ℕ) (end : End) → Linked t.tree (entry ∷ rest) → has_route m.header.flags ≡ true →
    length (body_of m) + 38 * length rest ≤ 32768 → 32776 ≤ length buffer →
    length (frame_of (with_routes m (routes_at_rest t.identities (entry ∷ rest) m.routes))) ≤ length buffer →
    left_after (outcome_of owner end (with_routes m (routes_at_rest t.identities (entry ∷ rest) m.routes))) (buffer_at t.identities entry rest m buffer)
    ≡ left_of (as_on_entry end (no_response m.header.flags) (length (entry ∷ rest) - 1)) (message_at owner end (with_routes m (routes_at_rest t.identities (entry ∷ rest) m.routes))) buffer
left_along t owner valid entry [] m buffer end linked group short long fits = end_left_none owner end m 0 buffer refl
left_along t owner valid entry (s ∷ rs) m buffer end linked group short long fits =
    let rested = with_routes m (routes_at_rest t.identities (entry ∷ s ∷ rs) m.routes) in
    let at_rest = buffer_behind t valid entry s rs m buffer linked group short long ∙ ap (λ (x : Message). cleared (frame_of x) buffer) (at_end_lem t.identities entry (s ∷ rs) m) in
    let some : eqb (length (entry ∷ s ∷ rs) - 1) 0 ≡ false = ne_eqb (length (entry ∷ s ∷ rs) - 1) 0 (λ e. omega arith) in
    ap (left_after (outcome_of owner end rested)) at_rest ∙ end_left_some owner end rested (length (entry ∷ s ∷ rs) - 1) buffer some fits

-- ---- both walks, on a path that is followed

module _ (t : Tables) (owner : Owner) (entry : ℕ) (buffer : List ℕ) (m : Message) (enters : Enters t entry buffer m) (bytes : Bytes buffer)
    (rest : List ℕ) (end : End)
    (leads : Leads (λ r. request_way t.tree t.services r m.header m.topic) (entry ∷ rest) end) (linked : Linked t.tree (entry ∷ rest))
    (few : length (entry ∷ rest) ≤ 2 * tree_depth t.tree + 1) where
  valid : ValidTables t
  valid = enters.tables

  sound : Sound m
  sound = sound_read buffer m bytes enters.held.read

  kind : m.header.kind ≡ 1
  kind = enters.held.typed

  long : 32776 ≤ length buffer
  long = omega (arith, enters.held.room)

  links_few : length rest ≤ 32
  links_few = omega (arith, few, tree_depth_most t.tree valid.tree)

  routes_fit : length m.routes + length rest ≤ 64
  routes_fit = omega (arith, links_few, enters.few)

  body_fits_lem : length (body_of m) + 38 * length rest ≤ 32768
  body_fits_lem = omega (arith, links_few, enters.short)

  abbrev rested : Message
  rested = with_routes m (routes_at_rest t.identities (entry ∷ rest) m.routes)

  rested_is : at_end t.identities entry rest m ≡ rested
  rested_is = at_end_lem t.identities entry rest m

  pub rested_sound : Sound rested
  rested_sound = subst (λ (x : Message). Sound x) rested_is (end_sound t valid owner.userid owner.rolemask entry rest m linked sound kind routes_fit body_fits_lem)

  abbrev path : Path
  path = record { brokers = entry ∷ rest; end = end }

  abbrev quiet : Bool
  quiet = no_response m.header.flags

  abbrev left : List ℕ
  left = left_of (as_on_entry end quiet (links_of path)) (message_at owner end rested) buffer

  request_goes : Goes t owner entry buffer (entry ∷ rest) (answer_at end quiet) left
  request_goes =
      let o = outcome_of owner end rested in
      let ranks = entry ∷ rest in
      let along = request_run t valid owner.userid owner.rolemask entry rest end m buffer leads linked sound kind enters.held.read routes_fit body_fits_lem long in
      let first = broker_as owner entry in
      let there = subst (λ (x : Message). Run t first buffer ranks (answered (outcome_of owner end x)) (left_after (outcome_of owner end x) (buffer_at t.identities entry rest m buffer))) rested_is along in
      let leaves = left_along t owner valid entry rest m buffer end linked (sound_route m sound (inl kind)) body_fits_lem long (omega (arith, frame_long rested, sound_short rested rested_sound, long)) in
      let run = subst (λ (l : List ℕ). Run t first buffer ranks (answered o) l) leaves there in
      subst (λ (s : Stepped). Goes t owner entry buffer ranks s left) (end_told owner end rested)
      (run_goes t owner entry buffer ranks left o
      run
      long (omega (arith, links_few)))

  -- ---- and home

  module _ (back : List ℕ) (n : Message) (reply_sound : Sound n) (responds : Responds (routes_at_rest t.identities (entry ∷ rest) m.routes) m back n) where
    back_long : 32776 ≤ length back
    back_long = omega (arith, responds.held.room)

    abbrev behind : List ℕ
    behind = reverse (front (entry ∷ rest))

    stack : n.routes ≡ map (λ rank. identity_at t.identities rank) behind ++ m.routes
    stack = responds.routes ∙ ap (λ (l : List (List ℕ)). l ++ m.routes) (sym (map_aux (λ rank. identity_at t.identities rank) (front (entry ∷ rest)) []))

    way_back : reverse (entry ∷ rest) ≡ final 0 (entry ∷ rest) ∷ behind
    way_back = reverse_final entry rest

    back_left : home_buffer behind n m.routes back ≡ left_of (eqb (links_of path) 0) (with_routes n m.routes) back
    back_left =
        let count : length behind ≡ links_of path = front_length_lem entry rest ∙ omega arith in
        home_left_of behind n m.routes back ∙ ap (λ (k : ℕ). left_of (eqb k 0) (with_routes n m.routes) back) count

    pub response_goes : Goes t owner (final 0 (entry ∷ rest)) back (reverse (entry ∷ rest)) Home (left_of (eqb (links_of path) 0) (with_routes n m.routes) back)
    response_goes =
        let last = final 0 (entry ∷ rest) in
        let linked-back = subst (λ (l : List ℕ). BackLinked t.tree l) way_back (back_linked t.tree entry rest linked) in
        let run : Run t (broker_as owner last) back (last ∷ behind) (answered home) (home_buffer behind n m.routes back) =
        response_run t valid owner.userid owner.rolemask m.routes enters.stranger last behind n back linked-back stack reply_sound responds.held.typed responds.held.read back_long in
        subst⁻¹ (λ (l : List ℕ). Goes t owner last back l Home (left_of (eqb (links_of path) 0) (with_routes n m.routes) back)) way_back
        (subst (λ (l : List ℕ). Goes t owner last back (last ∷ behind) Home l) back_left
        (run_goes t owner last back (last ∷ behind) (home_buffer behind n m.routes back) home run back_long (omega (arith, front_length_lem entry rest, links_few))))

    response_written : writing (with_routes n m.routes) ≡ answered (frame_of (with_routes n m.routes))
    response_written = (home_sound t valid owner.userid owner.rolemask m.routes enters.stranger behind n stack reply_sound responds.held.typed).writes

  pub both_walks : (back : List ℕ) → Bytes back → ((number : ℕ) → end ≡ delivers number → registered_as t.services (final 0 (entry ∷ rest)) (service_of m.topic) ≡ Some number) →
      ThereAndHome t owner entry buffer m path back
  both_walks back back-bytes ends =
      record {
        there = request_goes;
        entered = (rest, refl);
        few_links = omega (arith, few);
        delivered = λ number e.
            let holds = found_holds t.services (final 0 (entry ∷ rest)) (service_of m.topic) number (ends number e) in
            record { within = holds.0; rank = holds.1; name = holds.2 };
        written = end_writes owner end rested rested_sound kind;
        home = λ n responds.
            let whole = sound_read back n back-bytes responds.held.read in
            (response_goes back n whole responds, response_written back n whole responds);
      }

-- ---- the path of a request that enters is followed

pub record Along (t : Tables) (entry : ℕ) (m : Message) (path : Path) : Type 0 where
  pub rest : List ℕ
  pub starts : path ≡ record { brokers = entry ∷ rest; end = path.end }
  pub leads : Leads (λ r. request_way t.tree t.services r m.header m.topic) (entry ∷ rest) path.end
  pub linked : Linked t.tree (entry ∷ rest)
  pub few : length (entry ∷ rest) ≤ 2 * tree_depth t.tree + 1
  pub ends : (number : ℕ) → path.end ≡ delivers number → registered_as t.services (final 0 (entry ∷ rest)) (service_of m.topic) ≡ Some number

abbrev pub path_in : Tables → ℕ → Message → Path
path_in t entry m = path_of t.tree t.services entry m.header m.topic

pub along : (t : Tables) (entry : ℕ) (buffer : List ℕ) (m : Message) → Enters t entry buffer m → Along t entry m (path_in t entry m)
along t entry buffer m enters =
    let path = path_in t entry m in
    let f = followed t.tree t.services entry m.header m.topic enters.tables.tree enters.inside in
    record {
      rest = f.rest;
      starts = λ i. record { brokers = f.starts i; end = path.end };
      leads = subst (λ (l : List ℕ). Leads (λ r. request_way t.tree t.services r m.header m.topic) l path.end) f.starts f.leads;
      linked = subst (λ (l : List ℕ). Linked t.tree l) f.starts f.linked;
      few = subst (λ (l : List ℕ). length l ≤ 2 * tree_depth t.tree + 1) f.starts f.few;
      ends = subst (λ (l : List ℕ). (number : ℕ) → path.end ≡ delivers number → registered_as t.services (final 0 l) (service_of m.topic) ≡ Some number) f.starts f.ends;
    }

-- "A release with step and walk has this whole, or it isn't a release."
pub demand_three : (t : Tables) (owner : Owner) (entry : ℕ) (buffer back : List ℕ) → Bytes buffer → Bytes back → DemandThree t owner entry buffer back
demand_three t owner entry buffer back bytes back-bytes m enters =
    let path = path_in t entry m in
    let f = along t entry buffer m enters in
    subst⁻¹ (λ (p : Path). ThereAndHome t owner entry buffer m p back) f.starts
    (both_walks t owner entry buffer m enters bytes f.rest path.end f.leads f.linked f.few back back-bytes f.ends)
