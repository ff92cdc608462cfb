-- What follows from demand 3, by its parts; and that a walk is a run, by the law of the crate walk.
use Rattle.std.specs.Prelude.{Option, None, Some}
use mathlib.Core.Path.{◌≡◌, refl, ap, ◌∙◌, subst⁻¹}
use mathlib.Core.Bool.{Bool, true, false, cond}
use mathlib.Core.Logic.{inl}
use Prim.Native.Nat.{ℕ, ◌-◌, ◌<◌, ◌≤◌}
use mathlib.Core.List.{List, ◌∷◌}
use native.Mathlib.Omega.{arith}
use lib.Dec.{eqb, ltb}
use lib.ListN.{length}
use Rattle.bytes_number.specs.Number.{Bytes}
use Rattle.frame_message.specs.Header.{no_response, is_upstream}
use Rattle.frame_message.specs.Message.{Message}
use Rattle.frame_message.specs.Frame.{frame_of}
use Rattle.frame_message.specs.Reading.{final}
use Rattle.table_tree.specs.Tree.{ranks_in}
use Rattle.walk_path.specs.Path.{End, fails, Path, record_of, served_at, up_path, rank_path, end_at, ending, stopping, any_path, upstream_path, target_path, path_of, links_of}
use Rattle.walk_path.proofs.Chains.{tree_depth_most}
use Rattle.frame_rewrite.specs.Renewed.{cleared}
use Rattle.step_routing.specs.declared.Broker.{Broker}
use Rattle.step_routing.specs.Messages.{Owner, with_routes, error_reply}
use Rattle.step_routing.specs.Routed.{Tables}
use Rattle.frame_message.proofs.Frames.{frame_long}
use Rattle.step_pass.proofs.Keeping.{sound_short, reply_sound, read_cleared}
use Rattle.walk.specs.Walk.{Walk}
use Rattle.walk.specs.Runs.{IsRun}
use Rattle.walk.proofs.Walking.{walk_whole}
use Rattle.walk.proofs.Running.{walk_is_run}
use Rattle.claim_walks.specs.Demand3.{Responds, routes_at_rest, message_at, as_on_entry, left_of}
use Rattle.claim_walks.specs.Corollaries.{ReplyComesHome, EveryReplyComesHome, AtMost32Links, EveryWalkIsRun}
use Rattle.claim_walks.proofs.There.{cleared-length}
use Rattle.claim_walks.proofs.Demand3.{rested_sound, response_goes, along, path_in}

-- ---- a path's error is a small number

found_error : (found : Option ℕ) (errnum : ℕ) → end_at found ≡ fails errnum → errnum ≤ 113
found_error (Some number) errnum e = absurd (let z : ◌≡◌ {A = ℕ} 0 1 = cc in omega arith)
found_error None errnum e = let same : errnum ≡ 38 = cc in omega arith

stop_error : {n : ℕ} (errnum : ℕ) → n ≤ 113 → fails n ≡ fails errnum → errnum ≤ 113
stop_error {n} errnum h e = let same : errnum ≡ n = cc in omega arith

-- either way of a test
either_error : (test : Bool) (p q : Path) (errnum : ℕ) → (p.end ≡ fails errnum → errnum ≤ 113) → (q.end ≡ fails errnum → errnum ≤ 113) → (cond test p q).end ≡ fails errnum → errnum ≤ 113
either_error true p q errnum f g e = f e
either_error false p q errnum f g e = g e

path_error : (t : Tables) (entry : ℕ) (m : Message) (errnum : ℕ) → (path_in t entry m).end ≡ fails errnum → errnum ≤ 113
unfolding path_of
path_error t entry m errnum =
    let h = m.header in
    let up = upstream_path t.tree t.services m.topic entry h.first in
    let named = target_path t.tree t.services m.topic entry h.first in
    let record-at = record_of t.services m.topic in
    let skipping = served_at t.services m.topic h.first in
    let found : (serves : ℕ → Option ℕ) (brokers : List ℕ) → (ending serves brokers).end ≡ fails errnum → errnum ≤ 113 = λ serves brokers. found_error (serves (final 0 brokers)) errnum in
    either_error (eqb h.first 4294967295) (any_path t.tree t.services m.topic entry) (cond (is_upstream h.flags) up named) errnum
    (found record-at (up_path t.tree record-at entry))
    (either_error (is_upstream h.flags) up named errnum
    (found skipping (up_path t.tree skipping entry))
    (either_error (ltb h.first (ranks_in t.tree)) (ending record-at (rank_path t.tree entry h.first)) (stopping entry 113) errnum
    (found record-at (rank_path t.tree entry h.first)) (stop_error errnum (omega arith))))

-- ---- the reply comes home

reply_rests : (owner : Owner) (end : End) (m : Message) (links : ℕ) (buffer : List ℕ) (errnum : ℕ) → end ≡ fails errnum → no_response m.header.flags ≡ false →
    left_of (as_on_entry end (no_response m.header.flags) links) (message_at owner end m) buffer ≡ cleared (frame_of (error_reply owner.userid owner.rolemask errnum m)) buffer
reply_rests owner end m links buffer errnum e loud =
    ap (λ (x : End). left_of (as_on_entry x (no_response m.header.flags) links) (message_at owner x m) buffer) e ∙ rw loud

pub every_reply_comes_home : (t : Tables) (owner : Owner) → owner.userid < 4294967296 → owner.rolemask < 4294967296 → (entry : ℕ) (buffer : List ℕ) → Bytes buffer → EveryReplyComesHome t owner entry buffer
every_reply_comes_home t owner user roles entry buffer bytes m enters loud errnum fails-so =
    let path = path_in t entry m in
    let f = along t entry buffer m enters in
    let ranks = entry ∷ f.rest in
    let routes = routes_at_rest t.identities ranks m.routes in
    let rested = with_routes m routes in
    let sound = rested_sound t owner entry buffer m enters bytes f.rest path.end f.leads f.linked f.few in
    let reply = error_reply owner.userid owner.rolemask errnum rested in
    let made = reply_sound rested sound (inl enters.held.typed) owner.userid owner.rolemask errnum user roles (omega (arith, path_error t entry m errnum fails-so)) in
    let fits : length (frame_of reply) ≤ length buffer = omega (arith, frame_long reply, sound_short reply made, enters.held.room) in
    let left = cleared (frame_of reply) buffer in
    let responds : Responds routes m left reply =
    record {
      held = record { room = omega (arith, cleared-length (frame_of reply) buffer fits, enters.held.room); read = read_cleared reply made buffer; typed = refl };
      routes = refl;
      topic = refl;
      matchtag = refl;
    } in
    subst⁻¹ (λ (p : Path). ReplyComesHome t owner buffer m p errnum) f.starts
    (record {
      rests = reply_rests owner path.end rested (length ranks - 1) buffer errnum fails-so loud;
      responds = responds;
      goes = response_goes t owner entry buffer m enters bytes f.rest path.end f.leads f.linked f.few left reply made responds;
    })

-- ---- links

pub at_most_32_links : (t : Tables) (entry : ℕ) (buffer : List ℕ) → AtMost32Links t entry buffer
at_most_32_links t entry buffer m enters =
    let f = along t entry buffer m enters in
    let most = subst⁻¹ (λ (p : Path). links_of p ≤ 32) f.starts (omega (arith, f.few, tree_depth_most t.tree enters.tables.tree)) in
    omega (arith, most)

-- ---- a walk is a run

pub every_walk_is_run : (t : Tables) (b : Broker) (buffer : List ℕ) → Bytes buffer → EveryWalkIsRun t b buffer
every_walk_is_run t b buffer bytes long = subst⁻¹ (λ (w : Walk). IsRun t b buffer w) (walk_whole t b buffer (omega (arith, long))) (walk_is_run t b buffer bytes 0)
