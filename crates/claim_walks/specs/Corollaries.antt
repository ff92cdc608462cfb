-- What follows from demand 3, and what a walk is in any case.
use Rattle.std.specs.Prelude.{◌≡◌, false, ℕ, ◌≤◌, List, reverse, eqb, length}
use Rattle.frame_message.specs.Header.{no_response}
use Rattle.frame_message.specs.Message.{Message}
use Rattle.frame_message.specs.Frame.{frame_of}
use Rattle.frame_message.specs.Reading.{final}
use Rattle.walk_path.specs.Path.{fails, Path, path_of, links_of}
use Rattle.frame_rewrite.specs.Renewed.{cleared}
use Rattle.step_routing.specs.declared.Broker.{Broker}
use Rattle.step_routing.specs.Messages.{Owner, with_routes, error_reply}
use Rattle.step_routing.specs.Routed.{Tables}
use Rattle.step_routing.specs.declared.Stepped.TheVariants.{Home}
use Rattle.walk.specs.Walk.{least_buffer, walk_of}
use Rattle.walk.specs.Runs.{IsRun}
use Rattle.claim_walks.specs.Demand3.{Enters, Responds, Goes, routes_at_rest, message_at, as_on_entry, left_of}

-- ---- "an error reply left at rest is one such response"

-- where a request with noresponse clear ends in an error on the path p: the reply that it left is such a response, in the buffer as it was left, and
-- comes home
pub record ReplyComesHome (t : Tables) (owner : Owner) (buffer : List ℕ) (m : Message) (p : Path) (errnum : ℕ) : Type 0 where
  -- what the request's walk leaves is the reply's frame, and zeros behind it
  pub rests :
      let rested = with_routes m (routes_at_rest t.identities p.brokers m.routes) in
      left_of (as_on_entry p.end (no_response m.header.flags) (links_of p)) (message_at owner p.end rested) buffer
      ≡ cleared (frame_of (error_reply owner.userid owner.rolemask errnum rested)) buffer
  pub responds :
      let routes = routes_at_rest t.identities p.brokers m.routes in
      let reply = error_reply owner.userid owner.rolemask errnum (with_routes m routes) in
      Responds routes m (cleared (frame_of reply) buffer) reply
  pub goes :
      let reply = error_reply owner.userid owner.rolemask errnum (with_routes m (routes_at_rest t.identities p.brokers m.routes)) in
      let left = cleared (frame_of reply) buffer in
      Goes t owner (final 0 p.brokers) left (reverse p.brokers) Home (left_of (eqb (links_of p) 0) (with_routes reply m.routes) left)

-- of an owner whose userid and rolemask have four bytes, as those of every call have: a reply's frame holds no more of them
abbrev pub EveryReplyComesHome : Tables → Owner → ℕ → List ℕ → Type 0
EveryReplyComesHome t owner entry buffer =
    (m : Message) → Enters t entry buffer m → no_response m.header.flags ≡ false →
    (errnum : ℕ) → (path_of t.tree t.services entry m.header m.topic).end ≡ fails errnum →
    ReplyComesHome t owner buffer m (path_of t.tree t.services entry m.header m.topic) errnum

-- ---- every walk that meets the premises crosses at most 32 links

abbrev pub AtMost32Links : Tables → ℕ → List ℕ → Type 0
AtMost32Links t entry buffer = (m : Message) → Enters t entry buffer m → links_of (path_of t.tree t.services entry m.header m.topic) ≤ 32

-- ---- and whatever the tables and the buffer hold: "A walk repeats steps .. until an answer other than 2 or a refusal. It reports that answer, the rank
-- and the links crossed; its buffer is what the steps in turn leave."

abbrev pub EveryWalkIsRun : Tables → Broker → List ℕ → Type 0
EveryWalkIsRun t b buffer = least_buffer ≤ length buffer → IsRun t b buffer (walk_of t b buffer)
