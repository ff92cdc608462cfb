-- Demand 2 of one broker's step, rule by rule: each answer comes exactly in the case that the paper names. A rule speaks of the tables, the broker, the
-- message and an answer a; that the answer of `routed` (the crate step_routing's specs/Routed.antt) meets all of them, and no other does, are the claims at
-- the end.
use Rattle.std.specs.Prelude.{◌≡◌, true, false, cond, ◌⊎◌, ◌↔◌, ℕ, ◌+◌, ◌<◌, ◌≤◌, List, [], ◌∷◌, length}
use Rattle.frame_message.specs.declared.Header.{Header}
use Rattle.refusal.specs.declared.Refusal.{Refusal}
use Rattle.refusal.specs.declared.Refusal.TheVariants.{ForwardLong, NotRouted, NoNeighbour}
use Rattle.refusal.specs.Answer.{Answer, refused, answered}
use Rattle.frame_message.specs.Header.{no_response, is_upstream, is_streaming}
use Rattle.frame_message.specs.Message.{Message}
use Rattle.frame_message.specs.Frame.{body_of, frame_of}
use Rattle.frame_message.specs.Writing.{writing}
use Rattle.table_tree.specs.Tree.{ranks_in, parent_of}
use Rattle.table_tree_hops.specs.Towards.{towards}
use Rattle.table_services.specs.Services.{services_in, service_at, rank_in, name_in}
use Rattle.table_services_find.specs.Lookup.{service_of}
use Rattle.table_identities.specs.Identities.{identity_at, same_identity}
use Rattle.step_routing.specs.declared.Broker.{Broker}
use Rattle.step_routing.specs.Requests.{any_rank}
use Rattle.step_routing.specs.Routed.{Tables, ValidTables, Outcome, delivered, forwarded, replied, silenced, home, routed}

-- ---- for whom the rules hold

-- the tables are valid, and the broker's rank is one of the tree: no 17
pub record Right (t : Tables) (b : Broker) : Type 0 where
  pub tables : ValidTables t
  pub rank : b.rank < ranks_in t.tree

-- "A valid request or response is a frame of type 1 or 2 to which no number in the reader's order applies": a message of that type that can be written
pub record Valid (type : ℕ) (m : Message) : Type 0 where
  pub typed : m.header.kind ≡ type
  pub writable : writing m ≡ answered (frame_of m)

-- "a neighbour (parent or child)", of a rank of the tree
pub data Neighbour (t : Tables) (b : Broker) (rank : ℕ) : Type 0 where
  parent : parent_of t.tree b.rank ≡ rank → Neighbour t b rank
  child : parent_of t.tree rank ≡ b.rank → Neighbour t b rank

-- ---- which request it is

-- "nodeid 4294967295"
abbrev pub ForAny : Message → Type 0
ForAny m = m.header.first ≡ any_rank

-- "other nodeid, upstream clear"
pub record ForRank (m : Message) : Type 0 where
  pub other : m.header.first ≡ any_rank → ⊥
  pub clear : is_upstream m.header.flags ≡ false

-- "other nodeid, upstream set"
pub record Upstream (m : Message) : Type 0 where
  pub other : m.header.first ≡ any_rank → ⊥
  pub set : is_upstream m.header.flags ≡ true

-- ---- who registers its service

-- "this rank registers the service": the record with this number, "counted from 0", has this rank and the whole service for its name
pub record Registers (t : Tables) (b : Broker) (m : Message) (number : ℕ) : Type 0 where
  pub within : number < services_in t.services
  pub rank : rank_in (service_at t.services number) ≡ b.rank
  pub name : name_in (service_at t.services number) ≡ service_of m.topic

-- no record does
abbrev pub Unregistered : Tables → Broker → Message → Type 0
Unregistered t b m = (number : ℕ) → Registers t b m number → ⊥

-- for which requests a broker tries its own services
pub data Tries (b : Broker) (m : Message) : Type 0 where
  -- "nodeid 4294967295: deliver if this rank registers the service .. The upstream flag is ignored here."
  any : ForAny m → Tries b m
  -- "other nodeid, upstream set: as for 4294967295", where "the broker whose rank equals nodeid is skipped, and no other" (paper 02, ticket 3)
  upstream : Upstream m → (b.rank ≡ m.header.first → ⊥) → Tries b m
  -- "other nodeid, upstream clear: .. At the target: deliver, or error 38"
  target : ForRank m → m.header.first ≡ b.rank → Tries b m

-- ---- where a request goes that is not delivered

-- which requests go up
pub data GoesUp (t : Tables) (b : Broker) (m : Message) : Type 0 where
  -- "deliver if this rank registers the service, else forward to the parent; at rank 0, error 38"
  any : ForAny m → Unregistered t b m → GoesUp t b m
  -- "as for 4294967295"
  upstream : Upstream m → Unregistered t b m → GoesUp t b m
  -- "the broker whose rank equals nodeid is skipped"
  skipped : Upstream m → b.rank ≡ m.header.first → GoesUp t b m

-- to which broker a request is to be forwarded
pub data GoesTo (t : Tables) (b : Broker) (m : Message) (next : ℕ) : Type 0 where
  -- "else forward to the parent"
  up : GoesUp t b m → (b.rank ≡ 0 → ⊥) → next ≡ parent_of t.tree b.rank → GoesTo t b m next
  -- "Otherwise forward to the next broker on the tree path.": that `towards` is this broker is the claim `EveryWay` (claim_tables/specs/Ways.antt)
  ahead : ForRank m → m.header.first < ranks_in t.tree → (m.header.first ≡ b.rank → ⊥) → next ≡ towards t.tree b.rank m.header.first → GoesTo t b m next

-- when no service is there
pub data NoService (t : Tables) (b : Broker) (m : Message) : Type 0 where
  -- "at rank 0, error 38"
  top : GoesUp t b m → b.rank ≡ 0 → NoService t b m
  -- "At the target: deliver, or error 38."
  target : ForRank m → m.header.first ≡ b.rank → Unregistered t b m → NoService t b m

-- when no rank is there: "other nodeid, upstream clear: a rank not in the tree gives error 113 at once"
pub record Unreachable (t : Tables) (m : Message) : Type 0 where
  pub named : ForRank m
  pub outside : ranks_in t.tree ≤ m.header.first

-- ---- delivery, 38 and 113

-- "3 error reply made, with the error number; 4 silenced (an error was due, noresponse set), with that number"
pub data ErrorDue (a : Answer Outcome) (errnum : ℕ) : Type 0 where
  made : (reply : Message) → a ≡ answered (replied errnum reply) → ErrorDue a errnum
  silent : a ≡ answered (silenced errnum) → ErrorDue a errnum

pub record Served (t : Tables) (b : Broker) (m : Message) (a : Answer Outcome) : Type 0 where
  -- "1 delivered, with the record's number, counted from 0"
  pub delivery : (number : ℕ) → (a ≡ answered (delivered number)) ↔ (Tries b m × Registers t b m number)
  pub error_38 : ErrorDue a 38 ↔ NoService t b m
  pub error_113 : ErrorDue a 113 ↔ Unreachable t m
  pub no_other : (errnum : ℕ) → ErrorDue a errnum → (errnum ≡ 38) ⊎ (errnum ≡ 113)
  -- "5 home" is for responses
  pub not_home : a ≡ answered home → ⊥

-- ---- forwarding and 12

-- "A forwarded request gains this broker's identity on top, and its length grows by 38"; all else stays
pub record Gains (identity : List ℕ) (m new : Message) : Type 0 where
  pub header : new.header ≡ m.header
  pub routes : new.routes ≡ identity ∷ m.routes
  pub topic : new.topic ≡ m.topic
  pub payload : new.payload ≡ m.payload

-- 12: "forwarding would make 65 routes or a body above 32,768", of which the new route is one, and 38 bytes
pub record Fits (m : Message) : Type 0 where
  pub routes : length m.routes < 64
  pub body : length (body_of m) ≤ 32730

pub data TooLarge (m : Message) : Type 0 where
  routes : length m.routes ≡ 64 → TooLarge m
  body : 32730 < length (body_of m) → TooLarge m

pub record Forwards (t : Tables) (b : Broker) (m : Message) (a : Answer Outcome) : Type 0 where
  -- "2 forward, with the rank"
  pub forward : (next : ℕ) (new : Message) → (a ≡ answered (forwarded next new)) ↔ (GoesTo t b m next × Fits m × Gains (identity_at t.identities b.rank) m new)
  pub too_large : (a ≡ refused ForwardLong) ↔ (((next : ℕ) × GoesTo t b m next) × TooLarge m)
  -- and no other refusal
  pub refusal : (r : Refusal) → a ≡ refused r → r ≡ ForwardLong
  -- "its length grows by 38"
  pub grows : (next : ℕ) (new : Message) → a ≡ answered (forwarded next new) → length (frame_of new) ≡ length (frame_of m) + 38
  pub valid : (next : ℕ) (new : Message) → a ≡ answered (forwarded next new) → Valid 1 new
  -- the next broker is one of the tree, and a neighbour
  pub neighbour : (next : ℕ) (new : Message) → a ≡ answered (forwarded next new) → (next < ranks_in t.tree) × Neighbour t b next

-- ---- the error reply and noresponse

-- "The error reply has type 2, the request's routes, topic and matchtag, the error number, userid FFFFFFFF, rolemask 0, flags 09, or 49 if streaming
-- was set, no payload." Userid and rolemask are the broker's.
pub record IsReply (b : Broker) (m : Message) (errnum : ℕ) (reply : Message) : Type 0 where
  pub kind : reply.header.kind ≡ 2
  pub routes : reply.routes ≡ m.routes
  pub topic : reply.topic ≡ m.topic
  pub matchtag : reply.header.second ≡ m.header.second
  pub error : reply.header.first ≡ errnum
  pub userid : reply.header.userid ≡ b.userid
  pub rolemask : reply.header.rolemask ≡ b.rolemask
  pub flags : reply.header.flags ≡ cond (is_streaming m.header.flags) 0x49 0x09
  pub payload : reply.payload ≡ []

pub record Replies (b : Broker) (m : Message) (a : Answer Outcome) : Type 0 where
  pub reply : (errnum : ℕ) (reply : Message) → a ≡ answered (replied errnum reply) → IsReply b m errnum reply
  pub no_longer : (errnum : ℕ) (reply : Message) → a ≡ answered (replied errnum reply) → length (frame_of reply) ≤ length (frame_of m)
  pub valid : (errnum : ℕ) (reply : Message) → a ≡ answered (replied errnum reply) → Valid 2 reply

-- "4 silenced (an error was due, noresponse set)": a reply where noresponse is clear, silence where it is set
pub record Heard (m : Message) (a : Answer Outcome) : Type 0 where
  pub reply : (errnum : ℕ) (reply : Message) → a ≡ answered (replied errnum reply) → no_response m.header.flags ≡ false
  pub silence : (errnum : ℕ) → a ≡ answered (silenced errnum) → no_response m.header.flags ≡ true

-- ---- responses

-- the top route is the identity of the broker of a rank
pub record Names (t : Tables) (m : Message) (rank : ℕ) : Type 0 where
  pub within : rank < ranks_in t.tree
  pub top : List ℕ
  pub below : List (List ℕ)
  pub routes : m.routes ≡ top ∷ below
  pub same : same_identity (identity_at t.identities rank) top ≡ true

-- "if there are no routes, or the top route is no broker's identity, the response is home"
pub data AtHome (t : Tables) (m : Message) : Type 0 where
  no_routes : m.routes ≡ [] → AtHome t m
  no_broker : ((rank : ℕ) → Names t m rank → ⊥) → AtHome t m

-- "remove it": the top route, and all else stays
pub record Loses (m new : Message) : Type 0 where
  pub header : new.header ≡ m.header
  pub top : List ℕ
  pub routes : m.routes ≡ top ∷ new.routes
  pub topic : new.topic ≡ m.topic
  pub payload : new.payload ≡ m.payload

pub record GoesBack (t : Tables) (b : Broker) (m : Message) (a : Answer Outcome) : Type 0 where
  pub homeward : (a ≡ answered home) ↔ AtHome t m
  -- "If it names a neighbour (parent or child), remove it and forward there."
  pub forward : (next : ℕ) (new : Message) → (a ≡ answered (forwarded next new)) ↔ (Names t m next × Neighbour t b next × Loses m new)
  -- 19: "a response's top route is a broker that is no neighbour, itself included"
  pub no_neighbour : (a ≡ refused NoNeighbour) ↔ ((rank : ℕ) × Names t m rank × (Neighbour t b rank → ⊥))
  pub itself : Names t m b.rank → a ≡ refused NoNeighbour
  pub refusal : (r : Refusal) → a ≡ refused r → r ≡ NoNeighbour
  pub shrinks : (next : ℕ) (new : Message) → a ≡ answered (forwarded next new) → length (frame_of new) + 38 ≡ length (frame_of m)
  pub valid : (next : ℕ) (new : Message) → a ≡ answered (forwarded next new) → Valid 2 new
  -- a response is not delivered, and no error comes of it
  pub not_delivered : (number : ℕ) → a ≡ answered (delivered number) → ⊥
  pub no_error : (errnum : ℕ) → ErrorDue a errnum → ⊥

-- ---- 18

-- "4 event", "8 control"
pub data EventOrControl (h : Header) : Type 0 where
  event : h.kind ≡ 4 → EventOrControl h
  control : h.kind ≡ 8 → EventOrControl h

-- 18: "step or walk given an event or control"
pub record Unrouted (m : Message) (a : Answer Outcome) : Type 0 where
  pub neither : (a ≡ refused NotRouted) ↔ EventOrControl m.header

-- ---- the claims: what `routed` answers meets the rules

-- of a valid request
pub record RequestRules (t : Tables) (b : Broker) (m : Message) (a : Answer Outcome) : Type 0 where
  pub served : Served t b m a
  pub forwards : Forwards t b m a
  pub replies : Replies b m a
  pub heard : Heard m a

abbrev pub RequestsByTheRules : Tables → Broker → Type 0
RequestsByTheRules t b = Right t b → (m : Message) → Valid 1 m → RequestRules t b m (routed t b m)

-- of a valid response
abbrev pub ResponsesByTheRules : Tables → Broker → Type 0
ResponsesByTheRules t b = Right t b → (m : Message) → Valid 2 m → GoesBack t b m (routed t b m)

-- of every message that can be written, whatever the tables
abbrev pub OthersByTheRules : Tables → Broker → Type 0
OthersByTheRules t b = (m : Message) → writing m ≡ answered (frame_of m) → Unrouted m (routed t b m)

-- and the rules leave no choice: an answer that meets them is that of `routed`
pub record NoOtherAnswer (t : Tables) (b : Broker) : Type 0 where
  pub request : Right t b → (m : Message) → Valid 1 m → (a : Answer Outcome) → RequestRules t b m a → a ≡ routed t b m
  pub response : Right t b → (m : Message) → Valid 2 m → (a : Answer Outcome) → GoesBack t b m a → a ≡ routed t b m

-- ---- one request with noresponse and without

-- the message with flag 04 added, and nothing else changed
abbrev pub hushed : Message → Message
hushed m =
    record {
      header =
          record {
            kind = m.header.kind;
            flags = m.header.flags + 4;
            userid = m.header.userid;
            rolemask = m.header.rolemask;
            first = m.header.first;
            second = m.header.second;
          };
      routes = m.routes;
      topic = m.topic;
      payload = m.payload;
    }

-- an answer with silence in place of a reply, and nothing else changed: a message that goes on keeps its flags
abbrev pub silently : Answer Outcome → Answer Outcome
silently (refused r) = refused r
silently (answered (delivered number)) = answered (delivered number)
silently (answered (forwarded next new)) = answered (forwarded next (hushed new))
silently (answered (replied errnum reply)) = answered (silenced errnum)
silently (answered (silenced errnum)) = answered (silenced errnum)
silently (answered home) = answered home

-- noresponse makes silence of a reply, and changes nothing else: of any tables and any message
abbrev pub OnlySilence : Tables → Broker → Type 0
OnlySilence t b = (m : Message) → no_response m.header.flags ≡ false → routed t b (hushed m) ≡ silently (routed t b m)
