-- Demand 3, "one claim over whole walks", of the C calls: of lampreycoil_step called one after another, and of lampreycoil_walk. Their promises are `Steps`
-- and `Plays` (call_specs/specs/Calls.antt), the path is `path_of` (the crate walk_path's specs/Path.antt), and nothing else lies between this
-- statement and the calls.
use Rattle.std.specs.Prelude.{◌≡◌, Bool, false, cond, ◌&&◌, ℕ, ◌-◌, ◌*◌, ◌<◌, ◌≤◌, List, [], ◌∷◌, ◌++◌, map, reverse, eqb, length, drop}
use Rattle.bytes_number.specs.Number.{row_bytes}
use Rattle.refusal.specs.Answer.{answered}
use Rattle.frame_message.specs.Header.{no_response}
use Rattle.frame_message.specs.Message.{Message}
use Rattle.frame_message.specs.Frame.{body_of, frame_of}
use Rattle.frame_message.specs.Reading.{front, final, reading_of}
use Rattle.frame_message.specs.Writing.{writing}
use Rattle.table_tree.specs.Tree.{ranks_in}
use Rattle.table_services.specs.Services.{services_in, service_at, rank_in, name_in}
use Rattle.table_services_find.specs.Lookup.{service_of}
use Rattle.table_identities.specs.Identities.{identity_at, same_identity}
use Rattle.walk_path.specs.Path.{End, delivers, fails, Path, path_of, links_of, tree_depth}
use Rattle.frame_rewrite.specs.Renewed.{cleared}
use Rattle.step_routing.specs.Messages.{Owner, with_routes, error_reply}
use Rattle.step_routing.specs.Routed.{Tables, ValidTables}
use Rattle.step_routing.specs.declared.Stepped.{Stepped}
use Rattle.step_routing.specs.declared.Stepped.TheVariants.{Delivered, Forwarded, Replied, Silenced, Home}
use Rattle.walk.specs.Walk.{least_buffer}
use Rattle.call_step_record.specs.Steps.{step_row, frame_length}
use Rattle.call_specs.specs.Calls.{broker_as, Steps, step_record, Plays, walk_record}

-- ---- the premises

-- "A valid request or response is a frame of type 1 or 2 to which no number in the reader's order applies", "in a buffer of at least 32,776 bytes"
pub record Held (type : ℕ) (buffer : List ℕ) (m : Message) : Type 0 where
  pub room : least_buffer ≤ length buffer
  pub read : reading_of buffer ≡ answered m
  pub typed : m.header.kind ≡ type

-- "Let any valid request enter at any rank of the tree .., in a buffer of at least 32,776 bytes, with at most 32 routes, a body of at most 31,552 bytes,
-- and no broker's identity as its top route." Whether it comes from a local client is not asked: "The step no longer needs to know where the message came
-- from." (paper 02, ticket 3)
pub record Enters (t : Tables) (entry : ℕ) (buffer : List ℕ) (m : Message) : Type 0 where
  pub tables : ValidTables t
  pub inside : entry < ranks_in t.tree
  pub held : Held 1 buffer m
  pub few : length m.routes ≤ 32
  pub short : length (body_of m) ≤ 31552
  pub stranger :
      (top : List ℕ) (below : List (List ℕ)) → m.routes ≡ top ∷ below →
      (rank : ℕ) → rank < ranks_in t.tree → same_identity (identity_at t.identities rank) top ≡ false

-- "Then let any valid response begin where the request rests, in such a buffer, with the routes that the request then has, its topic and matchtag."
pub record Responds (stack : List (List ℕ)) (request : Message) (buffer : List ℕ) (m : Message) : Type 0 where
  pub held : Held 2 buffer m
  pub routes : m.routes ≡ stack
  pub topic : m.topic ≡ request.topic
  pub matchtag : m.header.second ≡ request.header.second

-- ---- over these brokers, by the calls

-- a step call returns 0 and lists this answer, with "length of the frame now in the buffer"; the record's tail stays
pub record Says (answer : Stepped) (row : List ℕ) (r : ℕ) (left listed : List ℕ) : Type 0 where
  pub returns : r ≡ 0
  pub lists : listed ≡ row_bytes (step_row answer (frame_length left)) ++ drop step_record row

-- "the rank it begins at, then the rank that each answer 2 names, in order. Each step gets its broker's rank and the buffer which the step before left;
-- the host's step call also gets a record buffer of at least 16 bytes": whatever records the host lends, each call names the next of these brokers, and
-- the last one says `answer` and leaves `left`. No step is refused.
unfoldable pub StepsOver : Tables → Owner → List ℕ → List ℕ → Stepped → List ℕ → Type 0
StepsOver t owner buffer [] answer left = ⊥
StepsOver t owner buffer (rank ∷ []) answer left =
    (row : List ℕ) (r : ℕ) (after listed : List ℕ) → step_record ≤ length row → Steps t (broker_as owner rank) buffer row r after listed →
    Says answer row r after listed × (after ≡ left)
StepsOver t owner buffer (rank ∷ next ∷ ranks) answer left =
    (row : List ℕ) (r : ℕ) (after listed : List ℕ) → step_record ≤ length row → Steps t (broker_as owner rank) buffer row r after listed →
    Says (Forwarded next) row r after listed × StepsOver t owner after (next ∷ ranks) answer left

-- the walk call from the first of these brokers returns 0, lists the last step's numbers, the rank of the last broker, and as many links as there are
-- brokers less one; its record's tail stays
pub record WalksOver (brokers : List ℕ) (answer : Stepped) (final-buffer row : List ℕ) (r : ℕ) (left listed : List ℕ) : Type 0 where
  pub returns : r ≡ 0
  pub lists : listed ≡ row_bytes (step_row answer (frame_length final-buffer) ++ (final 0 brokers ∷ (length brokers - 1) ∷ [])) ++ drop walk_record row
  pub leaves : left ≡ final-buffer

-- "It holds alike of the steps called one after another and of the walk call, in all that this call reports and leaves."
pub record Goes (t : Tables) (owner : Owner) (first : ℕ) (buffer brokers : List ℕ) (answer : Stepped) (left : List ℕ) : Type 0 where
  pub steps : StepsOver t owner buffer brokers answer left
  pub walk :
      (row : List ℕ) (r : ℕ) (after listed : List ℕ) → walk_record ≤ length row → Plays t (broker_as owner first) buffer row r after listed →
      WalksOver brokers answer left row r after listed

-- ---- what the request comes to

-- "Its routes at rest are those on entry, with the identities of all the path's brokers but the last above them, the latest on top."
abbrev pub routes_at_rest : List ℕ → List ℕ → List (List ℕ) → List (List ℕ)
routes_at_rest identities brokers routes = reverse (map (λ rank. identity_at identities rank) (front brokers)) ++ routes

-- "Its answer is 1, with the number of the record .., where the path delivers; otherwise 3 or 4 with the path's error": 4 if noresponse is set
abbrev pub answer_at : End → Bool → Stepped
answer_at (delivers number) quiet = Delivered number
answer_at (fails errnum) quiet = cond quiet (Silenced errnum) (Replied errnum)

-- "At 1 and 4 the final frame is what the writer makes of the request's header fields, topic and payload with these routes; at 3 it is the step's error
-- reply with them": of the request m with its routes at rest
abbrev pub message_at : Owner → End → Message → Message
message_at owner (delivers number) m = m
message_at owner (fails errnum) m = cond (no_response m.header.flags) m (error_reply owner.userid owner.rolemask errnum m)

-- "Behind it all is zero, except that at 1 and 4 on 0 links the buffer is as on entry."
abbrev pub as_on_entry : End → Bool → ℕ → Bool
as_on_entry (delivers number) quiet links = eqb links 0
as_on_entry (fails errnum) quiet links = quiet && eqb links 0

-- "what the writer makes of" a message, "Behind it all is zero", or the buffer as it was
abbrev pub left_of : Bool → Message → List ℕ → List ℕ
left_of unchanged m buffer = cond unchanged buffer (cleared (frame_of m) buffer)

-- "with the number of the record that has this rank and the request's service"
pub record IsRecord (services : List ℕ) (number broker : ℕ) (topic : List ℕ) : Type 0 where
  pub within : number < services_in services
  pub rank : rank_in (service_at services number) ≡ broker
  pub name : name_in (service_at services number) ≡ service_of topic

-- ---- the claim

-- of a request m that enters in `buffer`, on the path p, and of every response to it in the buffer `back`, where error replies are this owner's
pub record ThereAndHome (t : Tables) (owner : Owner) (entry : ℕ) (buffer : List ℕ) (m : Message) (p : Path) (back : List ℕ) : Type 0 where
  -- "The brokers it visits are, in order, exactly those of the tree path that paper 01 defines. .. It rests at the last one, delivered exactly when the
  -- path ends in delivery. Otherwise it has the path's error: exactly one reply if noresponse is clear, silenced if it is set."
  pub there :
      let rested = with_routes m (routes_at_rest t.identities p.brokers m.routes) in
      let quiet = no_response m.header.flags in
      Goes t owner entry buffer p.brokers (answer_at p.end quiet) (left_of (as_on_entry p.end quiet (links_of p)) (message_at owner p.end rested) buffer)
  -- the path begins at the entry
  pub entered : (rest : List ℕ) × (p.brokers ≡ entry ∷ rest)
  -- "Links crossed = brokers on that path less one, never more than twice the tree's depth."
  pub few_links : links_of p ≤ 2 * tree_depth t.tree
  pub delivered : (number : ℕ) → p.end ≡ delivers number → IsRecord t.services number (final 0 p.brokers) m.topic
  -- the final frame is one that the writer makes
  pub written :
      let rested = with_routes m (routes_at_rest t.identities p.brokers m.routes) in
      writing (message_at owner p.end rested) ≡ answered (frame_of (message_at owner p.end rested))
  -- "It visits the same brokers in the opposite order and is home at the entry broker with exactly the routes that the request had on entry. .. It ends
  -- with answer 5 at the entry, on as many links. The final frame is what the writer makes of the response's header fields, topic and payload with the
  -- request's routes on entry. Behind it all is zero, except that on 0 links the buffer is as at the response's start."
  pub home :
      (n : Message) → Responds (routes_at_rest t.identities p.brokers m.routes) m back n →
      Goes t owner (final 0 p.brokers) back (reverse p.brokers) Home (left_of (eqb (links_of p) 0) (with_routes n m.routes) back)
      × (writing (with_routes n m.routes) ≡ answered (frame_of (with_routes n m.routes)))

-- "This is a single claim about both walks, from entry to home, and not one for each step."
abbrev pub DemandThree : Tables → Owner → ℕ → List ℕ → List ℕ → Type 0
DemandThree t owner entry buffer back =
    (m : Message) → Enters t entry buffer m → ThereAndHome t owner entry buffer m (path_of t.tree t.services entry m.header m.topic) back
