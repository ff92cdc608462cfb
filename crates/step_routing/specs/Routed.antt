-- One broker's step on a message. "Answers: 1 delivered, with the record's number, counted from 0; 2 forward, with the rank; 3 error reply made, with
-- the error number; 4 silenced (an error was due, noresponse set), with that number; 5 home."
use Rattle.std.specs.Prelude.{◌≡◌, ℕ, None, Some, Ok, Err, true, cond, List, eqb}
use Rattle.refusal.specs.declared.Refusal.TheVariants.{ForwardLong, NotRouted}
use Rattle.refusal.specs.Answer.{Answer, refused, answered, refuse_if}
use Rattle.frame_message.specs.Header.{request_type, response_type, no_response}
use Rattle.frame_message.specs.Message.{Message}
use Rattle.table_tree.specs.Depths.{tree_good}
use Rattle.table_services.specs.Services.{services_good}
use Rattle.table_identities.specs.Identities.{identity_at, identities_good}
use Rattle.step_routing.specs.declared.Broker.{Broker}
use Rattle.step_routing.specs.declared.Way.{Way}
use Rattle.step_routing.specs.declared.Way.TheVariants.{Deliver, Forward, Fail}
use Rattle.step_routing.specs.declared.Tables.{Tables as LentTables}
use Rattle.step_routing.specs.Requests.{request_way}
use Rattle.step_routing.specs.Responses.{Back, response_way}
use Rattle.step_routing.specs.Messages.{pushed, popped, error_reply, too_large}

-- "Given the tables, .."
pub record Tables : Type 0 where
  pub tree : List ℕ
  pub services : List ℕ
  pub identities : List ℕ

abbrev pub tables_of : List ℕ → List ℕ → List ℕ → Tables
tables_of tree services identities = record { tree = tree; services = services; identities = identities }

-- what the three slices hold that a step is lent
abbrev pub tables_in : LentTables → Tables
tables_in t = tables_of t.tree.now t.services.now t.identities.now

-- "Valid tables are those to which 14, 15 and 16 below do not apply."
pub record ValidTables (t : Tables) : Type 0 where
  pub tree : tree_good t.tree ≡ true
  pub services : services_good t.tree t.services ≡ true
  pub identities : identities_good t.tree t.identities ≡ true

-- ".. the broker's rank": the struct Broker has it, and the userid and rolemask that an error reply carries. "The step no longer needs to know where the
-- message came from." (paper 02, ticket 3)

pub data Outcome : Type 0 where
  delivered : ℕ → Outcome
  forwarded : ℕ → Message → Outcome
  replied : ℕ → Message → Outcome
  silenced : ℕ → Outcome
  home : Outcome

-- an error that is due: a reply, or silence where noresponse is set
abbrev pub failed : Broker → ℕ → Message → Outcome
failed b errnum m = cond (no_response m.header.flags) (silenced errnum) (replied errnum (error_reply b.userid b.rolemask errnum m))

-- 12, or the message that goes to the next broker
abbrev pub forwarded_if : ℕ → Message → Answer Outcome
forwarded_if next m = refuse_if (too_large m) ForwardLong (answered (forwarded next m))

abbrev pub requested : Tables → Broker → Message → Way → Answer Outcome
requested t b m (Deliver number) = answered (delivered number)
requested t b m (Forward next) = forwarded_if next (pushed (identity_at t.identities b.rank) m)
requested t b m (Fail errnum) = answered (failed b errnum m)

-- a response is home, or goes on; 19 where its top route is a broker that is no neighbour
abbrev pub responded : Message → Back → Answer Outcome
responded m (Ok None) = answered home
responded m (Ok (Some broker)) = answered (forwarded broker (popped m))
responded m (Err r) = refused r

-- a request, a response, or 18: "step or walk given an event or control"
unfoldable pub routed : Tables → Broker → Message → Answer Outcome
routed t b m =
    cond (eqb m.header.kind request_type) (requested t b m (request_way t.tree t.services b.rank m.header m.topic))
    (cond (eqb m.header.kind response_type) (responded m (response_way t.tree t.identities b.rank m.routes))
    (refused NotRouted))
