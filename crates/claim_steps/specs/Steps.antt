-- Demand 2 of the step call: on a buffer that holds a message, lampreycoil_step does what the rules say, and nothing else. The rules stand in
-- specs/Rules.antt, to be read first beside the paper: each answer comes exactly in its case, errors 38 and 113 too, and no other answer meets them.
use Rattle.std.specs.Prelude.{◌≡◌, ℕ, ◌≤◌, List, length}
use Rattle.refusal.specs.Answer.{Answer, answered, and_then}
use Rattle.frame_message.specs.Message.{Message}
use Rattle.frame_message.specs.Reading.{reading_of}
use Rattle.step_routing.specs.declared.Broker.{Broker}
use Rattle.step_routing.specs.Messages.{Owner}
use Rattle.step_routing.specs.Routed.{Tables, Outcome}
use Rattle.claim_steps.specs.Rules.{Right, RequestRules, GoesBack, Unrouted}
use Rattle.step_pass.specs.Step.{room_for}
use Rattle.call_specs.specs.Calls.{broker_as, step_record, Tells, Steps}

-- what came of a step call on a buffer that held the message m: an answer that meets the rules, of a request, of a response, and 18 of an event or a
-- control message; and the call tells it, and leaves the buffer by it, unless a request that goes on has no room: 11
pub record ByTheRules (t : Tables) (b : Broker) (m : Message) (buffer row : List ℕ) (r : ℕ) (left listed : List ℕ) : Type 0 where
  pub answer : Answer Outcome
  pub request : m.header.kind ≡ 1 → RequestRules t b m answer
  pub response : m.header.kind ≡ 2 → GoesBack t b m answer
  pub other : Unrouted m answer
  pub told : Tells (and_then answer (room_for (length buffer))) buffer row r left listed

-- of every broker of valid tables, whosever its error replies are, every buffer that a message is read from, and every record with room
abbrev pub StepsByTheRules : Tables → Owner → ℕ → List ℕ → Type 0
StepsByTheRules t owner rank buffer =
    Right t (broker_as owner rank) → (m : Message) → reading_of buffer ≡ answered m →
    (row : List ℕ) (r : ℕ) (left listed : List ℕ) → step_record ≤ length row → Steps t (broker_as owner rank) buffer row r left listed →
    ByTheRules t (broker_as owner rank) m buffer row r left listed
