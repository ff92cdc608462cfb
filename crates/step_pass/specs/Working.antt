-- What only the code's own steps promise each other: no promise of a public call speaks of it, and no reader has to believe it.
use Rattle.std.specs.Prelude.{◌≡◌, ℕ, Result, List, [], length}
use Rattle.bytes_number.specs.Number.{Bytes}
use Rattle.refusal.specs.declared.Refusal.{Refusal}
use Rattle.refusal.specs.Answer.{Answer, refused, answered, and_then}
use Rattle.frame_message.specs.Message.{Message}
use Rattle.frame_message.specs.Reading.{reading_of}
use Rattle.frame_layout.specs.declared.Layout.{Layout}
use Rattle.frame_layout.specs.Layout.{layout_of}
use Rattle.step_routing.specs.declared.Broker.{Broker}
use Rattle.step_routing.specs.Requests.{request_way}
use Rattle.step_routing.specs.Responses.{response_way}
use Rattle.step_routing.specs.Routed.{Tables, Outcome, requested, responded}
use Rattle.step_pass.specs.Step.{room_for, left_by, told_as}
use Rattle.step_routing.specs.declared.Stepped.{Stepped}

-- the message of bytes that are known to hold one
abbrev pub message_or_none : Answer Message → Message
message_or_none (refused r) = record { header = record { kind = 0; flags = 0; userid = 0; rolemask = 0; first = 0; second = 0 }; routes = []; topic = []; payload = [] }
message_or_none (answered m) = m

unfoldable pub held_in : List ℕ → Message
held_in buffer = message_or_none (reading_of buffer)

-- they hold one of this type, and f says where it lies
pub record Lies (buffer : List ℕ) (f : Layout) (kind : ℕ) : Type 0 where
  pub bytes : Bytes buffer
  pub read : reading_of buffer ≡ answered (held_in buffer)
  pub places : f ≡ layout_of (held_in buffer)
  pub type : (held_in buffer).header.kind ≡ kind

-- what comes of the request, and of the response, that a buffer holds
abbrev pub request_outcome : Tables → Broker → List ℕ → Answer Outcome
request_outcome t b buffer =
    let m = held_in buffer in
    and_then (requested t b m (request_way t.tree t.services b.rank m.header m.topic)) (room_for (length buffer))

abbrev pub response_outcome : Tables → ℕ → List ℕ → Answer Outcome
response_outcome t rank buffer =
    let m = held_in buffer in
    and_then (responded m (response_way t.tree t.identities rank m.routes)) (room_for (length buffer))

-- a step that ends with this answer says r, and leaves its buffer so
pub record Makes (answer : Answer Outcome) (buffer : List ℕ) (r : Result Stepped Refusal) (left : List ℕ) : Type 0 where
  pub told : r ≡ told_as answer
  pub leaves : left ≡ left_by answer buffer
