-- A message: everything that a reader must believe is said about these.
use Rattle.std.specs.Prelude.{ℕ, List}
use Rattle.frame_message.specs.declared.Header.{Header}

-- "The writer takes the header fields, routes of 37 bytes each, topic without its zero, and payload": the header's fields, the routes (top of the stack first, each with its zero byte), the topic without its zero byte, and the payload
pub record Message : Type 0 where
  pub header : Header
  pub routes : List (List ℕ)
  pub topic : List ℕ
  pub payload : List ℕ
