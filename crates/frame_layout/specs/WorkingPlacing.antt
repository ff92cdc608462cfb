-- Where the parts of a message lie, by the parts of its body: of any numbers. Only for the proofs of the reader: no promise of a call speaks of it,
-- and that these are the places of the message is proved (frame_body/proofs/Accepting.antt).
use Rattle.std.specs.Prelude.{ℕ, Option, Some, None, Result, ◌+◌, ◌-◌, cond, eqb, leb}
use Rattle.frame_message.specs.declared.Header.{Header}
use Rattle.frame_message.specs.Frame.{most_body}
use Rattle.frame_layout.specs.declared.Layout.{Layout}
use Rattle.frame_message.specs.declared.Stretch.{Stretch}
use Rattle.refusal.specs.declared.Refusal.{Refusal}
use Rattle.refusal.specs.Answer.{Answer, result_of}
use Rattle.frame_message.specs.Message.{Message}
use Rattle.frame_layout.specs.Layout.{layout_of}

-- behind the frame's eight bytes and the first route's size
abbrev pub first_route : ℕ → ℕ
first_route routes = cond (eqb routes 0) 0 9

-- a place of the body, behind the frame's eight bytes
abbrev pub place : ℕ → ℕ
place at = cond (leb at most_body) (8 + at) 0

-- a part of the body, if it is there
abbrev pub shown : Option Stretch → Stretch
shown None = record { start = 0; len = 0 }
shown (Some part) = record { start = place part.start; len = part.len }

-- a topic's part, without its last byte
abbrev pub without_zero : Option Stretch → Option Stretch
without_zero None = None
without_zero (Some part) = Some (record { start = part.start; len = part.len - 1 })

abbrev pub placed_in : ℕ → Header → ℕ → Option Stretch → Option Stretch → Layout
placed_in size h routes topic payload =
    record {
      taken = place size;
      header = h;
      routes = routes;
      route = first_route routes;
      topic = shown (without_zero topic);
      payload = shown payload;
    }

-- the refusal, or where the message lies
abbrev pub read_as : Answer Message → Result Layout Refusal
read_as = result_of layout_of
