-- Laws on the body and the frame of the message that the writer is given: the body is the routing group, the topic's part, the payload's
-- part and the header's part, one after another.
use mathlib.Core.Path.{◌≡◌, ◌∙◌}
use mathlib.Core.Bool.{Bool, true}
use Prim.Native.Nat.{◌+◌, ◌%◌, ◌≤◌}
use mathlib.Core.List.{[], ◌∷◌, ◌++◌, append-nil, append_assoc}
use native.Mathlib.Omega.{arith}
use lib.ListN.{length, length-append}
use Rattle.frame_message.proofs.Parts.{joined-append}
use Rattle.frame_message.proofs.Frames.{frame_long}
use Rattle.frame_write_given.specs.declared.Draft.{Draft}
use Rattle.frame_write_given.specs.WorkingDrafts.{drafted}
use Rattle.frame_message.specs.Header.{has_topic, has_payload, has_route, header_bytes}
use Rattle.frame_message.specs.Message.{Message}
use Rattle.frame_message.specs.Frame.{part_bytes, joined, part_if, group_if, parts_of, body_of, frame_of}
use Rattle.frame_message.specs.Writing.{cut, given_message}
use Rattle.frame_write_check.specs.Working.{group_length, part_length}
use Rattle.frame_write_check.proofs.Parts.{part_takes, group_takes, part_most, group_most}

-- r, t and p say which flags are set
module _ (d : Draft) {r t p : Bool} (er : r ≡ has_route d.header.flags) (et : t ≡ has_topic d.header.flags) (ep : p ≡ has_payload d.header.flags) where
  pub body_parts : body_of (drafted d) ≡ joined (group_if r (cut d.routes.now)) ++ joined (part_if t (d.topic.now ++ (0 ∷ []))) ++ joined (part_if p d.payload.now) ++ part_bytes (header_bytes d.header)
  unfolding body_of parts_of given_message
  body_parts = rw (er, et, ep) (simp (joined-append, append_assoc, append-nil))

  pub body_length_lem : length d.routes.now % 37 ≡ 0 → length (body_of (drafted d)) ≡ group_length r (length d.routes.now) + part_length t (length d.topic.now + 1) + part_length p (length d.payload.now) + 21
  unfolding header_bytes
  body_length_lem e = rw (body_parts, length-append, length-append, length-append, group_takes r d.routes.now e, part_takes t, part_takes p, length-append d.topic.now (0 ∷ []))

  pub body_most : length d.routes.now % 37 ≡ 0 → length d.routes.now ≤ 2368 → length d.topic.now ≤ 255 → length d.payload.now ≤ 32768 → length (body_of (drafted d)) ≤ 40000
  body_most e hr ht hp = rw (body_length_lem e) (omega (arith, group_most r (length d.routes.now), part_most t (length d.topic.now + 1), part_most p (length d.payload.now)))

  -- a body is longer than its payload
  pub payload_shorter : p ≡ true → length d.payload.now ≤ length (body_of (drafted d))
  payload_shorter e = rw (body_parts, length-append, length-append, length-append, part_takes p, e) (omega arith)

-- the frame is eight bytes and the body
pub frame_length_lem : (m : Message) → length (frame_of m) ≡ length (body_of m) + 8
frame_length_lem m = frame_long m ∙ omega arith
