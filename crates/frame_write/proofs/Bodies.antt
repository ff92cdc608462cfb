-- Laws on the body and the frame that are written: what the whole has room for has room for each of its parts.
use mathlib.Core.Path.{◌≡◌}
use mathlib.Core.Bool.{Bool}
use Prim.Native.Nat.{ℕ, ◌-◌, ◌≤◌}
use mathlib.Core.List.{List, [], ◌∷◌, ◌++◌}
use native.Mathlib.Omega.{arith}
use lib.ListN.{length, length-append}
use Rattle.bytes_number.specs.Number.{four}
use Rattle.frame_write_given.specs.declared.Draft.{Draft}
use Rattle.frame_write_given.specs.WorkingDrafts.{drafted}
use Rattle.frame_message.specs.Header.{has_topic, has_payload, has_route, header_bytes}
use Rattle.frame_message.specs.Message.{Message}
use Rattle.frame_message.specs.Frame.{part_bytes, joined, part_if, group_if, body_of, frame_of}
use Rattle.frame_message.specs.Writing.{cut}
use Rattle.frame_write_check.proofs.Bodies.{body_parts, frame_length_lem}

-- bytes that fit with others behind them fit
pub front_fits : (w x : List ℕ) {n : ℕ} → length (w ++ x) ≤ n → length w ≤ n
front_fits w x h = omega (arith, length-append w x)

-- an output of n bytes has room for the body of what is given
pub record Room (d : Draft) (n : ℕ) : Type 0 where
  pub body : length (body_of (drafted d)) ≤ n

-- and so for the parts up to each of them; r, t and p say which flags are set
module _ {d : Draft} {n : ℕ} (room : Room d n) {r t p : Bool} (er : r ≡ has_route d.header.flags) (et : t ≡ has_topic d.header.flags) (ep : p ≡ has_payload d.header.flags) where
  pub header_fits : length (joined (group_if r (cut d.routes.now)) ++ joined (part_if t (d.topic.now ++ (0 ∷ []))) ++ joined (part_if p d.payload.now) ++ part_bytes (header_bytes d.header)) ≤ n
  header_fits = rw (body_parts d er et ep) at room.body

  pub payload_fits : length (joined (group_if r (cut d.routes.now)) ++ joined (part_if t (d.topic.now ++ (0 ∷ []))) ++ joined (part_if p d.payload.now)) ≤ n
  payload_fits = front_fits (joined (group_if r (cut d.routes.now)) ++ joined (part_if t (d.topic.now ++ (0 ∷ []))) ++ joined (part_if p d.payload.now)) (part_bytes (header_bytes d.header)) header_fits

  pub topic_fits : length (joined (group_if r (cut d.routes.now)) ++ joined (part_if t (d.topic.now ++ (0 ∷ [])))) ≤ n
  topic_fits = front_fits (joined (group_if r (cut d.routes.now)) ++ joined (part_if t (d.topic.now ++ (0 ∷ [])))) (joined (part_if p d.payload.now)) payload_fits

  pub group_fits : length (joined (group_if r (cut d.routes.now))) ≤ n
  group_fits = front_fits (joined (group_if r (cut d.routes.now))) (joined (part_if t (d.topic.now ++ (0 ∷ [])))) topic_fits

-- its four bytes FF EE 00 12 are those of one number
pub frame_bytes : (m : Message) (n : ℕ) → n ≡ length (frame_of m) → four 4293787666 ++ four (n - 8) ++ body_of m ≡ frame_of m
unfolding frame_of
frame_bytes m n h =
    let e : n - 8 ≡ length (body_of m) = omega (arith, frame_length_lem m) in
    rw e
