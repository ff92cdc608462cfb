-- The bodies of the messages that a step makes, next to the body of the message that it is given.
use mathlib.Core.Path.{◌≡◌}
use mathlib.Core.Bool.{Bool, true}
use Prim.Native.Nat.{ℕ, ◌+◌}
use mathlib.Core.List.{List, [], ◌∷◌, ◌++◌, append-nil, append_assoc}
use native.Mathlib.Omega.{arith}
use lib.ListN.{length, length-append}
use Rattle.frame_message.specs.Header.{has_topic, has_payload, has_route, header_bytes}
use Rattle.frame_message.specs.Message.{Message}
use Rattle.frame_message.specs.Frame.{part_bytes, joined, part_if, group_if, parts_of, body_of}
use Rattle.frame_message.proofs.Parts.{joined-append, part_short}
use Rattle.step_routing.specs.Messages.{with_routes}

-- ---- a route on top

module _ (m : Message) (group : has_route m.header.flags ≡ true) (route : List ℕ) (routes : List (List ℕ)) where
  -- the route is the body's first part
  pub body_on_top : body_of (with_routes m (route ∷ routes)) ≡ part_bytes route ++ body_of (with_routes m routes)
  unfolding body_of parts_of
  body_on_top = rw group

  -- 37 bytes and a size of one byte
  pub body_grows : length route ≡ 37 → length (body_of (with_routes m (route ∷ routes))) ≡ length (body_of (with_routes m routes)) + 38
  body_grows e = rw (body_on_top, length-append, part_short route (omega arith)) (omega arith)

-- ---- a message by its parts

-- r, t and p say which flags are set
module _ (m : Message) {r t p : Bool} (er : r ≡ has_route m.header.flags) (et : t ≡ has_topic m.header.flags) (ep : p ≡ has_payload m.header.flags) where
  pub body_parts : body_of m ≡ joined (group_if r m.routes) ++ joined (part_if t (m.topic ++ (0 ∷ []))) ++ joined (part_if p m.payload) ++ part_bytes (header_bytes m.header)
  unfolding body_of parts_of
  body_parts = rw (er, et, ep) (simp (joined-append, append_assoc, append-nil))

  pub body_length_lem : length (body_of m) ≡ length (joined (group_if r m.routes)) + length (joined (part_if t (m.topic ++ (0 ∷ [])))) + length (joined (part_if p m.payload)) + 21
  unfolding header_bytes
  body_length_lem = rw (body_parts, length-append, length-append, length-append)
