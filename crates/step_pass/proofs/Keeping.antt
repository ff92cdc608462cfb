-- What a step makes of a message that can be written can be written too, and is read from what the step leaves.
use mathlib.Core.Path.{◌≡◌, ap, subst⁻¹}
use mathlib.Core.Bool.{true, false}
use mathlib.Core.Logic.{◌⊎◌}
use Prim.Native.Nat.{ℕ, ◌-◌, ◌<◌, ◌≤◌}
use mathlib.Core.List.{List, ◌∷◌}
use native.Mathlib.Omega.{arith}
use borrow.Author.Tests.{ltb-false}
use lib.Dec.{ltb}
use lib.ListN.{length, drop, replicate}
use Rattle.bytes_number.specs.Number.{Bytes}
use Rattle.bytes_number.proofs.Truth.{or_left, or_right}
use Rattle.refusal.specs.Answer.{answered}
use Rattle.frame_message.specs.Header.{has_route}
use Rattle.frame_message.specs.Message.{Message}
use Rattle.frame_message.specs.Working.{FieldsFit}
use Rattle.frame_message.specs.Frame.{body_of, frame_of}
use Rattle.frame_message.specs.Writing.{writing}
use Rattle.frame_message.specs.Reading.{reading_of}
use Rattle.frame_message.proofs.Messages.{Passes, written}
use Rattle.frame_message.proofs.RoundTrip.{read_back, write_back}
use Rattle.frame_forms.specs.Forms.{is_route}
use Rattle.frame_rewrite.specs.Renewed.{cleared}
use Rattle.step_routing.specs.Messages.{with_routes, pushed, popped, error_reply, too_large}
use Rattle.step_routing.proofs.Made.{has_group, pushed_body, pushed_writable, popped_writable, reply_writable}

-- where 12 is not due, the new route is at most the 64th
pub pushed_few : (identity : List ℕ) (m : Message) → too_large (pushed identity m) ≡ false → length (identity ∷ m.routes) ≤ 64
pushed_few identity m small =
    ltb-false 64 (length (identity ∷ m.routes)) (or_left (ltb 64 (length (identity ∷ m.routes))) (ltb 32768 (length (body_of (pushed identity m)))) small)

-- a message that can be written, and whose header's numbers have four bytes each: what the reader makes of bytes, and all that a frame can hold
pub record Sound (m : Message) : Type 0 where
  pub fits : FieldsFit m.header
  pub writes : writing m ≡ answered (frame_of m)

pub sound_read : (b : List ℕ) (m : Message) → Bytes b → reading_of b ≡ answered m → Sound m
sound_read b m bytes e = let back = write_back b m bytes e in record { fits = back.fits; writes = back.writable }

-- it is read from a buffer that begins with its frame, and so from what a step leaves
pub read_cleared : (m : Message) → Sound m → (b : List ℕ) → reading_of (cleared (frame_of m) b) ≡ answered m
read_cleared m s b = read_back m s.fits s.writes (replicate (length b - length (frame_of m)) 0)

module _ (m : Message) (s : Sound m) where
  pub passes : Passes m
  passes = (written m (frame_of m) s.writes).passes

  pub sound_short : length (body_of m) ≤ 32768
  sound_short = (written m (frame_of m) s.writes).short

  -- a request or a response: it has a routing group, and so have the messages that a step makes of it
  module _ (call : (m.header.kind ≡ 1) ⊎ (m.header.kind ≡ 2)) where
    pub sound_route : has_route m.header.flags ≡ true
    sound_route = has_group m s.writes call

    -- with a route on top, where 12 is not due
    pub pushed_sound : (identity : List ℕ) → is_route identity ≡ true → too_large (pushed identity m) ≡ false → Sound (pushed identity m)
    pushed_sound identity form small =
        let many = ltb 64 (length (identity ∷ m.routes)) in
        let short = ltb-false 32768 (length (body_of (pushed identity m))) (or_right many (ltb 32768 (length (body_of (pushed identity m)))) small) in
        record {
          fits = s.fits;
          writes = pushed_writable m s.writes call identity form (omega (arith, pushed_few identity m small)) (omega (arith, short, pushed_body m s.writes call identity form));
        }

    -- without its top route
    pub popped_sound : (top : List ℕ) (rest : List (List ℕ)) → m.routes ≡ top ∷ rest → Sound (popped m)
    popped_sound top rest e =
        subst⁻¹ (λ (rs : List (List ℕ)). Sound (with_routes m rs)) (ap (drop 1) e) (record { fits = s.fits; writes = popped_writable m s.writes call top rest e })

    -- an error reply
    pub reply_sound : (userid rolemask errnum : ℕ) → userid < 4294967296 → rolemask < 4294967296 → errnum < 4294967296 → Sound (error_reply userid rolemask errnum m)
    reply_sound userid rolemask errnum u r e =
        record { fits = record { userid = u; rolemask = r; first = e; second = s.fits.second }; writes = reply_writable m s.writes call userid rolemask errnum }
