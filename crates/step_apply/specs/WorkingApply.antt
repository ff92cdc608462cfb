-- What a broker makes in the buffer that holds a request, by where the frame's parts are said to lie: of any numbers and any bytes. Only for the
-- proofs of the step: no promise of a call speaks of it, and that it is the paper's step is proved (step_pass/proofs/Lying.antt).
use Rattle.std.specs.Prelude.{◌≡◌, ℕ, Result, ◌+◌, cond, ◌||◌, List, leb, ltb, length}
use Rattle.frame_message.specs.declared.Header.{Header}
use Rattle.refusal.specs.declared.Refusal.{Refusal}
use Rattle.refusal.specs.declared.Refusal.TheVariants.{OutputShort, ForwardLong}
use Rattle.refusal.specs.Answer.{Answer, refused, answered, refuse_if, result_of}
use Rattle.frame_message.specs.Header.{no_response}
use Rattle.frame_message.specs.Frame.{most_body}
use Rattle.frame_message.specs.Writing.{most_routes}
use Rattle.frame_rewrite.specs.WorkingRenewed.{with_part, with_header}
use Rattle.step_routing.specs.declared.Broker.{Broker}
use Rattle.step_routing.specs.Messages.{reply_header}
use Rattle.step_routing.specs.declared.Stepped.{Stepped}
use Rattle.step_routing.specs.declared.Stepped.TheVariants.{Forwarded, Replied, Silenced}

-- ---- a route more

-- 12 for a route or a body too many, 11 for no room; else how long the body is with a part of so many bytes in front
unfoldable pub grown_to : ℕ → ℕ → ℕ → ℕ → Answer ℕ
grown_to routes size part room =
    refuse_if (leb most_routes routes || ltb most_body (1 + part + size)) ForwardLong
    (refuse_if (ltb room (9 + part + size)) OutputShort (answered (1 + part + size)))

abbrev pub forward_told : ℕ → Answer ℕ → Result Stepped Refusal
forward_told next = result_of (λ grown. Forwarded next)

abbrev pub forward_left : List ℕ → ℕ → List ℕ → Answer ℕ → List ℕ
forward_left identity size buffer (refused r) = buffer
forward_left identity size buffer (answered grown) = with_part identity size buffer

pub record AppliesForward (routes size : ℕ) (identity : List ℕ) (next : ℕ) (buffer : List ℕ) (r : Result Stepped Refusal) (left : List ℕ) : Type 0 where
  pub told : r ≡ forward_told next (grown_to routes size (length identity) (length buffer))
  pub leaves : left ≡ forward_left identity size buffer (grown_to routes size (length identity) (length buffer))

-- ---- an error reply, or silence

-- the first so many bytes of the body, and the reply's header behind them; a buffer without room for that stays as it is, and the buffer of a request
-- that was read has room, since the reply is no longer (step_pass/proofs/Buffers.antt: reply-left)
abbrev pub reply_in : Broker → ℕ → Header → ℕ → List ℕ → List ℕ
reply_in b errnum header kept buffer = with_header (reply_header b.userid b.rolemask errnum header) kept buffer

pub record AppliesError (b : Broker) (errnum : ℕ) (header : Header) (kept : ℕ) (buffer : List ℕ) (r : Stepped) (left : List ℕ) : Type 0 where
  pub told : r ≡ cond (no_response header.flags) (Silenced errnum) (Replied errnum)
  pub leaves : left ≡ cond (no_response header.flags) buffer (reply_in b errnum header kept buffer)
