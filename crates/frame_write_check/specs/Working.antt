-- What the private functions of this crate promise. No public promise cites these, so nobody has to believe them: they are steps of the
-- code's proofs, and a mistake in one can only make a proof fail.
use Rattle.std.specs.Prelude.{ℕ, ◌+◌, ◌*◌, ◌/◌, Bool, cond, List, ltb, length, Result}
use Rattle.refusal.specs.declared.Refusal.{Refusal}
use Rattle.refusal.specs.Answer.{Answer, answered, refuse_if, result_of}
use Rattle.frame_message.specs.Message.{Message}
use Rattle.frame_message.specs.Frame.{size_bytes, body_of, frame_of}
use Rattle.refusal.specs.declared.Refusal.TheVariants.{BodyLong, OutputShort}

-- how many bytes the routing group takes, of n bytes of routes: "its length grows by 38" with each route, and a byte for the delimiter
abbrev pub group_length : Bool → ℕ → ℕ
group_length given n = cond given (n / 37 * 38 + 1) 0

-- how many bytes a part of n bytes takes, where it is there
abbrev pub part_length : Bool → ℕ → ℕ
part_length given n = cond given (length (size_bytes n) + n) 0

-- what is left of the writer's order where 6 to 10 refuse nothing: 3, and 11 into an output of so many bytes
unfoldable pub measured : ℕ → Message → Answer (List ℕ)
measured room m =
    refuse_if (ltb 32768 (length (body_of m))) BodyLong
    (refuse_if (ltb room (length (frame_of m))) OutputShort (answered (frame_of m)))

-- a length that is at most so much and has room, or why it is refused
abbrev pub fitted : ℕ → ℕ → Refusal → ℕ → Result ℕ Refusal
fitted n most too_long room = result_of (λ (m : ℕ). m) (refuse_if (ltb most n) too_long (refuse_if (ltb room n) OutputShort (answered n)))
