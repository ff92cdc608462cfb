-- What is read from a body alone.
use Rattle.std.specs.Prelude.{ℕ, List, ltb, length}
use Rattle.refusal.specs.declared.Refusal.TheVariants.{BodyLong}
use Rattle.refusal.specs.Answer.{Answer, refuse_if, and_then}
use Rattle.frame_message.specs.Reading.{most_parts, parts_in, judged}
use Rattle.frame_message.specs.Message.{Message}
use Rattle.frame_message.specs.Frame.{most_body}

-- 3, then 4 to 10
unfoldable pub body_reading : List ℕ → Answer Message
body_reading body = refuse_if (ltb most_body (length body)) BodyLong (and_then (parts_in most_parts body) judged)
