-- What is read from a body alone, by its length.
use mathlib.Core.Path.{◌≡◌}
use Prim.Native.Nat.{ℕ, ◌<◌, ◌≤◌}
use mathlib.Core.List.{List}
use borrow.Author.Tests.{lt-ltb, le-ltb}
use lib.ListN.{length}
use Rattle.refusal.specs.declared.Refusal.TheVariants.{BodyLong}
use Rattle.refusal.specs.Answer.{refused, and_then}
use Rattle.frame_message.specs.Reading.{parts_in, judged}
use Rattle.frame_body.specs.WorkingBody.{body_reading}

pub body_long : (body : List ℕ) → 32768 < length body → body_reading body ≡ refused BodyLong
unfolding body_reading
body_long body h = rw (lt-ltb 32768 (length body) h)

pub body_short : (body : List ℕ) → length body ≤ 32768 → body_reading body ≡ and_then (parts_in 68 body) judged
unfolding body_reading
body_short body h = rw (le-ltb 32768 (length body) h)
