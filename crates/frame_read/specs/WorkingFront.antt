-- The front of a frame: what is known of its body once 1, 2 and 3 are tested.
use Rattle.std.specs.Prelude.{◌≡◌, ℕ, ◌+◌, ◌≤◌, List, length, take, drop}
use Rattle.refusal.specs.declared.Refusal.{Refusal}
use Rattle.refusal.specs.Refusals.{number_of}
use Rattle.refusal.specs.Answer.{refused, and_then}
use Rattle.frame_message.specs.Reading.{body_length, parts_in, judged, reading_of}

-- the body is all there, and the rest of the reading is of it alone
pub record Opens (b body : List ℕ) : Type 0 where
  pub is : body ≡ take (body_length b) (drop 8 b)
  pub short : length body ≤ 32768
  pub fits : 8 + body_length b ≤ length b
  pub reading : reading_of b ≡ and_then (parts_in 68 body) judged

-- it is refused there with 1, 2 or 3
pub record Shut (b : List ℕ) (why : Refusal) : Type 0 where
  pub early : number_of why ≤ 3
  pub refuses : reading_of b ≡ refused why
