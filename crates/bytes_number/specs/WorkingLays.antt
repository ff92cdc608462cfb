-- What a helper does that is lent the rest of the output.
use Rattle.std.specs.Prelude.{ℕ, ◌≡◌, List, length, cond, leb}
use Rattle.bytes_number.specs.Laid.{laid}

-- xs are laid over the front of what was lent, and their count is told
pub record Lays (xs lent left : List ℕ) (count : ℕ) : Type 0 where
  pub told : count ≡ length xs
  pub bytes : left ≡ laid xs lent

-- the same where xs fits, and out as it was where it does not
abbrev pub laid_if_room : List ℕ → List ℕ → List ℕ
laid_if_room xs out = cond (leb (length xs) (length out)) (laid xs out) out

-- how many bytes are then written: all of xs, or none
abbrev pub laid_count : List ℕ → List ℕ → ℕ
laid_count xs out = cond (leb (length xs) (length out)) (length xs) 0
