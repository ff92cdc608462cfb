-- The first number that passes a test.
use Rattle.std.specs.Prelude.{ℕ, zero, suc, Bool, cond, Option, Some, None}

-- the first of `left` numbers, from i on, that passes
unfoldable pub first_from : (ℕ → Bool) → ℕ → ℕ → Option ℕ
first_from p zero i = None
first_from p (suc left) i = cond (p i) (Some i) (first_from p left (suc i))

abbrev pub first_of : (ℕ → Bool) → ℕ → Option ℕ
first_of p n = first_from p n 0
