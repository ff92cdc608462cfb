-- The parts that a body begins with and that have a route's size, 37 bytes behind a size byte.
use Rattle.std.specs.Prelude.{◌≡◌, ℕ, ◌*◌, ◌<◌, ◌≤◌, List, length, get_or}

-- so many of them, and more behind them
pub record Alike (body : List ℕ) (n : ℕ) : Type 0 where
  pub sizes : (k : ℕ) → k < n → get_or body (38 * k) 0 ≡ 37
  pub behind : 0 < n → 38 * n < length body
  pub most : n ≤ 64
