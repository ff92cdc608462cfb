-- A test of every number below a bound.
use Rattle.std.specs.Prelude.{ℕ, zero, suc, Bool, true, ◌&&◌, not}

unfoldable pub all_below : ℕ → (ℕ → Bool) → Bool
all_below zero p = true
all_below (suc n) p = all_below n p && p n

-- none of n things is the same as one before it
unfoldable pub none_twice : (ℕ → ℕ → Bool) → ℕ → Bool
none_twice same n = all_below n (λ i. all_below i (λ j. not (same i j)))
