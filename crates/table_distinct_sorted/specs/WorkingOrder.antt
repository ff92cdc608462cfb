-- Records in order: how two equal ones are found with few comparisons, however they are made.
use Rattle.std.specs.Prelude.{◌≡◌, Bool, true, false, cond, List, [], ◌∷◌, ℕ, ◌+◌, ◌<◌, ◌≤◌, eqb, ltb, length, get_or}

-- bytes by the first in which they differ; what has ended stands before what has not
unfoldable pub before : List ℕ → List ℕ → Bool
before [] [] = false
before [] (y ∷ ys) = true
before (x ∷ xs) [] = false
before (x ∷ xs) (y ∷ ys) = cond (eqb x y) (before xs ys) (ltb x y)

-- the first n places of `order` hold the numbers below n, and the things with these numbers rise
pub record Ordered (thing : ℕ → List ℕ) (order : List ℕ) (n : ℕ) : Type 0 where
  pub known : (k : ℕ) → k < n → get_or order k 0 < n
  pub all : (j : ℕ) → j < n → (k : ℕ) × (k < n) × (get_or order k 0 ≡ j)
  pub rise : (k l : ℕ) → k < l → l < n → before (thing (get_or order k 0)) (thing (get_or order l 0)) ≡ true

-- `at` of the first n things stand before the thing n
pub record Placed (thing : ℕ → List ℕ) (order : List ℕ) (n at : ℕ) : Type 0 where
  pub within : at ≤ n
  pub low : (k : ℕ) → k < at → before (thing (get_or order k 0)) (thing n) ≡ true
  pub high : (k : ℕ) → at ≤ k → k < n → before (thing (get_or order k 0)) (thing n) ≡ false

-- a number is put at a place among the first n
pub record Inserted (was left : List ℕ) (n at number : ℕ) : Type 0 where
  pub long : length left ≡ length was
  pub front : (k : ℕ) → k < at → get_or left k 0 ≡ get_or was k 0
  pub here : get_or left at 0 ≡ number
  pub back : (k : ℕ) → at ≤ k → k < n → get_or left (k + 1) 0 ≡ get_or was k 0
