-- A topic: none of its bytes is found to be zero, and it is not too long.
use mathlib.Core.Path.{◌≡◌, refl}
use mathlib.Core.Bool.{Bool, true, false, not, ◌&&◌, ◌||◌}
use Prim.Native.Nat.{ℕ, ◌<◌, ◌≤◌}
use mathlib.Core.List.{List, [], ◌∷◌}
use lib.Dec.{eqb}
use lib.ListN.{length}
use borrow.Author.Tests.{le-leb, lt-leb}
use Rattle.std.specs.List.{list_any}
use Rattle.frame_forms.specs.Forms.{no_zero, is_topic}

pub no_zero_found : (xs : List ℕ) → no_zero xs ≡ not (list_any (λ y. eqb y 0) xs)
no_zero_found [] = refl
no_zero_found (x ∷ xs) = rw (no_zero_found xs) (by_first (eqb x 0) (list_any (λ y. eqb y 0) xs))
  where
    by_first : (a b : Bool) → (not a && not b) ≡ not (a || b)
    by_first true b = refl
    by_first false b = refl

pub topic_empty : (xs : List ℕ) → length xs < 1 → is_topic xs ≡ false
unfolding is_topic
topic_empty xs h = rw (lt-leb 1 (length xs) h)

pub topic_long : (xs : List ℕ) → 1 ≤ length xs → 255 < length xs → is_topic xs ≡ false
unfolding is_topic
topic_long xs h k = rw (le-leb 1 (length xs) h, lt-leb (length xs) 255 k)
