-- A place of the body counted from the frame's front.
use mathlib.Core.Path.{◌≡◌}
use Prim.Native.Nat.{ℕ, ◌+◌, ◌≤◌}
use borrow.Author.Tests.{le-leb}
use Rattle.frame_layout.specs.WorkingPlacing.{place}

-- of a place that is in a body
pub place_in : (at : ℕ) → at ≤ 32768 → place at ≡ 8 + at
place_in at h = rw (le-leb at 32768 h)
