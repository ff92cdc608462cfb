use Rattle.std.proofs.Common.{◌≡◌, ℕ, ◌<◌, ◌≤◌, length, get_or, false}
use Rattle.json_scan.proofs.held.tests.answers_of.Given as goal

-- the answers so far are such as a call may give
abbrev pub invariant-loop-i : goal.invariant-loop-i
invariant-loop-i g l =
    goal.F-IsAlwaysCallable g l.passes
    × (l.i ≤ 256)
    × (length l.answers ≡ 256)
    × (l.passes ≡ l.fn.passes)
    × ((c : ℕ) → c < l.i → goal.F-post g l.fn.passes c (get_or l.answers c false))
