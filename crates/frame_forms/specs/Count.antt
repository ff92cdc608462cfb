-- A test as a number.
use Rattle.std.specs.Prelude.{ℕ, Bool, cond}

-- 1 for yes and 0 for no
abbrev pub one : Bool → ℕ
one test = cond test 1 0
