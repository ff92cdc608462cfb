-- The test that the code does at each place of a record: no promise of a public call speaks of it, and no reader has to believe it.
use Rattle.std.specs.Prelude.{ℕ, Bool, true, cond, ◌&&◌, not, eqb, ltb}
use Rattle.table_services.specs.Services.{name_start}

-- a byte of a name
abbrev pub name_byte : ℕ → Bool
name_byte x = not (eqb x 0) && not (eqb x 46)

-- whether the byte x may stand at the place `at` of a record whose name ends in front of `end`: in front of the name anything may
unfoldable pub may_stand : ℕ → ℕ → ℕ → Bool
may_stand end at x = cond (ltb at name_start) true (cond (ltb at end) (name_byte x) (eqb x 0))
