-- A byte that no name has.
use Rattle.std.specs.Prelude.{ℕ, Bool, not}
use Rattle.mdp_command.specs.Command.{is_printable}

abbrev pub is_other : ℕ → Bool
is_other x = not (is_printable x)
