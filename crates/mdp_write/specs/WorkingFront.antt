-- The parts in front of the body of a command that is given.
use Rattle.std.specs.Prelude.{ℕ, List, []}
use Rattle.mdp_command.specs.declared.Command.{Command}
use Rattle.mdp_command.specs.CommandBytes.{front_parts}

abbrev pub front_of : ℕ → ℕ → List ℕ → List ℕ → List (List ℕ)
front_of sender code name address = front_parts (record { sender = sender; code = code; name = name; address = address; body = [] })

abbrev pub front_in : Command → List (List ℕ)
front_in c = front_of c.sender c.code c.name.now c.address.now
