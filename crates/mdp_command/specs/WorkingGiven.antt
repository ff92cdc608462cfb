-- What the writer is given, as the code has it.
use Rattle.mdp_command.specs.declared.Command.{Command}
use Rattle.mdp_command.specs.CommandWriting.{Given, given_of}

abbrev pub given_in : Command → Given
given_in c = given_of c.sender c.code c.name.now c.address.now c.body.now
