-- What the code of the reader promises, and the parts of bytes that are known to have some.
use Rattle.std.specs.Prelude.{ℕ, List, Result, length}
use Rattle.refusal.specs.declared.Refusal.{Refusal}
use Rattle.refusal.specs.Answer.{Answer, result_of}
use Rattle.mdp_command.specs.declared.CommandPlaces.{CommandPlaces}
use Rattle.mdp_command.specs.Command.{Command}
use Rattle.mdp_command.specs.Places.{places_of}
use Rattle.frame_message.specs.Reading.{parts_in}
use Rattle.frame_parts.specs.WorkingCounting.{parts_or_none}

-- the refusal, or where the command lies
abbrev pub command_read_as : Answer Command → Result CommandPlaces Refusal
command_read_as = result_of places_of

unfoldable pub parts_there : List ℕ → List (List ℕ)
parts_there b = parts_or_none (parts_in (length b) b)
