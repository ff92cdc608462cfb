use Rattle.std.proofs.Common.{◌≡◌, take}
use Rattle.mdp_command.specs.Command.{all_printable}
use Rattle.mdp_name.proofs.all_printable.Given as goal

abbrev pub invariant-loop-x : goal.invariant-loop-x
invariant-loop-x l = l.fits ≡ all_printable (take l.x-index l.s)
