-- Nobody else has a command.
use Rattle.std.proofs.Common.{sym}
use Rattle.mdp_rules.proofs.Rules.{no_sender}
use Rattle.mdp_rules.proofs.is_command.Goals as goal

pub returns-in-Err : goal.returns-in-Err
returns-in-Err c = sym (no_sender _ _ c.in-Err.ensures.1 c.in-Err.ensures.2)
