-- A body that is cut, or is not, as its parts were counted.
use Rattle.std.proofs.Common.{sym, ap}
use Rattle.bytes_number.proofs.Numbers.{bytes_of_lem}
use Rattle.mdp_command.proofs.Cutting.{cut_refused, cut_counted}
use Rattle.mdp_write_check.specs.WorkingChecks.{cut_as}
use Rattle.mdp_write_check.proofs.Checking.{cut-told}
use Rattle.mdp_write_check.proofs.cut_body.Goals as goal

pub returns-in-Err-clause-value : goal.returns-in-Err-clause-value
returns-in-Err-clause-value c = sym (ap cut_as (cut_refused c.args.body.now c.in-Err.ensures))

pub returns-in-Err-clause-body_value : goal.returns-in-Err-clause-body_value
returns-in-Err-clause-body_value c = bytes_of_lem c.args.body.now (λ i. (c.type_inv.body i).fits)

pub returns-in-Ok-clause-value : goal.returns-in-Ok-clause-value
returns-in-Ok-clause-value c = cut-told (cut_counted c.args.body.now c.in-Ok.ensures)

pub returns-in-Ok-clause-body_value : goal.returns-in-Ok-clause-body_value
returns-in-Ok-clause-body_value c = bytes_of_lem c.args.body.now (λ i. (c.type_inv.body i).fits)
