-- 33, of a sender that there is not or that has no such command.
use Rattle.std.proofs.Common.{◌≡◌, Err, rules, ◌∙◌}
use Rattle.refusal.specs.declared.Refusal.TheVariants.{CommandWrong}
use Rattle.mdp_command.specs.WorkingGiven.{given_in}
use Rattle.mdp_write_check.proofs.Checking.{unknown_of, no_sender, check_unknown}
use Rattle.mdp_write_check.proofs.check_command.Goals as goal

pub returns-in_err-sender-clause-value : goal.returns-in_err-sender-clause-value
returns-in_err-sender-clause-value c =
    let told : c.from_residual.result ≡ Err CommandWrong = search rules in
    let none = c.in_err-sender.ensures in
    told ∙ check_unknown c.args.room (given_in c.args.command.now) (no_sender _ _ none.1 none.2)

pub returns-in_err-carried-clause-value : goal.returns-in_err-carried-clause-value
returns-in_err-carried-clause-value c =
    let told : c.from_residual-in_err-carried.result ≡ Err CommandWrong = search rules in
    let none = unknown_of c.args.command.now.code c.in_ok-sender.ensures c.in_err-carried.ensures.1 in
    told ∙ check_unknown c.args.room (given_in c.args.command.now) none
