-- A command whose length was told is written, and of any other nothing.
use Rattle.std.proofs.Common.{◌≡◌, ℕ, List, Err, length, rules, sym, ap, ◌∙◌}
use Rattle.refusal.specs.declared.Refusal.TheVariants.{CommandWrong}
use Rattle.refusal.specs.Answer.{Answer, written_over}
use Rattle.mdp_command.specs.CommandWriting.{command_into}
use Rattle.mdp_command.specs.WorkingGiven.{given_in}
use Rattle.mdp_write_check.proofs.Checking.{unknown_of, no_sender, check_unknown}
use Rattle.mdp_write.proofs.Wholes.{told_given, untouched}
use Rattle.mdp_write.proofs.write_command.Goals as goal

pub returns-in_err-sender-clause-value : goal.returns-in_err-sender-clause-value
returns-in_err-sender-clause-value c =
    let told : c.from_residual.result ≡ Err CommandWrong = search rules in
    let none = c.in_err-sender.ensures in
    told ∙ check_unknown (length c.args.out.now) (given_in c.args.command.now) (no_sender _ _ none.1 none.2)

pub returns-in_err-sender-clause-out_after : goal.returns-in_err-sender-clause-out_after
returns-in_err-sender-clause-out_after c =
    let none = c.in_err-sender.ensures in
    let g = given_in c.args.command.now in
    untouched (command_into (length c.args.out.now) g) c.args.out.now (check_unknown (length c.args.out.now) g (no_sender _ _ none.1 none.2))

pub returns-in_err-carried-clause-value : goal.returns-in_err-carried-clause-value
returns-in_err-carried-clause-value c =
    let told : c.from_residual-in_err-carried.result ≡ Err CommandWrong = search rules in
    let none = unknown_of c.args.command.now.code c.in_ok-sender.ensures c.in_err-carried.ensures.1 in
    told ∙ check_unknown (length c.args.out.now) (given_in c.args.command.now) none

pub returns-in_err-carried-clause-out_after : goal.returns-in_err-carried-clause-out_after
returns-in_err-carried-clause-out_after c =
    let none = unknown_of c.args.command.now.code c.in_ok-sender.ensures c.in_err-carried.ensures.1 in
    let g = given_in c.args.command.now in
    untouched (command_into (length c.args.out.now) g) c.args.out.now (check_unknown (length c.args.out.now) g none)

pub write_whole-requires-clause-body_in_bounds : goal.write_whole-requires-clause-body_in_bounds
write_whole-requires-clause-body_in_bounds c =
    (told_given (length c.args.out.now) (given_in c.args.command.now) c.in_ok-n.ensures.body_value (sym c.in_ok-n.ensures.value)).fits

pub returns-clause-out_after : goal.returns-clause-out_after
returns-clause-out_after c =
    let t = told_given (length c.args.out.now) (given_in c.args.command.now) c.in_ok-n.ensures.body_value (sym c.in_ok-n.ensures.value) in
    c.write_whole.ensures ∙ ap (λ (a : Answer (List ℕ)). written_over a c.args.out.now) (sym t.writes)
