-- 32 and 33, and what is known of a command whose sender and number are.
use Rattle.std.proofs.Common.{◌≡◌, Err, rules, sym, ap, ◌∙◌}
use Rattle.refusal.specs.declared.Refusal.TheVariants.{MarkWrong, CommandWrong}
use Rattle.mdp_command.specs.Working.{command_read_as}
use Rattle.mdp_read.specs.WorkingOpening.{sender_or_0, code_or_0}
use Rattle.mdp_read.proofs.Opening.{some_number, no_zero, mark_wrong, command_wrong, opens, opened_judged}
use Rattle.mdp_read.proofs.judge.judge.Goals as goal

pub returns-in_err-sender : goal.returns-in_err-sender
returns-in_err-sender c =
    let told : c.from_residual.result ≡ Err MarkWrong = search rules in
    told ∙ mark_wrong c.requires c.sender_at.ensures (ap sender_or_0 c.in_err-sender.ensures.ok_part)

pub returns-in_err-code : goal.returns-in_err-code
returns-in_err-code c =
    let told : c.from_residual-in_err-code.result ≡ Err CommandWrong = search rules in
    let sender = ap sender_or_0 (sym c.in_ok-sender.ensures.ok_part) ∙ c.sender_at.ensures in
    let code = ap code_or_0 (sym c.in_err-code.ensures.ok_part) ∙ c.code_at.ensures in
    told ∙ command_wrong c.requires sender (some_number c.in_ok-sender.sender) code (no_zero c.in_ok-sender.sender)

pub returns-in_err-carried : goal.returns-in_err-carried
returns-in_err-carried c =
    let told : c.from_residual-in_err-carried.result ≡ Err CommandWrong = search rules in
    let sender = ap sender_or_0 (sym c.in_ok-sender.ensures.ok_part) ∙ c.sender_at.ensures in
    let code = ap code_or_0 (sym c.in_ok-code.ensures.ok_part) ∙ c.code_at.ensures in
    told ∙ command_wrong c.requires sender (some_number c.in_ok-sender.sender) code c.in_err-carried.ensures.1

pub places-requires : goal.places-requires
places-requires c =
    let sender = ap sender_or_0 (sym c.in_ok-sender.ensures.ok_part) ∙ c.sender_at.ensures in
    let code = ap code_or_0 (sym c.in_ok-code.ensures.ok_part) ∙ c.code_at.ensures in
    let k = c.in_ok-carried.ensures in
    record { over = opens c.requires sender (some_number c.in_ok-sender.sender) code k.0; carried = k }

pub returns : goal.returns
returns c =
    let sender = ap sender_or_0 (sym c.in_ok-sender.ensures.ok_part) ∙ c.sender_at.ensures in
    let code = ap code_or_0 (sym c.in_ok-code.ensures.ok_part) ∙ c.code_at.ensures in
    let o = opens c.requires sender (some_number c.in_ok-sender.sender) code c.in_ok-carried.ensures.0 in
    c.places.ensures ∙ sym (ap command_read_as (opened_judged o))
