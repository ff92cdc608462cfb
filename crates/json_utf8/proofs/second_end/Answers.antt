-- A second byte stands there, and so many tails behind it; or none does.
use Rattle.std.proofs.Common.{◌≡◌, ℕ, ◌+◌, ◌<◌, true, ◌∷◌, length, drop, get_or, replicate, arith, sym, ap, ◌∙◌}
use Rattle.json_scan.specs.Scan.{holds, tail, second_of}
use Rattle.json_scan.specs.WorkingEnds.{rest_end}
use Rattle.json_scan.proofs.Rest.{Passed, passed_none, passed_held, passed_stuck}
use Rattle.json_utf8.proofs.Leads.{second_no_zero}
use Rattle.json_utf8.proofs.second_end.Goals as goal
use Rattle.json_utf8.proofs.second_end.Goals.{After-is_second}

-- what was tested is what may stand there
tested : (c : After-is_second) → holds (second_of c.args.lead) (get_or c.args.bytes.now c.args.at 0) ≡ c.is_second.result
tested c = sym (c.is_second.ensures ∙ ap (holds (second_of c.args.lead)) c.byte_at.ensures)

-- a second byte stands there
further :
    (c : After-is_second) → c.is_second.result ≡ true →
    (c.args.at < length c.args.bytes.now) × Passed c.args.bytes.now c.args.at (second_of c.args.lead ∷ replicate c.args.more tail) (c.args.at + 1) (replicate c.args.more tail)
further c e = passed_held (second_no_zero _) passed_none (tested c ∙ e)

pub returns-then-not-is_second : goal.returns-then-not-is_second
returns-then-not-is_second c = passed_stuck passed_none (tested (goal.at.returns-then-not-is_second c).After-is_second ∙ c.if-not-is_second.true)

pub overflow_add-at : goal.overflow_add-at
overflow_add-at c = let l = (further (goal.at.overflow_add-at c).After-is_second c.if-not-is_second.false).0 in omega arith

pub returns : goal.returns
returns c =
    let from = c.args.at + 1 in
    c.run_end.ensures
    ∙ ap (λ (n : ℕ). rest_end (replicate n tail) from (drop from c.args.bytes.now)) c.from.ensures
    ∙ sym (further (goal.at.returns c).After-is_second c.if-not-is_second.false).1.same
