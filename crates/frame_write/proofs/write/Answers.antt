-- Where a frame's length is told, the frame fits the output, and what is written is the frame.
use Rattle.std.proofs.Common.{sym, ap, ◌∙◌, List, ℕ, length}
use Rattle.refusal.specs.Answer.{Answer, written_over}
use Rattle.frame_write_check.proofs.Answers.{Told, told_given}
use Rattle.frame_write.proofs.write.Goals as goal
use Rattle.frame_write.proofs.write.Goals.{In_ok-n}

told : (c : In_ok-n) → Told (length c.args.out.now) c.args.draft.now c.in_ok-n.n
told c = told_given (length c.args.out.now) c.args.draft.now (sym c.in_ok-n.ensures)

pub write_frame-requires-clause-routes_len : goal.write_frame-requires-clause-routes_len
write_frame-requires-clause-routes_len c =
    let t = told (goal.at.write_frame-requires-clause-routes_len c).In_ok-n in
    (t.whole, t.short)

pub write_frame-requires-clause-n_value : goal.write_frame-requires-clause-n_value
write_frame-requires-clause-n_value c = (told (goal.at.write_frame-requires-clause-n_value c).In_ok-n).long

pub write_frame-requires-clause-n_in_bounds : goal.write_frame-requires-clause-n_in_bounds
write_frame-requires-clause-n_in_bounds c = (told (goal.at.write_frame-requires-clause-n_in_bounds c).In_ok-n).fits

-- the output is what was lent with the frame over its front,
-- and nothing else
pub returns-clause-out_after : goal.returns-clause-out_after
returns-clause-out_after c =
    let t = told (goal.at.returns-clause-out_after c).In_ok-n in
    c.write_frame.ensures ∙ ap (λ (a : Answer (List ℕ)). written_over a c.args.out.now) (sym t.writes)
