-- 3, by the body's length.
use Rattle.std.proofs.Common.{arith, sym, ap, ◌∙◌}
use Rattle.frame_layout.specs.WorkingPlacing.{read_as}
use Rattle.frame_body.proofs.Judged.{body_long, body_short}
use Rattle.frame_body.proofs.read_body.Goals as goal

pub returns-then-body-gt-MOST_BODY : goal.returns-then-body-gt-MOST_BODY
returns-then-body-gt-MOST_BODY c = sym (ap read_as (body_long c.args.body.now (omega arith)))

pub returns : goal.returns
returns c = c.judge.ensures ∙ sym (ap read_as (body_short c.args.body.now (omega arith)))
