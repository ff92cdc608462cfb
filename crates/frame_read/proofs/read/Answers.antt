-- The body is all there, and is read.
use Rattle.std.proofs.Common.{sym, ap, ◌∙◌}
use Rattle.frame_layout.specs.WorkingPlacing.{read_as}
use Rattle.frame_body.proofs.Judged.{body_short}
use Rattle.frame_read.specs.WorkingFront.{Opens}
use Rattle.frame_read.proofs.read.Goals as goal

pub returns : goal.returns
returns c =
    let opens : Opens c.args.bytes.now c.in_ok-find_body.field-0.now = c.in_ok-find_body.ensures in
    c.read_body.ensures ∙ ap read_as (body_short _ opens.short) ∙ sym (ap read_as opens.reading)
