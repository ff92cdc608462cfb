-- Where the test was passed, the part has the header's length, and its fields are the answer.
use Rattle.std.proofs.Common.{Ok, arith, ◌∙◌, sym, ap}
use Rattle.frame_header.specs.WorkingHead.{head_as}
use Rattle.frame_header.proofs.Heads.{told_right, right_long}
use Rattle.frame_header.proofs.read_header.Goals as goal

pub fields-requires : goal.fields-requires
fields-requires c = omega (arith, right_long c.args.p.now c.in_ok-test_header.ensures)

pub returns : goal.returns
returns c = ap Ok c.fields.ensures ∙ sym (ap head_as (told_right c.args.p.now c.in_ok-test_header.ensures))
