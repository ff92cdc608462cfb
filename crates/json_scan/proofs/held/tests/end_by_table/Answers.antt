-- The answers are those of the test, and so the end is.
use Rattle.std.proofs.Common.{◌∙◌}
use Rattle.bytes_number.proofs.Numbers.{bytes_of_lem}
use Rattle.json_scan.proofs.SameAnswers.{end_alike}
use Rattle.json_scan.proofs.held.tests.end_by_table.Goals as goal

pub returns : goal.returns
returns g c test says =
    c.end_held.ensures ∙ end_alike _ test (λ i l. says i _ (c.answers_of.ensures i l)) c.args.bytes.now c.args.at (bytes_of_lem c.args.bytes.now (λ i. (c.type_inv.bytes i).fits))
