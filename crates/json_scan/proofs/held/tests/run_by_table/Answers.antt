-- The answers are those of the class, and so the run is.
use Rattle.std.proofs.Common.{◌∙◌, drop}
use mathlib.Core.Path.{sym}
use Rattle.bytes_number.proofs.Numbers.{bytes_of_lem, bytes_drop}
use Rattle.json_scan.specs.Scan.{holds}
use Rattle.json_scan.proofs.SameAnswers.{run_alike}
use Rattle.json_scan.proofs.Rest.{run_by}
use Rattle.json_scan.proofs.held.tests.run_by_table.Goals as goal

pub returns : goal.returns
returns g c k says =
    c.run_held.ensures
    ∙ run_alike _ (holds k) (λ i l. says i _ (c.answers_of.ensures i l)) c.args.count c.args.at (drop c.args.at c.args.bytes.now) (bytes_drop c.args.at c.args.bytes.now (bytes_of_lem c.args.bytes.now (λ i. (c.type_inv.bytes i).fits)))
    ∙ sym (run_by k c.args.count c.args.at (drop c.args.at c.args.bytes.now))
