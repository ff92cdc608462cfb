-- The record that is cut off at the table's end.
use Rattle.std.proofs.Common.{arith}
use Rattle.table_records.proofs.Records.{cut_record}
use Rattle.table_records.proofs.record_at.Goals as goal

pub returns-then-i-n-2 : goal.returns-then-i-n-2
returns-then-i-n-2 c = cut_record c.args.width c.args.i c.args.table.now (λ e. omega arith) (omega arith)
