use Rattle.std.proofs.Common.{◌*◌}
use Rattle.bytes_number.proofs.Rows.{Rowed}
use Rattle.bytes_number.proofs.put_row.Given as goal

abbrev pub invariant-loop-i : goal.invariant-loop-i
invariant-loop-i l = Rowed l.row l.fn.out l.out (4 * l.i) l.i
