use Rattle.call_read_record.proofs.Pairs.{Paired}
use Rattle.call_read_record.proofs.put_pairs.Given as goal

abbrev pub invariant-loop-i : goal.invariant-loop-i
invariant-loop-i l = Paired l.row l.fn.out l.out l.i
