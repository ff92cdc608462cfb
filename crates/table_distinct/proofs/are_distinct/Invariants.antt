use Rattle.table_distinct.proofs.Chains.{Chained}
use Rattle.table_distinct.proofs.are_distinct.Given as goal

-- the records below i are in their chains, and none of them is there twice
abbrev pub invariant-loop-i : goal.invariant-loop-i
invariant-loop-i l = Chained l.size l.records l.head l.next l.i
