use Rattle.std.proofs.Common.{◌≡◌}
use Rattle.table_distinct.specs.WorkingChains.{blocks}
use Rattle.table_distinct.proofs.mix.Given as goal

-- h is what the first k blocks give
abbrev pub invariant-loop-k : goal.invariant-loop-k
invariant-loop-k l = l.h ≡ blocks l.s l.k
