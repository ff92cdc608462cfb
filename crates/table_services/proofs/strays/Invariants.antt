use Rattle.std.proofs.Common.{◌≡◌, ◌≤◌, get_or}
use lib.Dec.{eqb}
use Rattle.table_records.specs.Below.{all_below}
use Rattle.table_services.specs.Working.{may_stand}
use Rattle.table_services.proofs.strays.Given as goal

-- none is counted exactly if the bytes in front of `at` may all stand where they do
abbrev pub invariant-loop-at : goal.invariant-loop-at
invariant-loop-at l = (l.n ≤ l.at) × (eqb l.n 0 ≡ all_below l.at (λ k. may_stand l.end k (get_or l.row k 0)))
