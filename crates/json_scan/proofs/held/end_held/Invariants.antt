use Rattle.std.proofs.Common.{◌≡◌, length, ◌-◌}
use Rattle.json_scan.specs.WorkingEnds.{end_of}
use Rattle.json_scan.proofs.held.end_held.Given as goal

-- the bytes so far pass the test
abbrev pub invariant-loop-i : goal.invariant-loop-i
invariant-loop-i g l = end_of (g.T.HeldTest.test l.test) l.bytes l.at ≡ end_of (g.T.HeldTest.test l.test) l.bytes l.i

abbrev pub decreases-loop-i : goal.decreases-loop-i
decreases-loop-i g l = length l.bytes - l.i
