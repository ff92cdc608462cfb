use Rattle.std.proofs.Common.{◌≡◌, ◌-◌, length}
use Rattle.json_scan.specs.WorkingEnds.{end_of}
use Rattle.json_plain.specs.WorkingPlain.{is_plain}
use Rattle.json_plain.proofs.plain_end.Given as goal

abbrev pub invariant-loop-i : goal.invariant-loop-i
invariant-loop-i l = end_of is_plain l.bytes l.at ≡ end_of is_plain l.bytes l.i

abbrev pub decreases-loop-i : goal.decreases-loop-i
decreases-loop-i l = length l.bytes - l.i
