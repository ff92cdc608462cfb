use Rattle.std.proofs.Common.{◌≡◌, ◌-◌, length, drop}
use Rattle.json_string.specs.WorkingText.{text_end}
use Rattle.json_string.proofs.text_end.Given as goal

abbrev pub invariant-loop-i : goal.invariant-loop-i
invariant-loop-i l = text_end l.at (drop l.at l.bytes) ≡ text_end l.i (drop l.i l.bytes)

abbrev pub decreases-loop-i : goal.decreases-loop-i
decreases-loop-i l = length l.bytes - l.i
