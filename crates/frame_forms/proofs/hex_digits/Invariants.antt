use Rattle.std.proofs.Common.{◌≡◌, ◌≤◌, ◌+◌}
use Rattle.frame_forms.specs.Working.{hex_in}
use Rattle.frame_forms.proofs.hex_digits.Given as goal

abbrev pub invariant-loop-i : goal.invariant-loop-i
invariant-loop-i l = (l.i ≤ 16) × (l.n ≡ hex_in 0 l.i l.s + hex_in 16 l.i l.s + hex_in 20 l.i l.s)
