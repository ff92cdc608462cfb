-- Each turn counts one byte more in each of the three stretches.
use Rattle.std.proofs.Common.{◌≡◌, ◌+◌, ℕ, arith, ap, ◌∙◌}
use Rattle.std.proofs.Math.Nat.{zero-add}
use Rattle.frame_forms.specs.Working.{hex_in}
use Rattle.frame_forms.proofs.Stretches.{hex_in_more, hex_in_le}
use Rattle.frame_forms.proofs.hex_digits.Goals as goal

pub overflow_add-n-in-loop-i-2 : goal.overflow_add-n-in-loop-i-2
overflow_add-n-in-loop-i-2 c =
    let s = c.args.s.now in
    omega (arith, hex_in_le s 0 c.loop-i.i, hex_in_le s 16 c.loop-i.i, hex_in_le s 20 c.loop-i.i)

pub loop-i-preserved : goal.loop-i-preserved
loop-i-preserved c =
    let s = c.args.s.now in
    let i = c.loop-i.i in
    let first = rw (zero-add i) at (hex_in_more s 0 i (omega arith)) in
    (omega arith, omega (arith, first, hex_in_more s 16 i (omega arith), hex_in_more s 20 i (omega arith)))

pub returns : goal.returns
returns c =
    let s = c.args.s.now in
    let all : c.loop-i.i ≡ 16 = omega arith in
    c.loop-i.invariant.1 ∙ ap (λ (n : ℕ). hex_in 0 n s + hex_in 16 n s + hex_in 20 n s) all
