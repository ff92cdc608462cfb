-- A part's size, by the case of its first byte.
use Rattle.std.proofs.Common.{arith, ◌∙◌}
use Rattle.frame_part_size.proofs.Sizes.{first_byte, size_short, size_small, size_long}
use Rattle.frame_part_size.proofs.size_at.Goals as goal

pub returns-then-short-lt-LONG : goal.returns-then-short-lt-LONG
returns-then-short-lt-LONG c =
    let first = first_byte c.args.s.now c.in_ok-first.ensures.value in
    c.data_at.ensures ∙ size_short c.args.s.now _ first.0 (c.from-short.ensures ∙ first.1) (omega arith)

pub returns-then-long-lt-LONG : goal.returns-then-long-lt-LONG
returns-then-long-lt-LONG c =
    let first = first_byte c.args.s.now c.in_ok-first.ensures.value in
    size_small c.args.s.now _ c.number_at-long.ensures (omega (arith, c.from-short.ensures, first.1)) (omega arith)

pub returns : goal.returns
returns c =
    let first = first_byte c.args.s.now c.in_ok-first.ensures.value in
    c.data_at-2.ensures ∙ size_long c.args.s.now _ c.number_at-long.ensures (omega (arith, c.from-short.ensures, first.1)) (omega arith)
