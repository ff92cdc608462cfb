-- h is what the first k blocks give.
use Rattle.std.proofs.Common.{arith, sym, ap, ◌∙◌, ◌≡◌, ◌-◌, ◌*◌, ◌/◌, ℕ, length}
use Rattle.table_distinct.specs.WorkingChains.{stirred, blocks}
use Rattle.table_distinct.proofs.Chains.{blocks-none, blocks_more, mix_short, mix_whole}
use Rattle.table_distinct.proofs.mix.Goals as goal

pub returns-then-s-lt8 : goal.returns-then-s-lt8
returns-then-s-lt8 c = sym (mix_short _ (omega arith))

pub loop-k-init : goal.loop-k-init
loop-k-init c = sym (blocks-none _)

pub loop-k-preserved : goal.loop-k-preserved
loop-k-preserved c =
    let s = c.args.s.now in
    c.stir-h.ensures ∙ ap (λ (h : ℕ). stirred h s (c.loop-k.k * 8)) c.loop-k.invariant ∙ sym (blocks_more s c.loop-k.k)

pub returns : goal.returns
returns c =
    let s = c.args.s.now in
    let whole : c.loop-k.k ≡ length s / 8 = omega arith in
    c.stir.ensures ∙ ap (λ (h : ℕ). stirred h s (length s - 8)) (c.loop-k.invariant ∙ ap (blocks s) whole) ∙ sym (mix_whole s (omega arith))
