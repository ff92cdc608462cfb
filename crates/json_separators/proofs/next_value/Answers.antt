-- By the byte that stands there.
use Rattle.std.proofs.Common.{arith}
use Rattle.json_separators.proofs.Nexts.{next_over, next_closed, next_more, next_neither}
use Rattle.json_separators.proofs.next_value.Goals as goal

pub returns-then-i-bytes : goal.returns-then-i-bytes
returns-then-i-bytes c = next_over _ _ _ c.token_at-mark.ensures (omega arith) (omega arith)

pub returns-then-mark-close : goal.returns-then-mark-close
returns-then-mark-close c = next_closed _ _ _ c.token_at-mark.ensures (omega arith) (omega arith) (omega arith)

pub returns-then-mark-eq44 : goal.returns-then-mark-eq44
returns-then-mark-eq44 c = next_more _ _ _ c.token_at-mark.ensures (omega arith) (λ e. omega (arith, e)) (omega arith) (omega arith)

pub returns : goal.returns
returns c = next_neither _ _ _ c.token_at-mark.ensures (omega arith) (λ e. omega (arith, e)) (λ e. omega (arith, e)) (omega arith)
