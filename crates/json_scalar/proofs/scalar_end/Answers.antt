-- By its first byte: a number, a literal name, or neither.
use Rattle.std.proofs.Common.{◌∙◌, sym, arith}
use Rattle.json_scan.proofs.Bytes.{below, above}
use Rattle.json_scalar.proofs.Steps.{scalar_over, scalar_minus, scalar_number, scalar_false, scalar_null, scalar_true, scalar_none}
use Rattle.json_scalar.proofs.scalar_end.Goals as goal

pub returns-then-at-bytes : goal.returns-then-at-bytes
returns-then-at-bytes c = sym (scalar_over _ _ (omega arith))

pub returns-in-45 : goal.returns-in-45
returns-in-45 c = c.number_end.ensures ∙ sym (scalar_minus _ _ (omega arith) c.in-45.is)

pub returns-in-48-to-57 : goal.returns-in-48-to-57
returns-in-48-to-57 c = c.number_end-in-48-to-57.ensures ∙ sym (scalar_number _ _ (omega arith) (omega arith) (omega arith))

pub returns-in-102 : goal.returns-in-102
returns-in-102 c = c.literal_end.ensures ∙ sym (scalar_false _ _ (omega arith) c.in-102.is)

pub returns-in-110 : goal.returns-in-110
returns-in-110 c = c.literal_end-in-110.ensures ∙ sym (scalar_null _ _ (omega arith) c.in-110.is)

pub returns-in-116 : goal.returns-in-116
returns-in-116 c = c.literal_end-in-116.ensures ∙ sym (scalar_true _ _ (omega arith) c.in-116.is)

pub returns-in_default : goal.returns-in_default
returns-in_default c = sym (scalar_none _ _ (omega arith) (λ e. omega (arith, e)) (below 48 57 _ (omega arith)) (λ e. omega (arith, e)) (λ e. omega (arith, e)) (λ e. omega (arith, e)))

pub returns-in_default-2 : goal.returns-in_default-2
returns-in_default-2 c = sym (scalar_none _ _ (omega arith) (λ e. omega (arith, e)) (above 48 57 _ (omega arith)) (λ e. omega (arith, e)) (λ e. omega (arith, e)) (λ e. omega (arith, e)))
