-- An e and what is behind it, or nothing.
use Rattle.std.proofs.Common.{◌∙◌, sym, arith}
use Rattle.json_number.proofs.Figures.{scale_over, scale_e, scale_none}
use Rattle.json_number.proofs.scale_end.Goals as goal

pub returns-then-at-bytes : goal.returns-then-at-bytes
returns-then-at-bytes c = sym (scale_over _ _ (omega arith))

pub returns-then-is_e : goal.returns-then-is_e
returns-then-is_e c = c.exponent_end.ensures ∙ sym (scale_e _ _ (omega arith) (sym c.is_e.ensures ∙ c.if-is_e.true))

pub returns : goal.returns
returns c = scale_none _ _ (omega arith) (sym c.is_e.ensures ∙ c.if-is_e.false) (omega arith)
