-- A sign or none, and digits.
use Rattle.std.proofs.Common.{◌∙◌, refl, sym, [], arith}
use Rattle.json_scan.specs.Scan.{exponent, sign}
use Rattle.json_number.proofs.Steps.{exponent_sign, exponent_bare}
use Rattle.json_number.proofs.Figures.{number_on, number_stuck, number_alike}
use Rattle.json_number.proofs.exponent_end.Goals as goal

pub returns-then-at-bytes : goal.returns-then-at-bytes
returns-then-at-bytes c = sym (number_stuck exponent _ _ (λ l. absurd (omega (arith, l))))

pub returns-then-is_sign : goal.returns-then-is_sign
returns-then-is_sign c = c.power_end.ensures ∙ sym (number_on exponent _ _ sign (omega arith) (exponent_sign [] _ (sym c.is_sign.ensures ∙ c.if-is_sign.true)))

pub returns : goal.returns
returns c = c.power_end-2.ensures ∙ sym (number_alike exponent sign _ _ refl (λ l. exponent_bare [] _ (sym c.is_sign.ensures ∙ c.if-is_sign.false)))
