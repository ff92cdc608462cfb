-- A digit first: int, and what is behind it.
use Rattle.std.proofs.Common.{◌∙◌, sym, [], arith}
use Rattle.json_scan.specs.Scan.{minus}
use Rattle.json_number.proofs.Steps.{minus_wrong}
use Rattle.json_number.proofs.Figures.{number_stuck, number-int}
use Rattle.json_number.proofs.number_end.Goals as goal

pub returns-then-at-bytes : goal.returns-then-at-bytes
returns-then-at-bytes c = sym (number_stuck minus _ _ (λ l. absurd (omega (arith, l))))

pub returns-then-not-is_digit : goal.returns-then-not-is_digit
returns-then-not-is_digit c = sym (number_stuck minus _ _ (λ l. minus_wrong [] _ (sym c.is_digit.ensures ∙ c.if-not-is_digit.true)))

pub returns : goal.returns
returns c = c.fraction_end.ensures ∙ sym (number-int _ _ (omega arith) (sym c.is_digit.ensures ∙ c.if-not-is_digit.false) c.int_end.ensures)
