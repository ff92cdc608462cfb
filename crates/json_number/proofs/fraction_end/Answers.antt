-- A point and digits or none, and an exponent or none.
use Rattle.std.proofs.Common.{◌≡◌, ◌∙◌, refl, sym, ap, [], ℕ, ◌+◌, drop, arith}
use Rattle.json_scan.specs.Scan.{is_digit, leading_zero, point, fraction}
use Rattle.json_scan.specs.WorkingEnds.{end_of}
use Rattle.json_number.specs.WorkingFigures.{scale_end}
use Rattle.json_number.proofs.Steps.{zero_point, zero_ends, point_digit, point_wrong, fraction_digit, fraction_ends}
use Rattle.json_number.proofs.Figures.{number_on, number_stuck, number_scale, behind_digits, digits_none, digits_some}
use Rattle.json_number.proofs.fraction_end.Goals as goal

pub returns-then-at-bytes : goal.returns-then-at-bytes
returns-then-at-bytes c = sym (number_stuck leading_zero _ _ (λ l. absurd (omega (arith, l))))

pub returns-then-bytes-at-ne46 : goal.returns-then-bytes-at-ne46
returns-then-bytes-at-ne46 c = c.scale_end.ensures ∙ sym (number_scale _ _ leading_zero refl (λ l. zero_ends _ (λ e. omega (arith, e))))

pub returns-then-end-from : goal.returns-then-end-from
returns-then-end-from c =
    let bytes = c.args.bytes.now in
    let at = c.args.at in
    let end : c.digits_end-end.result ≡ end_of is_digit bytes (at + 1) = c.digits_end-end.ensures in
    sym (number_on leading_zero bytes at point (omega arith) (zero_point [] _ (omega arith)) ∙ digits_none bytes (at + 1) point point_wrong (omega (arith, end)))

pub returns : goal.returns
returns c =
    let bytes = c.args.bytes.now in
    let from = c.args.at + 1 in
    let end : c.digits_end-end.result ≡ end_of is_digit bytes from = c.digits_end-end.ensures in
    c.scale_end-2.ensures
    ∙ ap (λ (j : ℕ). scale_end j (drop j bytes)) end
    ∙ sym
    (number_on leading_zero bytes c.args.at point (omega arith) (zero_point [] _ (omega arith))
    ∙ digits_some bytes from point fraction point_digit fraction_digit (λ e. omega (arith, end, e))
    ∙ number_scale bytes (end_of is_digit bytes from) fraction refl (λ l. fraction_ends _ (behind_digits bytes from l)))
