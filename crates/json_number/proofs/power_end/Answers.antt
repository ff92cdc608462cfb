-- The digits behind e and its sign end the number, if there is one.
use Rattle.std.specs.Prelude.{Ok}
use Rattle.std.proofs.Common.{◌≡◌, ◌∙◌, sym, ap, [], arith}
use Rattle.json_scan.specs.Scan.{is_digit, sign, power}
use Rattle.json_scan.specs.WorkingEnds.{end_of}
use Rattle.json_number.proofs.Steps.{sign_digit, sign_wrong, power_digit, power_over}
use Rattle.json_number.proofs.Figures.{number-stands, behind_digits, digits_none, digits_some}
use Rattle.json_number.proofs.power_end.Goals as goal

-- no digit where one is due:
-- the number stops there
pub returns-then-end-at : goal.returns-then-end-at
returns-then-end-at c =
    let end : c.digits_end-end.result ≡ end_of is_digit c.args.bytes.now c.args.at = c.digits_end-end.ensures in
    sym (digits_none c.args.bytes.now c.args.at sign sign_wrong (omega (arith, end)))

pub returns : goal.returns
returns c =
    let bytes = c.args.bytes.now in
    let at = c.args.at in
    let end : c.digits_end-end.result ≡ end_of is_digit bytes at = c.digits_end-end.ensures in
    ap Ok end
    ∙ sym (digits_some bytes at sign power sign_digit power_digit (λ e. omega (arith, end, e)) ∙ number-stands power bytes (end_of is_digit bytes at) (λ l. power_over [] _ (behind_digits bytes at l)))
