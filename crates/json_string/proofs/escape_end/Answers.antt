-- An escape of one byte, or four hex digits behind u.
use Rattle.std.proofs.Common.{◌≡◌, ◌+◌, ◌≤◌, [], ◌∷◌, drop, replicate, refl, sym, ap, ◌∙◌, arith}
use mathlib.Core.Path.{subst⁻¹}
use Rattle.json_scan.specs.WorkingEnds.{Reached}
use Rattle.json_scan.specs.Scan.{hex, behind, text, escape, rest}
use Rattle.json_scan.specs.WorkingEnds.{followed, rest_end}
use Rattle.json_scan.specs.WorkingReads.{place_of, came}
use Rattle.json_scan.proofs.Rest.{rest_onward}
use Rattle.json_string.specs.WorkingText.{text_end}
use Rattle.json_string.proofs.Steps.{escape_step, escape_u, escape_wrong}
use Rattle.json_string.proofs.Texts.{from_over, from_on, from_wrong, text_rest}
use Rattle.json_string.proofs.escape_end.Goals as goal

pub returns-then-at-bytes : goal.returns-then-at-bytes
returns-then-at-bytes c = record { same = from_over (escape behind) _ _ (omega arith); onward = omega arith }

pub returns-then-is_escape : goal.returns-then-is_escape
returns-then-is_escape c =
    record { same = from_on (escape behind) _ _ (omega arith) (text behind) refl (escape_step behind [] _ (sym c.is_escape.ensures ∙ c.if-is_escape.true)); onward = omega arith }

pub returns-then-c-eq117 : goal.returns-then-c-eq117
returns-then-c-eq117 c =
    let bytes = c.args.bytes.now in
    let at = c.args.at in
    let told : c.run_end.result ≡ rest_end (replicate 4 hex) (at + 1) (drop (at + 1) bytes) = c.run_end.ensures in
    let on : at + 1 ≤ place_of (came c.run_end.result) = subst⁻¹ (λ (r : Reached). at + 1 ≤ place_of (came r)) told (rest_onward bytes (replicate 4 hex) (at + 1)) in
    record {
      same =
          from_on (escape behind) bytes at (omega arith) (rest hex (hex ∷ hex ∷ hex ∷ []) (text behind)) refl (escape_u behind [] _ (omega arith))
          ∙ text_rest bytes (replicate 4 hex) (at + 1)
          ∙ ap (λ (r : Reached). followed r (λ i. text_end i (drop i bytes))) (sym told);
      onward = omega (arith, on);
    }

pub returns : goal.returns
returns c =
    record { same = from_wrong (escape behind) _ _ (omega arith) (escape_wrong behind [] _ (sym c.is_escape.ensures ∙ c.if-is_escape.false) (λ e. omega arith)); onward = omega arith }
