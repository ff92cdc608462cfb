-- A string is read on behind a character, an escape and bytes that stand for themselves, and ends at its closing mark or where it cannot go on.
use Rattle.std.specs.Prelude.{Ok, Err}
use Rattle.std.proofs.Common.{◌≡◌, refl, ℕ, ◌+◌, ◌<◌, ◌≤◌, List, [], length, drop, get_or, sym, ap, ◌∙◌, arith, rules}
use Rattle.json_scan.specs.Scan.{tails_of, behind, text}
use Rattle.json_scan.specs.WorkingEnds.{Reached, end_of}
use Rattle.json_scan.proofs.Scanning.{inside}
use Rattle.json_scan.proofs.Leading.{end_more}
use Rattle.json_utf8.specs.WorkingCharacters.{character_end}
use Rattle.json_plain.specs.WorkingPlain.{is_plain}
use Rattle.json_string.specs.WorkingText.{text_end, Escaped}
use Rattle.json_string.proofs.Steps.{plain, text_quote}
use Rattle.json_string.proofs.Texts.{from_closed, text_passes, Goes, text_escaped, text_wide}
use Rattle.json_string.proofs.text_end.Goals as goal
use Rattle.json_string.proofs.text_end.Goals.{After-byte_at}

-- what is known with the byte y at the place i
record At (bytes : List ℕ) (at i y : ℕ) : Type 0 where
  is : y ≡ get_or bytes i 0
  so_far : text_end at (drop at bytes) ≡ text_end i (drop i bytes)

reading : (c : After-byte_at) → At c.args.bytes.now c.args.at c.loop-i.i c.byte_at.result
reading c = record { is = c.byte_at.ensures; so_far = c.loop-i.invariant }

module _ {bytes : List ℕ} {at i y : ℕ} (b : At bytes at i y) where
  -- where the string ends, and where it does that is read on from a place
  abbrev end : Reached
  end = text_end at (drop at bytes)

  abbrev next : ℕ → Reached
  next j = text_end j (drop j bytes)

  -- any byte but a 0 is there
  there : 0 < y → i < length bytes
  there l = inside bytes i (λ z. omega (arith, b.is, z))

  escaped : {r : Reached} → y ≡ 92 → Escaped bytes (i + 1) r → Goes bytes i r
  escaped e = text_escaped i (there (omega arith)) (omega (arith, b.is))

  wide : {r : Reached} → (32 ≤ y → 127 < y) → r ≡ character_end i (tails_of (get_or bytes i 0)) (drop (i + 1) bytes) → Goes bytes i r
  wide {r} f told =
      text_wide bytes i (λ l. omega (arith, b.is, f (omega (arith, b.is, l)))) (λ e. omega (arith, b.is, f (omega (arith, b.is, e)), e))
      told

  closes : y ≡ 34 → Ok (i + 1) ≡ end
  closes e = sym (b.so_far ∙ from_closed (text behind) bytes i (there (omega arith)) behind (text_quote behind [] _ (omega (arith, b.is))))

  -- a byte that stands for itself
  passed : {j : ℕ} → j ≡ end_of is_plain bytes i → end ≡ next j
  passed e = b.so_far ∙ text_passes bytes i ∙ ap next (sym e)

  passed_on : {j : ℕ} → (y ≡ 34 → ⊥) → (y ≡ 92 → ⊥) → 32 ≤ y → y < 128 → j ≡ end_of is_plain bytes i → (i < length bytes) × (i < j)
  passed_on q s l m e =
      let here = there (omega arith) in
      let one = end_more is_plain bytes i here (plain (get_or bytes i 0) (λ e. q (b.is ∙ e)) (λ e. s (b.is ∙ e)) (omega (arith, b.is)) (omega (arith, b.is))) in
      (here, omega (arith, e, one))

pub returns-in-34 : goal.returns-in-34
returns-in-34 c = closes (reading (goal.at.returns-in-34 c).After-byte_at) c.in-34.is

pub returns-in_err-i-in-92 : goal.returns-in_err-i-in-92
returns-in_err-i-in-92 c =
    let b = reading (goal.at.returns-in_err-i-in-92 c).After-byte_at in
    let stops : c.from_residual.result ≡ Err c.in_err-i-in-92.field-0.0 = search rules in
    stops ∙ sym (b.so_far ∙ (escaped b c.in-92.is c.in_err-i-in-92.ensures).same)

pub loop-i-preserved-in-92 : goal.loop-i-preserved-in-92
loop-i-preserved-in-92 c =
    let b = reading (goal.at.loop-i-preserved-in-92 c).After-byte_at in
    b.so_far ∙ (escaped b c.in-92.is c.in_ok-i-in-92.ensures).same

pub loop-i-smaller-then-this-lt128 : goal.loop-i-smaller-then-this-lt128
loop-i-smaller-then-this-lt128 c =
    let b = reading (goal.at.loop-i-smaller-then-this-lt128 c).After-byte_at in
    omega (arith, passed_on b (λ e. omega (arith, e)) (λ e. omega (arith, e)) (omega arith) (omega arith) c.plain_end-i.ensures)

pub loop-i-preserved-then-this-lt128 : goal.loop-i-preserved-then-this-lt128
loop-i-preserved-then-this-lt128 c = passed (reading (goal.at.loop-i-preserved-then-this-lt128 c).After-byte_at) c.plain_end-i.ensures

pub returns-in_err-i-in_default : goal.returns-in_err-i-in_default
returns-in_err-i-in_default c =
    let b = reading (goal.at.returns-in_err-i-in_default c).After-byte_at in
    let stops : c.from_residual-in_err-i-in_default.result ≡ Err c.in_err-i-in_default.field-0.0 = search rules in
    stops ∙ sym (b.so_far ∙ (wide b (λ l. omega (arith, l)) c.in_err-i-in_default.ensures).same)

pub loop-i-smaller : goal.loop-i-smaller
loop-i-smaller c =
    let b = reading (goal.at.loop-i-smaller c).After-byte_at in
    omega (arith, (wide b (λ l. omega (arith, l)) c.in_ok-i-in_default.ensures).onward _ refl)

pub loop-i-preserved : goal.loop-i-preserved
loop-i-preserved c =
    let b = reading (goal.at.loop-i-preserved c).After-byte_at in
    b.so_far ∙ (wide b (λ l. omega (arith, l)) c.in_ok-i-in_default.ensures).same
