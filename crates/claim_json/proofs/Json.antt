-- The claim of specs/Json.antt: the verdict is the grammar's, and the record tells it.
use Rattle.std.specs.Prelude.{Result, Ok, Err}
use mathlib.Core.Path.{◌≡◌, refl, sym, ap, subst, ◌∙◌}
use Prim.Native.Nat.{ℕ, ◌<◌, ◌≤◌}
use mathlib.Core.List.{List, [], ◌∷◌}
use native.Mathlib.Omega.{arith}
use lib.ListN.{length, drop}
use Rattle.bytes_number.specs.Number.{row_bytes}
use Rattle.bytes_number.specs.Laid.{laid}
use Rattle.bytes_number.proofs.Rows.{row_number}
use Rattle.json_grammar.specs.Json.{payload_to, most_deep}
use Rattle.json_grammar.specs.Places.{NoAt, DeepAt}
use Rattle.json_scan.specs.Scan.{Verdict}
use Rattle.json_scan.specs.declared.Fault.TheVariants.{NotJson, TooDeep}
use Rattle.json_scan.specs.Scan.{verdict_of}
use Rattle.json_sound.proofs.Places.{Told, says, good_json, no_at, deep_at}
use Rattle.json_complete.proofs.Payloads.{payload_reached}
use Rattle.call_specs.specs.JsonCalls.{json_numbers, told_byte, json_return, TellsJson}
use Rattle.claim_json.specs.Json.{answer_in, byte_in, JsonOf, JsonIsTheGrammar}

-- ---- the record's two numbers

abbrev answer_of : Verdict → ℕ
answer_of (Ok tt) = 1
answer_of (Err (NotJson place)) = 2
answer_of (Err (TooDeep place)) = 0

abbrev byte_of : Verdict → ℕ
byte_of (Ok tt) = 0
byte_of (Err (NotJson place)) = told_byte place
byte_of (Err (TooDeep place)) = told_byte place

short : (place : ℕ) → told_byte place < 4294967296
short place = omega arith

module _ (lent : List ℕ) where
  numbers_told : (v : Verdict) → (answer_in (laid (row_bytes (json_numbers v)) lent) ≡ answer_of v) × (byte_in (laid (row_bytes (json_numbers v)) lent) ≡ byte_of v)
  numbers_told (Ok tt) = (row_number (1 ∷ 0 ∷ []) (drop 8 lent) 0 (omega arith) (omega arith), row_number (1 ∷ 0 ∷ []) (drop 8 lent) 1 (omega arith) (omega arith))
  numbers_told (Err (NotJson place)) =
      (row_number (2 ∷ told_byte place ∷ []) (drop 8 lent) 0 (omega arith) (omega arith), row_number (2 ∷ told_byte place ∷ []) (drop 8 lent) 1 (omega arith) (short place))
  numbers_told (Err (TooDeep place)) =
      (row_number (0 ∷ told_byte place ∷ []) (drop 8 lent) 0 (omega arith) (omega arith), row_number (0 ∷ told_byte place ∷ []) (drop 8 lent) 1 (omega arith) (short place))

  tail_kept : (v : Verdict) → drop 8 (laid (row_bytes (json_numbers v)) lent) ≡ drop 8 lent
  tail_kept (Ok tt) = refl
  tail_kept (Err (NotJson place)) = refl
  tail_kept (Err (TooDeep place)) = refl

  module _ (payload : List ℕ) (r : ℕ) (row : List ℕ) (tells : TellsJson (verdict_of payload) lent r row) where
    -- of a verdict, what the call told
    told_of_lem : {v : Verdict} → verdict_of payload ≡ v → (r ≡ json_return v) × (answer_in row ≡ answer_of v) × (byte_in row ≡ byte_of v)
    told_of_lem {v} e =
        let t = subst (λ (w : Verdict). TellsJson w lent r row) e tells in
        (t.returns, ap answer_in t.lists ∙ (numbers_told v).0, ap byte_in t.lists ∙ (numbers_told v).1)

    -- of what was told, the verdict
    module _ (v : Verdict) (is : verdict_of payload ≡ v) where
      said : Told payload_reached payload v
      said = subst (Told payload_reached payload) is (says payload_reached payload)

    good_of : (v : Verdict) → verdict_of payload ≡ v → answer_in row ≡ 1 → payload_to most_deep payload
    good_of (Ok tt) is e = said (Ok tt) is
    good_of (Err (NotJson place)) is e = absurd (omega (arith, (told_of_lem is).1, e))
    good_of (Err (TooDeep place)) is e = absurd (omega (arith, (told_of_lem is).1, e))

    exactly_told : (place : ℕ) → place ≤ 4294967295 → place ≡ told_byte place
    exactly_told place l = omega (arith, l)

    wrong_of : (v : Verdict) → verdict_of payload ≡ v → answer_in row ≡ 2 → length payload ≤ 4294967295 → NoAt payload (byte_in row)
    wrong_of (Ok tt) is e l = absurd (omega (arith, (told_of_lem is).1, e))
    wrong_of (Err (NotJson place)) is e l =
        let n = said (Err (NotJson place)) is in
        subst (NoAt payload) (exactly_told place (omega (arith, n.within, l)) ∙ sym (told_of_lem is).2) n
    wrong_of (Err (TooDeep place)) is e l = absurd (omega (arith, (told_of_lem is).1, e))

    nested_of : (v : Verdict) → verdict_of payload ≡ v → answer_in row ≡ 0 → length payload ≤ 4294967295 → DeepAt payload (byte_in row)
    nested_of (Ok tt) is e l = absurd (omega (arith, (told_of_lem is).1, e))
    nested_of (Err (NotJson place)) is e l = absurd (omega (arith, (told_of_lem is).1, e))
    nested_of (Err (TooDeep place)) is e l =
        let d = said (Err (TooDeep place)) is in
        subst (DeepAt payload) (exactly_told place (omega (arith, d.within, l)) ∙ sym (told_of_lem is).2) d

    few_answers : (v : Verdict) → verdict_of payload ≡ v → answer_in row ≤ 2
    few_answers (Ok tt) is = omega (arith, (told_of_lem is).1)
    few_answers (Err (NotJson place)) is = omega (arith, (told_of_lem is).1)
    few_answers (Err (TooDeep place)) is = omega (arith, (told_of_lem is).1)

    json_of : JsonOf payload lent r row
    json_of =
        record {
          good = good_of (verdict_of payload) refl;
          yes = λ g. told_of_lem (good_json payload_reached payload g);
          wrong = wrong_of (verdict_of payload) refl;
          no = λ place n. told_of_lem (no_at payload_reached payload place n);
          nested = nested_of (verdict_of payload) refl;
          deep = λ place d. told_of_lem (deep_at payload_reached payload place d);
          answers = few_answers (verdict_of payload) refl;
          tail = ap (drop 8) tells.lists ∙ tail_kept (verdict_of payload);
        }

pub json_is_the_grammar : (payload : List ℕ) → JsonIsTheGrammar payload
json_is_the_grammar payload lent r row room does = json_of lent payload r row (does.checks room)
