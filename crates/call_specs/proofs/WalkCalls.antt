-- The walk call: one law for each way that it ends.
use Rattle.std.specs.Prelude.{Result, Ok, Err}
use mathlib.Core.Path.{◌≡◌, refl, sym, ap, ◌∙◌}
use Prim.Native.Nat.{ℕ, ◌<◌, ◌≤◌}
use mathlib.Core.List.{List, [], ◌∷◌, ◌++◌}
use native.Mathlib.Omega.{arith}
use lib.ListN.{length, length-append}
use Rattle.bytes_number.specs.Number.{row_bytes}
use Rattle.bytes_number.specs.WorkingLays.{laid_if_room}
use Rattle.bytes_number.proofs.Rows.{row_length}
use Rattle.bytes_number.proofs.Buffers.{laid_room}
use Rattle.refusal.specs.declared.Refusal.{Refusal}
use Rattle.refusal.specs.declared.Refusal.TheVariants.{OutputShort}
use Rattle.refusal.specs.Refusals.{number_of}
use Rattle.refusal.specs.Answer.{Answer, refused, answered}
use Rattle.step_routing.specs.declared.Broker.{Broker}
use Rattle.step_routing.specs.Routed.{Tables, Outcome}
use Rattle.step_routing.specs.declared.Stepped.{Stepped}
use Rattle.step_pass.specs.Step.{told_as}
use Rattle.walk.specs.declared.Walked.{Walked}
use Rattle.walk.specs.Walk.{Walk, walk_of}
use Rattle.walk.specs.WorkingPasses.{Walks}
use Rattle.call_step_record.specs.Steps.{last_row, frame_length}
use Rattle.call_step_record.specs.WorkingRows.{refusal_in, walk_row}
use Rattle.call_specs.specs.Calls.{returned, walk_numbers, Reports, Plays}
use Rattle.call_specs.proofs.StepCalls.{four_numbers}

-- a short record
pub plays_short : {t : Tables} {b : Broker} {buffer row : List ℕ} {r : ℕ} → length row < 24 → r ≡ number_of OutputShort → Plays t b buffer row r buffer row
plays_short h e = record { short = λ l. (e, refl, refl); walks = λ l. absurd (omega arith) }

-- a record with room
pub plays_on : {t : Tables} {b : Broker} {buffer row left listed : List ℕ} {r : ℕ} → 24 ≤ length row → Reports (walk_of t b buffer) row r left listed → Plays t b buffer row r left listed
plays_on h e = record { short = λ l. absurd (omega arith); walks = λ l. e }

-- what a step says is what its answer returns
told-returned : (answer : Answer Outcome) → refusal_in (told_as answer) ≡ returned answer
told-returned (refused r) = refl
told-returned (answered o) = refl

-- the last step has four numbers, refused or not
four_long : (s : Result Stepped Refusal) (n : ℕ) → length (last_row s n) ≡ 4
four_long (Err r) n = refl
four_long (Ok s) n = four_numbers s n

-- a refused step has the same numbers whatever the frame's length
none_long : (s : Result Stepped Refusal) (n k : ℕ) → (refusal_in s ≡ 0 → ⊥) → last_row s n ≡ last_row s k
none_long (Err r) n k some = refl
none_long (Ok s) n k some = absurd (some refl)

module _ (w : Walk) {walked : Walked} {left : List ℕ} (does : Walks w walked left) where
  says : walked.step ≡ told_as w.answer
  says = ap (λ (x : Walked). x.step) does.told

  numbers : (n : ℕ) → walk_row walked n ≡ last_row (told_as w.answer) n ++ (w.rank ∷ w.links ∷ [])
  numbers n = ap (λ (x : Walked). walk_row x n) does.told

  six : length (row_bytes (walk_numbers w)) ≡ 24
  six =
      omega (arith, row_length (walk_numbers w), length-append (last_row (told_as w.answer) (frame_length w.left)) (w.rank ∷ w.links ∷ []), four_long (told_as w.answer) (frame_length w.left))

  pub reports : {r n : ℕ} {row ns listed : List ℕ} → r ≡ refusal_in walked.step → 24 ≤ length row → listed ≡ laid_if_room (row_bytes ns) row →
      n ≡ frame_length left → ns ≡ walk_row walked n → Reports w row r left listed
  reports {n = n} {row} told room lists size e =
      let are = e ∙ numbers n ∙ ap (λ (k : ℕ). last_row (told_as w.answer) k ++ (w.rank ∷ w.links ∷ [])) (size ∙ ap frame_length does.leaves) in
      record {
        returns = told ∙ ap refusal_in says ∙ told-returned w.answer;
        leaves = does.leaves;
        lists = lists ∙ ap (λ (l : List ℕ). laid_if_room (row_bytes l) row) are ∙ laid_room (row_bytes (walk_numbers w)) row (omega (arith, six));
      }

  module _ {r : ℕ} {row ns listed : List ℕ} (told : r ≡ refusal_in walked.step) (room : 24 ≤ length row) (lists : listed ≡ laid_if_room (row_bytes ns) row) where
    pub reports_no : (r ≡ 0 → ⊥) → ns ≡ walk_row walked 0 → Reports w row r left listed
    reports_no some e =
        reports told room lists refl
        (e ∙ numbers 0
        ∙ ap (λ (l : List ℕ). l ++ (w.rank ∷ w.links ∷ [])) (none_long (told_as w.answer) 0 (frame_length left) (λ z. some (told ∙ ap refusal_in says ∙ z)))
        ∙ sym (numbers (frame_length left)))

    pub reports_yes : {n : ℕ} → n ≡ frame_length left → ns ≡ walk_row walked n → Reports w row r left listed
    reports_yes size e = reports told room lists size e
