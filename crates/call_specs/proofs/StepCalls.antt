-- The step call: one law for each way that it ends.
use Rattle.std.specs.Prelude.{Result, Ok, Err}
use mathlib.Core.Path.{◌≡◌, refl, sym, ap, ◌∙◌, subst⁻¹}
use Prim.Native.Nat.{ℕ, ◌<◌, ◌≤◌}
use mathlib.Core.List.{List}
use native.Mathlib.Omega.{arith}
use borrow.Author.Tests.{lt-ltb, le-ltb}
use lib.ListN.{length}
use Rattle.bytes_number.specs.Number.{row_bytes}
use Rattle.bytes_number.specs.WorkingLays.{laid_if_room}
use Rattle.bytes_number.proofs.Rows.{row_length}
use Rattle.bytes_number.proofs.Buffers.{laid_room}
use Rattle.refusal.specs.declared.Refusal.{Refusal}
use Rattle.refusal.specs.declared.Refusal.TheVariants.{OutputShort}
use Rattle.refusal.specs.Refusals.{number_of}
use Rattle.refusal.specs.Answer.{Answer, refused, answered}
use Rattle.step_routing.specs.declared.Broker.{Broker}
use Rattle.step_routing.specs.Routed.{Tables, Outcome, delivered, forwarded, replied, silenced, home}
use Rattle.step_routing.specs.declared.Stepped.{Stepped}
use Rattle.step_routing.specs.declared.Stepped.TheVariants.{Delivered, Forwarded, Replied, Silenced, Home}
use Rattle.step_pass.specs.Step.{step_of, left_by, stepped_of, told_as}
use Rattle.call_step_record.specs.Steps.{step_row, frame_length}
use Rattle.call_step_record.specs.WorkingRows.{refusal_in}
use Rattle.call_specs.specs.Calls.{step_call, Tells}

module _ (t : Tables) (b : Broker) (buffer : List ℕ) (rowRoom : ℕ) where
  pub step_short : rowRoom < 16 → step_call t b buffer rowRoom ≡ refused OutputShort
  unfolding step_call
  step_short h = rw (lt-ltb rowRoom 16 h)

  pub step_on : 16 ≤ rowRoom → step_call t b buffer rowRoom ≡ step_of t b buffer
  unfolding step_call
  step_on h = rw (le-ltb rowRoom 16 h)

-- a call that is another answer behind its first test
pub tells_on : {answer next : Answer Outcome} {buffer row left listed : List ℕ} {r : ℕ} → answer ≡ next → Tells next buffer row r left listed → Tells answer buffer row r left listed
tells_on {buffer = buffer} {row} {left} {listed} {r} e f = subst⁻¹ (λ (a : Answer Outcome). Tells a buffer row r left listed) e f

-- a refusal changes nothing, and its number is returned
pub tells_refused : {answer : Answer Outcome} {q : Refusal} {buffer row : List ℕ} {r : ℕ} → answer ≡ refused q → r ≡ number_of q → Tells answer buffer row r buffer row
tells_refused is told = tells_on is (record { returns = told; leaves = refl; lists = refl })

-- no answer has the number of a refusal
pub no_refusal : (o : Outcome) → refusal_in (told_as (answered o)) ≡ 0
no_refusal (delivered number) = refl
no_refusal (forwarded next m) = refl
no_refusal (replied errnum m) = refl
no_refusal (silenced errnum) = refl
no_refusal home = refl

pub four_numbers : (s : Stepped) (n : ℕ) → length (step_row s n) ≡ 4
four_numbers (Delivered number) n = refl
four_numbers (Forwarded next) n = refl
four_numbers (Replied errnum) n = refl
four_numbers (Silenced errnum) n = refl
four_numbers Home n = refl

-- what the code says, and so how the call ends
never : {s : Stepped} {q : Refusal} → ◌≡◌ {A = Result Stepped Refusal} (Ok s) (Err q) → ⊥
never e = let z : ◌≡◌ {A = ℕ} 0 1 = cc in omega arith

module _ {buffer row left : List ℕ} where
  pub tells_no : (answer : Answer Outcome) {q : Refusal} {r : ℕ} → Err q ≡ told_as answer → left ≡ left_by answer buffer → r ≡ number_of q → Tells answer buffer row r left row
  tells_no (refused p) {q} says leaves told =
      let same : q ≡ p = cc in
      record { returns = told ∙ ap number_of same; leaves = leaves; lists = refl }
  tells_no (answered o) says leaves told = absurd (never (sym says))

  pub tells_yes : (answer : Answer Outcome) {s : Stepped} {n : ℕ} {ns listed : List ℕ} → Ok s ≡ told_as answer → left ≡ left_by answer buffer →
      n ≡ frame_length left → ns ≡ step_row s n → 16 ≤ length row → listed ≡ laid_if_room (row_bytes ns) row → Tells answer buffer row 0 left listed
  tells_yes (refused q) says leaves size numbers room lists = absurd (never says)
  tells_yes (answered o) {s} {n} {ns} says leaves size numbers room lists =
      let same : s ≡ stepped_of o = cc in
      let are : ns ≡ step_row (stepped_of o) (frame_length left) = numbers ∙ ap (λ (k : ℕ). step_row s k) size ∙ ap (λ (x : Stepped). step_row x (frame_length left)) same in
      record {
        returns = refl;
        leaves = leaves;
        lists = lists ∙ ap (λ (l : List ℕ). laid_if_room (row_bytes l) row) are ∙ laid_room (row_bytes (step_row (stepped_of o) (frame_length left))) row (omega (arith, four_numbers (stepped_of o) (frame_length left), row_length (step_row (stepped_of o) (frame_length left))));
      }
