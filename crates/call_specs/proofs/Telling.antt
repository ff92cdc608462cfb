-- What a call tells, by the way that it ends: one law for each, whatever the call.
use mathlib.Core.Path.{◌≡◌, refl, sym, ap, ◌∙◌, subst⁻¹}
use Prim.Native.Nat.{ℕ, ◌*◌, ◌≤◌}
use mathlib.Core.List.{List, [], ◌∷◌}
use native.Mathlib.Omega.{arith}
use lib.ListN.{length}
use Rattle.bytes_number.specs.Number.{row_bytes}
use Rattle.bytes_number.specs.WorkingLays.{laid_if_room}
use Rattle.bytes_number.proofs.Rows.{row_length}
use Rattle.bytes_number.proofs.Buffers.{laid_room}
use Rattle.refusal.specs.declared.Refusal.{Refusal}
use Rattle.refusal.specs.Refusals.{number_of}
use Rattle.refusal.specs.Answer.{Answer, refused, answered, written_over}
use Rattle.refusal.proofs.Answers.{not_answered, some_number}
use Rattle.call_specs.specs.Calls.{returned, recorded, wrote, Lists, Fills}

-- no refusal has the number 0, so a call that returns it has an answer
pub record Done {A : Type 0} (answer : Answer A) : Type 0 where
  pub value : A
  pub is : answer ≡ answered value

pub done : {A : Type 0} (answer : Answer A) → 0 ≡ returned answer → Done answer
done (refused q) e = absurd (some_number q (sym e))
done (answered a) e = record { value = a; is = refl }

-- a refusal writes nothing, and its number is returned
module _ {answer : Answer (List ℕ)} {q : Refusal} (is : answer ≡ refused q) {r : ℕ} (told : r ≡ number_of q) where
  pub lists_refused : {row : List ℕ} → Lists answer row r row
  lists_refused {row} = record { returns = told ∙ sym (ap returned is); lists = sym (ap (λ (a : Answer (List ℕ)). recorded a row) is) }

  pub fills_refused : {lent row filled : List ℕ} → filled ≡ written_over answer lent → Fills answer lent row r filled row
  fills_refused {row = row} fills =
      record { returns = told ∙ sym (ap returned is); fills = fills; lists = sym (ap (λ (a : Answer (List ℕ)). recorded (wrote a) row) is) }

  pub fills_none : {lent row : List ℕ} → Fills answer lent row r lent row
  fills_none {lent} = fills_refused (sym (ap (λ (a : Answer (List ℕ)). written_over a lent) is))

-- an answer is laid over the front of the record, which has room for it
pub lists_answered : {answer : Answer (List ℕ)} {ns row listed : List ℕ} → answer ≡ answered ns → 4 * length ns ≤ length row → listed ≡ laid_if_room (row_bytes ns) row → Lists answer row 0 listed
lists_answered {ns = ns} {row} is room e =
    record {
      returns = sym (ap returned is);
      lists = e ∙ laid_room (row_bytes ns) row (omega (arith, row_length ns)) ∙ sym (ap (λ (a : Answer (List ℕ)). recorded a row) is);
    }

-- what was counted was written
counted : (answer : Answer (List ℕ)) (ns : List ℕ) → wrote answer ≡ answered ns → 0 ≡ returned answer
counted (refused q) ns e = absurd (not_answered e)
counted (answered bytes) ns e = refl

pub fills_counted : {answer : Answer (List ℕ)} {n : ℕ} {lent row filled listed : List ℕ} → wrote answer ≡ answered (n ∷ []) → filled ≡ written_over answer lent → 4 ≤ length row → listed ≡ laid_if_room (row_bytes (n ∷ [])) row → Fills answer lent row 0 filled listed
fills_counted {answer} {n} is fills room e =
    record { returns = counted answer (n ∷ []) is; fills = fills; lists = (lists_answered is room e).lists }

-- a call that is another answer behind its first test
pub fills_on : {answer next : Answer (List ℕ)} {lent row : List ℕ} {r : ℕ} {filled listed : List ℕ} → answer ≡ next → Fills next lent row r filled listed → Fills answer lent row r filled listed
fills_on {lent = lent} {row} {r} {filled} {listed} e f = subst⁻¹ (λ (a : Answer (List ℕ)). Fills a lent row r filled listed) e f
