-- Where a name with its colon ends, and that it is read on from there.
use Rattle.std.specs.Prelude.{Ok, Err}
use mathlib.Core.Path.{◌≡◌, refl, sym, ap, subst, subst⁻¹, ◌∙◌}
use mathlib.Core.Bool.{Bool, false, cond}
use mathlib.Core.List.{List}
use mathlib.Core.Logic.{⊎_elim}
use Prim.Native.Nat.{ℕ, ◌+◌, ◌<◌}
use native.Mathlib.Omega.{arith}
use borrow.Author.Tests.{eq-eqb, ne_eqb, eqb-true, eqb-false}
use lib.Dec.{eqb}
use lib.ListN.{drop}
use Rattle.bytes_number.proofs.Truth.{outcome}
use Rattle.json_scan.specs.WorkingEnds.{Reached}
use Rattle.json_scan.specs.declared.Token.{Token}
use Rattle.json_scan.specs.Scan.{is_white, Kind, Due, name, colon, value, State, between, text, nowhere, to, move_of}
use Rattle.json_scan.specs.WorkingEnds.{token_at, followed}
use Rattle.json_scan.specs.WorkingReads.{came, ReadsOn}
use Rattle.json_scan.proofs.Reading.{Takes, ReadsToken, reads_none, reads_followed, takes_followed, takes_more}
use Rattle.json_scan.proofs.White.{token_told, token_further, token_on, token_stuck}
use Rattle.json_string.specs.WorkingText.{text_end}
use Rattle.json_string.proofs.Texts.{text_reads, text_takes}
use Rattle.json_separators.specs.WorkingSeparators.{mark_end, name_end}
use Rattle.json_separators.proofs.Steps.{name_begins, no_name, colon_stands, no_colon}

-- ---- one byte behind white space

module _ (mark : ℕ) (bytes : List ℕ) (at : ℕ) {t : Token} (b : t ≡ token_at bytes at) where
  mark_at : mark_end mark bytes at ≡ cond (eqb t.byte mark) (Ok (t.at + 1)) (Err t.at)
  unfolding mark_end
  mark_at = ap (λ (x : Token). cond (eqb x.byte mark) (Ok (x.at + 1)) (Err x.at)) (sym b)

  pub mark_stands : t.byte ≡ mark → mark_end mark bytes at ≡ Ok (t.at + 1)
  mark_stands e = mark_at ∙ ap (λ (u : Bool). cond u (Ok (t.at + 1)) (Err t.at)) (eq-eqb t.byte mark e)

  pub mark_missing : (t.byte ≡ mark → ⊥) → mark_end mark bytes at ≡ Err t.at
  mark_missing f = mark_at ∙ ap (λ (u : Bool). cond u (Ok (t.at + 1)) (Err t.at)) (ne_eqb t.byte mark f)

module _ (mark : ℕ) (bytes : List ℕ) (at : ℕ) where
  abbrev there : Token
  there = token_at bytes at

  mark_takes : Takes at (came (mark_end mark bytes at))
  mark_takes =
      ⊎_elim
      (λ t. subst⁻¹ (λ (r : Reached). Takes at (came r)) (mark_stands mark bytes at refl (eqb-true there.byte mark t)) (omega (arith, token_further (token_told bytes at refl))))
      (λ t. subst⁻¹ (λ (r : Reached). Takes at (came r)) (mark_missing mark bytes at refl (eqb-false there.byte mark t)) tt)
      (outcome (eqb there.byte mark))

  -- if it is what is due, and not the byte behind the end
  mark_reads :
      (due : Due) (next : State) → (mark ≡ 0 → ⊥) → ((around : List Kind) (c : ℕ) → c ≡ mark → move_of (between due) around c ≡ to next around) →
      ((around : List Kind) (c : ℕ) → is_white c ≡ false → (c ≡ mark → ⊥) → move_of (between due) around c ≡ nowhere) → ReadsToken bytes at (between due) next (came (mark_end mark bytes at))
  mark_reads due next some leads stuck room =
      let b = token_told bytes at refl in
      ⊎_elim
      (λ t. let e = eqb-true there.byte mark t in by (mark_stands mark bytes at refl e) (token_on b next (λ z. some (sym e ∙ z)) (λ around. leads around there.byte e) reads_none))
      (λ t. let f = eqb-false there.byte mark t in by (mark_missing mark bytes at refl f) (token_stuck b (λ dark around. stuck around there.byte dark f)))
      (outcome (eqb there.byte mark))
    where
      by : {r : Reached} → mark_end mark bytes at ≡ r → ReadsOn bytes room at (between due) next (came r) → ReadsOn bytes room at (between due) next (came (mark_end mark bytes at))
      by e = subst⁻¹ (λ (r : Reached). ReadsOn bytes room at (between due) next (came r)) e

-- ---- a name

module _ (bytes : List ℕ) (at : ℕ) where
  abbrev behind_text : ℕ → Reached
  behind_text j = mark_end 58 bytes j

  abbrev behind_mark : ℕ → Reached
  behind_mark i = followed (text_end i (drop i bytes)) behind_text

  -- how it ends, by how its mark and its text do
  pub name_unmarked : {i : ℕ} → Err i ≡ mark_end 34 bytes at → name_end bytes at ≡ Err i
  unfolding name_end
  name_unmarked e = ap (λ (r : Reached). followed r behind_mark) (sym e)

  pub name_marked : {i : ℕ} {r : Reached} → Ok i ≡ mark_end 34 bytes at → r ≡ text_end i (drop i bytes) → name_end bytes at ≡ followed r behind_text
  unfolding name_end
  name_marked e f = ap (λ (r : Reached). followed r behind_mark) (sym e) ∙ ap (λ (r : Reached). followed r behind_text) (sym f)

  -- it is read on from there
  pub name_reads : ReadsToken bytes at (between name) (between value) (came (name_end bytes at))
  unfolding name_end
  name_reads room =
      reads_followed (mark_end 34 bytes at) behind_mark (mark_reads 34 bytes at name (text colon) (λ z. omega (arith, z)) name_begins no_name room)
      (λ i e. reads_followed (text_end i (drop i bytes)) behind_text (text_reads bytes i colon room)
      (λ j f. mark_reads 58 bytes j colon (between value) (λ z. omega (arith, z)) colon_stands no_colon room))

  -- behind two bytes at least
  pub name_takes : Takes (at + 1) (came (name_end bytes at))
  unfolding name_end
  name_takes =
      takes_followed (at + 1) (mark_end 34 bytes at) behind_mark
      (λ i e. let one : at < i = subst (λ (r : Reached). Takes at (came r)) e (mark_takes 34 bytes at) in
      takes_followed (at + 1) (text_end i (drop i bytes)) behind_text
      (λ j f. let two : i < j = subst (λ (r : Reached). Takes i (came r)) f (text_takes bytes i) in
      takes_more j (came (behind_text j)) (omega arith) (mark_takes 58 bytes j)))
