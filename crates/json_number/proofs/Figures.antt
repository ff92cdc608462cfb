-- Where a number ends, byte by byte at a place.
use Rattle.std.specs.Prelude.{Ok, Err}
use mathlib.Core.Path.{◌≡◌, refl, sym, ap, subst, ◌∙◌}
use mathlib.Core.Bool.{Bool, true, false, cond}
use mathlib.Core.List.{List, []}
use mathlib.Core.Logic.{⊎_elim}
use Prim.Native.Nat.{ℕ, ◌+◌, ◌<◌, ◌≤◌}
use native.Mathlib.Omega.{arith}
use borrow.Author.Tests.{eqb-true, eqb-false, ltb-true, ltb-false}
use lib.Dec.{eqb, ltb}
use lib.ListN.{length, drop, get_or, drop_of_length-le}
use Rattle.bytes_number.proofs.Truth.{outcome}
use Rattle.json_scan.specs.WorkingEnds.{Reached}
use Rattle.json_scan.specs.Scan.{is_white, is_digit, is_e, Kind, Figure, minus, leading_zero, whole, exponent, behind, between, number, ended, nowhere, to, behind_step, token_move, between_move, move_of}
use Rattle.json_scan.specs.WorkingEnds.{end_of}
use Rattle.json_scan.proofs.Scanning.{drop_at}
use Rattle.json_scan.proofs.Leading.{end_more, end_here, end_over, end_stops, passes_to}
use Rattle.json_number.specs.WorkingFigures.{is_over, over_at, figure_on, number_end, scale_end}
use Rattle.json_number.proofs.Steps.{Ends, ends_e, ends_here, minus_zero, minus_digit, whole_digit, whole_over}

-- ---- one byte

number_over : (figure : Figure) (bytes : List ℕ) (at : ℕ) → length bytes ≤ at → number_end figure at (drop at bytes) ≡ over_at figure at
unfolding number_end
number_over figure bytes at l = ap (number_end figure at) (drop_of_length-le bytes l)

-- what stands behind a number leads to no figure
none_behind : (over : Reached) (next : Figure → Reached) (c : ℕ) → figure_on over next (move_of (between behind) [] c) ≡ over
unfolding move_of between_move token_move behind_step
none_behind over next c = go (is_white c) (eqb c 0)
  where
    go : (t u : Bool) → figure_on over next (cond t (to (between behind) []) (cond u (to ended []) nowhere)) ≡ over
    go true u = refl
    go false true = refl
    go false false = refl

-- and behind a byte of it
abbrev next : List ℕ → ℕ → Figure → Reached
next bytes at figure = number_end figure (at + 1) (drop (at + 1) bytes)

module _ (figure : Figure) (bytes : List ℕ) (at : ℕ) where
  first : at < length bytes → number_end figure at (drop at bytes) ≡ figure_on (over_at figure at) (next bytes at) (move_of (number figure) [] (get_or bytes at 0))
  unfolding number_end
  first l = ap (number_end figure at) (drop_at bytes at l)

  -- it leads on in the number
  pub number_on : (figure₁ : Figure) → at < length bytes → move_of (number figure) [] (get_or bytes at 0) ≡ to (number figure₁) [] → number_end figure at (drop at bytes) ≡ number_end figure₁ (at + 1) (drop (at + 1) bytes)
  number_on figure₁ l e = first l ∙ ap (figure_on (over_at figure at) (next bytes at)) e

  by_end : (at < length bytes → number_end figure at (drop at bytes) ≡ over_at figure at) → number_end figure at (drop at bytes) ≡ over_at figure at
  by_end here = ⊎_elim (λ t. here (ltb-true at (length bytes) t)) (λ t. number_over figure bytes at (ltb-false at (length bytes) t)) (outcome (ltb at (length bytes)))

  -- it leads nowhere, or there is none
  pub number_stuck : (at < length bytes → move_of (number figure) [] (get_or bytes at 0) ≡ nowhere) → number_end figure at (drop at bytes) ≡ over_at figure at
  number_stuck e = by_end (λ l. first l ∙ ap (figure_on (over_at figure at) (next bytes at)) (e l))

  -- it stands behind the number, or there is none
  pub number-stands : (at < length bytes → move_of (number figure) [] (get_or bytes at 0) ≡ move_of (between behind) [] (get_or bytes at 0)) → number_end figure at (drop at bytes) ≡ over_at figure at
  number-stands e = by_end (λ l. first l ∙ ap (figure_on (over_at figure at) (next bytes at)) (e l) ∙ none_behind (over_at figure at) (next bytes at) (get_or bytes at 0))

-- two figures that the byte at the place leads alike
pub number_alike :
    (figure figure₁ : Figure) (bytes : List ℕ) (at : ℕ) → is_over figure ≡ is_over figure₁ →
    (at < length bytes → move_of (number figure) [] (get_or bytes at 0) ≡ move_of (number figure₁) [] (get_or bytes at 0)) → number_end figure at (drop at bytes) ≡ number_end figure₁ at (drop at bytes)
number_alike figure figure₁ bytes at e f =
    ⊎_elim
    (λ t. let l = ltb-true at (length bytes) t in
    first figure bytes at l ∙ ap (figure_on (over_at figure at) (next bytes at)) (f l) ∙ ap (λ (u : Bool). figure_on (cond u (Ok at) (Err at)) (next bytes at) (move_of (number figure₁) [] (get_or bytes at 0))) e ∙ sym (first figure₁ bytes at l))
    (λ t. let l = ltb-false at (length bytes) t in number_over figure bytes at l ∙ ap (λ (u : Bool). cond u (Ok at) (Err at)) e ∙ sym (number_over figure₁ bytes at l))
    (outcome (ltb at (length bytes)))

-- ---- digits

-- what a digit does to a figure, and any other byte
abbrev pub OnDigit : Figure → Figure → Type 0
OnDigit figure figure₁ = (around : List Kind) (c : ℕ) → is_digit c ≡ true → move_of (number figure) around c ≡ to (number figure₁) around

abbrev pub OffDigit : Figure → Type 0
OffDigit figure = (around : List Kind) (c : ℕ) → is_digit c ≡ false → move_of (number figure) around c ≡ nowhere

module _ (bytes : List ℕ) (at : ℕ) where
  abbrev end : ℕ
  end = end_of is_digit bytes at

  -- any number of them
  pub digits_any : (figure : Figure) → OnDigit figure figure → number_end figure at (drop at bytes) ≡ number_end figure end (drop end bytes)
  unfolding number_end
  digits_any figure stays =
      passes_to (number_end figure) is_digit (λ i c cs e. ap (figure_on (over_at figure i) (λ figure₁. number_end figure₁ (i + 1) cs)) (stays [] c e)) bytes at

  -- behind them there is none
  pub behind_digits : end < length bytes → is_digit (get_or bytes end 0) ≡ false
  behind_digits = end_stops is_digit bytes at

  -- none where one is due
  pub digits_none : (figure : Figure) → OffDigit figure → end ≡ at → number_end figure at (drop at bytes) ≡ over_at figure at
  digits_none figure off none =
      number_stuck figure bytes at (λ l. off [] _ (subst (λ (j : ℕ). is_digit (get_or bytes j 0) ≡ false) none (behind_digits (omega (arith, l, none)))))

  -- at least one
  first-digit : (end ≡ at → ⊥) → (at < length bytes) × (is_digit (get_or bytes at 0) ≡ true)
  first-digit some = ⊎_elim (λ t. here (ltb-true at (length bytes) t)) (λ t. absurd (some (end_over is_digit bytes at (ltb-false at (length bytes) t)))) (outcome (ltb at (length bytes)))
    where
      here : at < length bytes → (at < length bytes) × (is_digit (get_or bytes at 0) ≡ true)
      here l = (l, ⊎_elim (λ t. t) (λ t. absurd (some (end_here is_digit bytes at l t))) (outcome (is_digit (get_or bytes at 0))))

pub digits_some :
    (bytes : List ℕ) (at : ℕ) (figure inside : Figure) → OnDigit figure inside → OnDigit inside inside → (end_of is_digit bytes at ≡ at → ⊥) →
    number_end figure at (drop at bytes) ≡ number_end inside (end_of is_digit bytes at) (drop (end_of is_digit bytes at) bytes)
digits_some bytes at figure inside on stays some =
    let one = first-digit bytes at some in
    number_on figure bytes at inside one.0 (on [] _ one.1)
    ∙ digits_any bytes (at + 1) inside stays
    ∙ ap (λ (j : ℕ). number_end inside j (drop j bytes)) (sym (end_more is_digit bytes at one.0 one.1))

-- ---- int: a zero alone, or a digit and any number of them

pub number-int :
    (bytes : List ℕ) (at : ℕ) {j : ℕ} → at < length bytes → is_digit (get_or bytes at 0) ≡ true → j ≡ cond (eqb (get_or bytes at 0) 48) (at + 1) (end_of is_digit bytes (at + 1)) →
    number_end minus at (drop at bytes) ≡ number_end leading_zero j (drop j bytes)
number-int bytes at {j} l digit is = go (eqb (get_or bytes at 0) 48) refl ∙ ap (λ (i : ℕ). number_end leading_zero i (drop i bytes)) (sym is)
  where
    go :
        (t : Bool) → eqb (get_or bytes at 0) 48 ≡ t →
        number_end minus at (drop at bytes) ≡ number_end leading_zero (cond t (at + 1) (end_of is_digit bytes (at + 1))) (drop (cond t (at + 1) (end_of is_digit bytes (at + 1))) bytes)
    go true e = number_on minus bytes at leading_zero l (minus_zero [] _ (eqb-true (get_or bytes at 0) 48 e))
    go false e =
        number_on minus bytes at whole l (minus_digit [] _ (eqb-false (get_or bytes at 0) 48 e) digit)
        ∙ digits_any bytes (at + 1) whole whole_digit
        ∙ number_alike whole leading_zero bytes (end_of is_digit bytes (at + 1)) refl (λ m. whole_over [] _ (behind_digits bytes (at + 1) m))

-- ---- behind int or frac

module _ (bytes : List ℕ) (at : ℕ) where
  pub scale_over : length bytes ≤ at → scale_end at (drop at bytes) ≡ Ok at
  unfolding scale_end
  scale_over l = ap (scale_end at) (drop_of_length-le bytes l)

  scale_first : at < length bytes → scale_end at (drop at bytes) ≡ cond (is_e (get_or bytes at 0)) (number_end exponent (at + 1) (drop (at + 1) bytes)) (Ok at)
  unfolding scale_end
  scale_first l = ap (scale_end at) (drop_at bytes at l)

  pub scale_e : at < length bytes → is_e (get_or bytes at 0) ≡ true → scale_end at (drop at bytes) ≡ number_end exponent (at + 1) (drop (at + 1) bytes)
  scale_e l e = scale_first l ∙ ap (λ (t : Bool). cond t (number_end exponent (at + 1) (drop (at + 1) bytes)) (Ok at)) e

  pub scale_none : at < length bytes → is_e (get_or bytes at 0) ≡ false → {j : ℕ} → j ≡ at → Ok j ≡ scale_end at (drop at bytes)
  scale_none l e is = ap Ok is ∙ sym (scale_first l ∙ ap (λ (t : Bool). cond t (number_end exponent (at + 1) (drop (at + 1) bytes)) (Ok at)) e)

  -- it is where a number ends that may end there
  pub number_scale : (figure : Figure) → is_over figure ≡ true → (at < length bytes → Ends figure (get_or bytes at 0)) → number_end figure at (drop at bytes) ≡ scale_end at (drop at bytes)
  number_scale figure over ends =
      ⊎_elim
      (λ t. let l = ltb-true at (length bytes) t in
      ⊎_elim
      (λ e. number_on figure bytes at exponent l (ends_e figure (get_or bytes at 0) (ends l) e []) ∙ sym (scale_e l e))
      (λ e. number-stands figure bytes at (λ m. ends_here figure (get_or bytes at 0) (ends l) e []) ∙ here ∙ scale_none l e refl)
      (outcome (is_e (get_or bytes at 0))))
      (λ t. let l = ltb-false at (length bytes) t in number_over figure bytes at l ∙ here ∙ sym (scale_over l))
      (outcome (ltb at (length bytes)))
    where
      here : over_at figure at ≡ Ok at
      here = ap (λ (t : Bool). cond t (Ok at) (Err at)) over
