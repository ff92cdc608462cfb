-- Where a number ends it is read on from, whatever is open around it.
use Rattle.std.specs.Prelude.{Ok, Err}
use mathlib.Core.Path.{◌≡◌, refl, ap, subst⁻¹, ◌∙◌}
use mathlib.Core.Bool.{Bool, true, false, cond}
use mathlib.Core.List.{List, []}
use mathlib.Core.Logic.{⊎_elim}
use Prim.Native.Nat.{ℕ, zero, suc, ◌+◌, ◌<◌, ◌≤◌}
use native.Mathlib.Omega.{arith}
use borrow.Author.Tests.{ltb-true, ltb-false}
use lib.Dec.{eqb, ltb}
use lib.ListN.{length, drop, get_or}
use Rattle.bytes_number.proofs.Truth.{outcome}
use Rattle.json_scan.specs.WorkingEnds.{Reached}
use Rattle.json_scan.specs.Scan.{is_digit, is_e, is_sign, Kind, Figure, minus, leading_zero, whole, point, fraction, exponent, sign, power, behind, between, number, nowhere, to, number_move, move_of}
use Rattle.json_scan.specs.WorkingReads.{came, ReadsOn}
use Rattle.json_scan.proofs.Reading.{ReadsToken, reads_none, reads_more, reads_stuck, reads_alike}
use Rattle.json_number.specs.WorkingFigures.{is_over, over_at, number_end}
use Rattle.json_number.proofs.Figures.{number_on, number_stuck, number-stands}

-- what a byte does behind a figure
data Turn (figure : Figure) (c : ℕ) : Type 0 where
  on : (figure₁ : Figure) → ((around : List Kind) → move_of (number figure) around c ≡ to (number figure₁) around) → Turn figure c
  stands : is_over figure ≡ true → ((around : List Kind) → move_of (number figure) around c ≡ move_of (between behind) around c) → Turn figure c
  stuck : is_over figure ≡ false → ((around : List Kind) → move_of (number figure) around c ≡ nowhere) → Turn figure c

turn : (figure : Figure) (c : ℕ) → Turn figure c
unfolding move_of number_move
turn minus c = go (eqb c 48) (is_digit c) refl refl
  where
    go : (z d : Bool) → eqb c 48 ≡ z → is_digit c ≡ d → Turn minus c
    go true d e f = on leading_zero (λ around. rw e refl)
    go false true e f = on whole (λ around. rw (e, f) refl)
    go false false e f = stuck refl (λ around. rw (e, f) refl)
turn leading_zero c = go (eqb c 46) (is_e c) refl refl
  where
    go : (p x : Bool) → eqb c 46 ≡ p → is_e c ≡ x → Turn leading_zero c
    go true x e f = on point (λ around. rw e refl)
    go false true e f = on exponent (λ around. rw (e, f) refl)
    go false false e f = stands refl (λ around. rw (e, f) refl)
turn whole c = go (is_digit c) (eqb c 46) (is_e c) refl refl refl
  where
    go : (d p x : Bool) → is_digit c ≡ d → eqb c 46 ≡ p → is_e c ≡ x → Turn whole c
    go true p x e f g = on whole (λ around. rw e refl)
    go false true x e f g = on point (λ around. rw (e, f) refl)
    go false false true e f g = on exponent (λ around. rw (e, f, g) refl)
    go false false false e f g = stands refl (λ around. rw (e, f, g) refl)
turn point c = go (is_digit c) refl
  where
    go : (d : Bool) → is_digit c ≡ d → Turn point c
    go true e = on fraction (λ around. rw e refl)
    go false e = stuck refl (λ around. rw e refl)
turn fraction c = go (is_digit c) (is_e c) refl refl
  where
    go : (d x : Bool) → is_digit c ≡ d → is_e c ≡ x → Turn fraction c
    go true x e f = on fraction (λ around. rw e refl)
    go false true e f = on exponent (λ around. rw (e, f) refl)
    go false false e f = stands refl (λ around. rw (e, f) refl)
turn exponent c = go (is_sign c) (is_digit c) refl refl
  where
    go : (s d : Bool) → is_sign c ≡ s → is_digit c ≡ d → Turn exponent c
    go true d e f = on sign (λ around. rw e refl)
    go false true e f = on power (λ around. rw (e, f) refl)
    go false false e f = stuck refl (λ around. rw (e, f) refl)
turn sign c = go (is_digit c) refl
  where
    go : (d : Bool) → is_digit c ≡ d → Turn sign c
    go true e = on power (λ around. rw e refl)
    go false e = stuck refl (λ around. rw e refl)
turn power c = go (is_digit c) refl
  where
    go : (d : Bool) → is_digit c ≡ d → Turn power c
    go true e = on power (λ around. rw e refl)
    go false e = stands refl (λ around. rw e refl)

module _ (bytes : List ℕ) (room : ℕ) where
  abbrev Reads : Figure → ℕ → Reached → Type 0
  Reads figure at r = ReadsOn bytes room at (number figure) (between behind) (came r)

  abbrev end : Figure → ℕ → Reached
  end figure at = number_end figure at (drop at bytes)

  by : (figure : Figure) (at : ℕ) {r : Reached} → end figure at ≡ r → Reads figure at r → Reads figure at (end figure at)
  by figure at e = subst⁻¹ (Reads figure at) e

  -- it may be over there, or it may not
  over : (figure : Figure) (at : ℕ) → length bytes ≤ at → Reads figure at (over_at figure at)
  over figure at l = go (is_over figure)
    where
      go : (t : Bool) → Reads figure at (cond t (Ok at) (Err at))
      go true = reads_alike (between behind) refl (λ m around. absurd (omega (arith, l, m))) reads_none
      go false = reads_stuck refl (λ m around. absurd (omega (arith, l, m)))

  at_byte : (figure : Figure) (at : ℕ) → at < length bytes → ((figure₁ : Figure) → Reads figure₁ (at + 1) (end figure₁ (at + 1))) → Turn figure (get_or bytes at 0) → Reads figure at (end figure at)
  at_byte figure at l again (on figure₁ e) = by figure at (number_on figure bytes at figure₁ l (e [])) (reads_more (number figure₁) l e (again figure₁))
  at_byte figure at l again (stands may e) =
      by figure at (number-stands figure bytes at (λ m. e []) ∙ ap (λ (t : Bool). cond t (Ok at) (Err at)) may) (reads_alike (between behind) refl (λ m. e) reads_none)
  at_byte figure at l again (stuck may e) =
      by figure at (number_stuck figure bytes at (λ m. e []) ∙ ap (λ (t : Bool). cond t (Ok at) (Err at)) may) (reads_stuck refl (λ m. e))

  -- with at most so many bytes left
  reads : (n : ℕ) (figure : Figure) (at : ℕ) → length bytes ≤ at + n → Reads figure at (end figure at)
  reads zero figure at few = let l : length bytes ≤ at = omega arith in
      by figure at (number_stuck figure bytes at (λ m. absurd (omega (arith, l, m)))) (over figure at l)
  reads (suc n) figure at few =
      ⊎_elim
      (λ t. at_byte figure at (ltb-true at (length bytes) t) (λ figure₁. reads n figure₁ (at + 1) (omega arith)) (turn figure (get_or bytes at 0)))
      (λ t. let l = ltb-false at (length bytes) t in by figure at (number_stuck figure bytes at (λ m. absurd (omega (arith, l, m)))) (over figure at l))
      (outcome (ltb at (length bytes)))

pub number_reads : (bytes : List ℕ) (figure : Figure) (at : ℕ) → ReadsToken bytes at (number figure) (between behind) (came (number_end figure at (drop at bytes)))
number_reads bytes figure at room = reads bytes room (length bytes) figure at (omega arith)
