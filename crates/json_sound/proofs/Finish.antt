-- Wherever a reading stands, some bytes bring it to its end: so what was read so far begins a payload.
use mathlib.Core.Path.{◌≡◌, refl, ap, ◌∙◌}
use mathlib.Core.Bool.{Bool, true, cond}
use mathlib.Core.List.{List, [], ◌∷◌}
use Prim.Native.Nat.{ℕ, ◌≤◌}
use native.Mathlib.Omega.{arith}
use borrow.Author.Tests.{eq-eqb}
use lib.ListN.{length}
use Rattle.json_scan.specs.Scan.{is_white, is_within, is_hex_digit, is_escape, Class, exactly, hex, tail, tail_E0, tail_ED, tail_F0, tail_F4, holds, Kind, in_object, in_array, Due, outer, first_name, first_value, name, colon, value, behind, Figure, minus, leading_zero, whole, point, fraction, exponent, sign, power, State, between, number, text, escape, rest, ended, nowhere, to, remaining, value_step, behind_step, token_move, between_move, number_move, text_move, escape_move, rest_move, move_of}
use Rattle.json_sound.proofs.Reach.{reach, reach_on}

pub record Finish (most : ℕ) (state : State) (around : List Kind) : Type 0 where
  pub bytes : List ℕ
  pub left : List Kind
  pub ends : reach most state around bytes ≡ to ended left

-- a byte more
by : {most : ℕ} {state state₁ : State} {around around₁ : List Kind} (c : ℕ) → move_of state around c ≡ to state₁ around₁ → length around₁ ≤ most → Finish most state₁ around₁ → Finish most state around
by {most} {state} {state₁} {around} {around₁} c e l f =
    record { bytes = c ∷ f.bytes; left = f.left; ends = reach_on most state around c f.bytes state₁ around₁ e l ∙ f.ends }

done : {most : ℕ} {around : List Kind} → Finish most ended around
unfolding reach
done {around = around} = record { bytes = []; left = around; ends = refl }

-- ---- behind a value: what is open is closed

finish_behind : (most : ℕ) (around : List Kind) → length around ≤ most → Finish most (between behind) around
unfolding move_of between_move token_move behind_step is_white
finish_behind most [] l = by 0 refl l done
finish_behind most (in_object ∷ around) l = by 125 refl (omega (arith, l)) (finish_behind most around (omega (arith, l)))
finish_behind most (in_array ∷ around) l = by 93 refl (omega (arith, l)) (finish_behind most around (omega (arith, l)))

-- a number that may end
finish_figure : (most : ℕ) (around : List Kind) → length around ≤ most →
    (Finish most (number leading_zero) around × Finish most (number whole) around) × (Finish most (number fraction) around × Finish most (number power) around)
unfolding move_of number_move between_move token_move behind_step is_white is_within
finish_figure most [] l = ((by 0 refl l done, by 0 refl l done), (by 0 refl l done, by 0 refl l done))
finish_figure most (in_object ∷ around) l =
    let f = finish_behind most around (omega (arith, l)) in
    let m : length around ≤ most = omega (arith, l) in
    ((by 125 refl m f, by 125 refl m f), (by 125 refl m f, by 125 refl m f))
finish_figure most (in_array ∷ around) l =
    let f = finish_behind most around (omega (arith, l)) in
    let m : length around ≤ most = omega (arith, l) in
    ((by 93 refl m f, by 93 refl m f), (by 93 refl m f, by 93 refl m f))

finish_number : (most : ℕ) (around : List Kind) → length around ≤ most → (figure : Figure) → Finish most (number figure) around
unfolding move_of number_move is_within
finish_number most around l minus = by 48 refl l (finish_figure most around l).0.0
finish_number most around l leading_zero = (finish_figure most around l).0.0
finish_number most around l whole = (finish_figure most around l).0.1
finish_number most around l point = by 48 refl l (finish_figure most around l).1.0
finish_number most around l fraction = (finish_figure most around l).1.0
finish_number most around l exponent = by 48 refl l (finish_figure most around l).1.1
finish_number most around l sign = by 48 refl l (finish_figure most around l).1.1
finish_number most around l power = (finish_figure most around l).1.1

-- ---- between tokens: an empty string is a name and a value

module _ (most : ℕ) (some : 1 ≤ most) where
  finish_value : (around : List Kind) → length around ≤ most → Finish most (between value) around
  unfolding move_of between_move token_move value_step text_move is_white
  finish_value around l = by {state₁ = text behind} 34 refl l (by 34 refl l (finish_behind most around l))

  finish_colon : (around : List Kind) → length around ≤ most → Finish most (between colon) around
  unfolding move_of between_move token_move is_white
  finish_colon around l = by 58 refl l (finish_value around l)

  finish_due : (due : Due) (around : List Kind) → length around ≤ most → Finish most (between due) around
  unfolding move_of between_move token_move value_step behind_step text_move is_white
  finish_due outer around l = by {around₁ = in_object ∷ []} 123 refl some (by 125 refl (omega arith) (finish_behind most [] (omega arith)))
  finish_due first_name around l = by {state₁ = text colon} 34 refl l (by 34 refl l (finish_colon around l))
  finish_due first_value around l = by {state₁ = text behind} 34 refl l (by 34 refl l (finish_behind most around l))
  finish_due name around l = by {state₁ = text colon} 34 refl l (by 34 refl l (finish_colon around l))
  finish_due colon around l = finish_colon around l
  finish_due value around l = finish_value around l
  finish_due behind around l = finish_behind most around l

  -- ---- within a token

  abbrev sample : Class → ℕ
  sample (exactly x) = x
  sample hex = 48
  sample tail = 128
  sample tail_E0 = 160
  sample tail_ED = 128
  sample tail_F0 = 144
  sample tail_F4 = 128

  sample_holds : (k : Class) → holds k (sample k) ≡ true
  unfolding holds is_hex_digit is_within
  sample_holds (exactly x) = eq-eqb x x refl
  sample_holds hex = refl
  sample_holds tail = refl
  sample_holds tail_E0 = refl
  sample_holds tail_ED = refl
  sample_holds tail_F0 = refl
  sample_holds tail_F4 = refl

  sampled : (k : Class) (ks : List Class) (next : State) (around : List Kind) → move_of (rest k ks next) around (sample k) ≡ to (remaining ks next) around
  unfolding move_of rest_move
  sampled k ks next around = ap (λ (t : Bool). cond t (to (remaining ks next) around) nowhere) (sample_holds k)

  finish_rest : (k : Class) (ks : List Class) (next : State) (around : List Kind) → length around ≤ most → Finish most next around → Finish most (rest k ks next) around
  finish_rest k [] next around l f = by (sample k) (sampled k [] next around) l f
  finish_rest k (m ∷ ks) next around l f = by (sample k) (sampled k (m ∷ ks) next around) l (finish_rest m ks next around l f)

  finish_text : (due : Due) (around : List Kind) → length around ≤ most → Finish most (text due) around
  unfolding move_of text_move
  finish_text due around l = by 34 refl l (finish_due due around l)

  pub finish : (state : State) (around : List Kind) → length around ≤ most → Finish most state around
  unfolding move_of escape_move is_escape
  finish (between due) around l = finish_due due around l
  finish (number figure) around l = finish_number most around l figure
  finish (text due) around l = finish_text due around l
  finish (escape due) around l = by 34 refl l (finish_text due around l)
  finish (rest k ks next) around l = finish_rest k ks next around l (finish next around l)
  finish ended around l = done
