-- The first byte of a value, where one is due; the bytes of a literal name; and the bytes around the values of an object or an array.
use mathlib.Core.Path.{◌≡◌, refl, sym, ◌∙◌}
use mathlib.Core.Bool.{true, false}
use mathlib.Core.List.{List, [], ◌∷◌}
use Prim.Native.Nat.{ℕ, ◌≤◌}
use native.Mathlib.Omega.{arith}
use borrow.Author.Tests.{ne_eqb}
use Rattle.json_scan.specs.Scan.{is_white, is_within, exactly, holds, Class, Kind, in_object, in_array, Due, outer, first_name, first_value, name, colon, value, behind, minus, leading_zero, whole, State, between, number, text, rest, ended, to, remaining, value_step, behind_step, token_move, between_move, rest_move, move_of}
use Rattle.json_scan.proofs.Bytes.{within, white_none}
use Rattle.json_scan.proofs.White.{token_begins}

-- ---- where a value is due

-- any byte but white space and the closing one of an array is taken for the first of a value
pub record ValueDue (due : Due) : Type 0 where
  pub same : (around : List Kind) (c : ℕ) → is_white c ≡ false → (c ≡ 93 → ⊥) → move_of (between due) around c ≡ value_step around c

-- behind a colon or a comma, and behind the opening byte of an array
pub value_due : ValueDue value
unfolding token_move
value_due = record { same = λ around c d f. token_begins value around c d }

pub first_value_due : ValueDue first_value
unfolding token_move
first_value_due = record { same = λ around c d f. token_begins first_value around c d ∙ rw (ne_eqb c 93 f) refl }

-- a digit that is no zero
digit_value : (around : List Kind) (c : ℕ) → 49 ≤ c → c ≤ 57 → value_step around c ≡ to (number whole) around
unfolding value_step
digit_value around c l m =
    rw (
      ne_eqb c 34 (λ e. omega (arith, e, l)),
      ne_eqb c 123 (λ e. omega (arith, e, m)),
      ne_eqb c 91 (λ e. omega (arith, e, m)),
      ne_eqb c 45 (λ e. omega (arith, e, l)),
      ne_eqb c 48 (λ e. omega (arith, e, l)),
      within 48 57 c (omega (arith, l)) m,
    ) refl

-- what each first byte begins
module _ {due : Due} (is : ValueDue due) (around : List Kind) where
  pub begins_false : move_of (between due) around 102 ≡ to (rest (exactly 97) (exactly 108 ∷ exactly 115 ∷ exactly 101 ∷ []) (between behind)) around
  unfolding value_step is_white is_within
  begins_false = is.same around 102 refl (λ e. omega (arith, e))

  pub begins_null : move_of (between due) around 110 ≡ to (rest (exactly 117) (exactly 108 ∷ exactly 108 ∷ []) (between behind)) around
  unfolding value_step is_white is_within
  begins_null = is.same around 110 refl (λ e. omega (arith, e))

  pub begins_true : move_of (between due) around 116 ≡ to (rest (exactly 114) (exactly 117 ∷ exactly 101 ∷ []) (between behind)) around
  unfolding value_step is_white is_within
  begins_true = is.same around 116 refl (λ e. omega (arith, e))

  pub begins_object : move_of (between due) around 123 ≡ to (between first_name) (in_object ∷ around)
  unfolding value_step is_white
  begins_object = is.same around 123 refl (λ e. omega (arith, e))

  pub begins_array : move_of (between due) around 91 ≡ to (between first_value) (in_array ∷ around)
  unfolding value_step is_white
  begins_array = is.same around 91 refl (λ e. omega (arith, e))

  pub begins_minus : move_of (between due) around 45 ≡ to (number minus) around
  unfolding value_step is_white
  begins_minus = is.same around 45 refl (λ e. omega (arith, e))

  pub begins_zero : move_of (between due) around 48 ≡ to (number leading_zero) around
  unfolding value_step is_white
  begins_zero = is.same around 48 refl (λ e. omega (arith, e))

  pub begins_digit : (c : ℕ) → 49 ≤ c → c ≤ 57 → move_of (between due) around c ≡ to (number whole) around
  begins_digit c l m =
      is.same around c
      (sym (white_none c (λ e. omega (arith, e, l)) (λ e. omega (arith, e, l)) (λ e. omega (arith, e, l)) (λ e. omega (arith, e, l))))
      (λ e. omega (arith, e, m))
      ∙ digit_value around c l m

  pub begins_string : move_of (between due) around 34 ≡ to (text behind) around
  unfolding value_step is_white
  begins_string = is.same around 34 refl (λ e. omega (arith, e))

-- a byte of a literal name
pub exactly_comes : (x : ℕ) (ks : List Class) (next : State) (around : List Kind) → holds (exactly x) x ≡ true → move_of (rest (exactly x) ks next) around x ≡ to (remaining ks next) around
unfolding move_of rest_move
exactly_comes x ks next around e = rw e refl

-- ---- in an object or an array

module _ (around : List Kind) where
  pub first_name_lem : move_of (between first_name) around 34 ≡ to (text colon) around
  unfolding move_of between_move token_move is_white
  first_name_lem = refl

  pub next_name : move_of (between name) around 34 ≡ to (text colon) around
  unfolding move_of between_move token_move is_white
  next_name = refl

  pub colon_stands : move_of (between colon) around 58 ≡ to (between value) around
  unfolding move_of between_move token_move is_white
  colon_stands = refl

  pub object_comma : move_of (between behind) (in_object ∷ around) 44 ≡ to (between name) (in_object ∷ around)
  unfolding move_of between_move token_move behind_step is_white
  object_comma = refl

  pub array_comma : move_of (between behind) (in_array ∷ around) 44 ≡ to (between value) (in_array ∷ around)
  unfolding move_of between_move token_move behind_step is_white
  array_comma = refl

  pub object_closes : move_of (between behind) (in_object ∷ around) 125 ≡ to (between behind) around
  unfolding move_of between_move token_move behind_step is_white
  object_closes = refl

  pub array_closes : move_of (between behind) (in_array ∷ around) 93 ≡ to (between behind) around
  unfolding move_of between_move token_move behind_step is_white
  array_closes = refl

  pub object_empty : move_of (between first_name) (in_object ∷ around) 125 ≡ to (between behind) around
  unfolding move_of between_move token_move behind_step is_white
  object_empty = refl

  pub array_empty : move_of (between first_value) (in_array ∷ around) 93 ≡ to (between behind) around
  unfolding move_of between_move token_move behind_step is_white
  array_empty = refl

-- ---- the outer object

pub outer_begins : move_of (between outer) [] 123 ≡ to (between first_name) (in_object ∷ [])
unfolding move_of between_move token_move is_white
outer_begins = refl

pub zero_ends : move_of (between behind) [] 0 ≡ to ended []
unfolding move_of between_move token_move behind_step is_white
zero_ends = refl
