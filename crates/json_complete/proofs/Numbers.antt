-- Numbers.
use mathlib.Core.Path.{◌≡◌, refl}
use mathlib.Core.List.{List}
use Prim.Native.Nat.{ℕ, ◌≤◌}
use native.Mathlib.Omega.{arith}
use borrow.Author.Tests.{ne_eqb}
use lib.ListN.{length}
use Rattle.json_grammar.specs.Language.{◌then◌, perhaps, some}
use Rattle.json_grammar.specs.Json as Json
use Rattle.json_scan.specs.Scan.{is_within, Kind, Figure, minus, leading_zero, whole, point, fraction, exponent, sign, power, behind, State, between, number, to, number_move, move_of}
use Rattle.json_scan.proofs.Bytes.{within}
use Rattle.json_complete.proofs.Goes.{Any, Goes, goes_byte, goes_range, goes_or, goes_then, goes_as, goes_or_then, goes_perhaps_then, goes_many}
use Rattle.json_complete.proofs.Free.{Ends, Free, goes_ended}

-- ---- one byte of a number

module _ (around : List Kind) where
  minus_zero : move_of (number minus) around 48 ≡ to (number leading_zero) around
  unfolding move_of number_move
  minus_zero = refl

  minus_digit : (c : ℕ) → 49 ≤ c → c ≤ 57 → move_of (number minus) around c ≡ to (number whole) around
  unfolding move_of number_move
  minus_digit c l m = rw (ne_eqb c 48 (λ e. omega (arith, e, l)), within 48 57 c (omega (arith, l)) m) refl

  whole_digit : (c : ℕ) → 48 ≤ c → c ≤ 57 → move_of (number whole) around c ≡ to (number whole) around
  unfolding move_of number_move
  whole_digit c l m = rw (within 48 57 c l m) refl

  zero_point : move_of (number leading_zero) around 46 ≡ to (number point) around
  unfolding move_of number_move
  zero_point = refl

  whole_point : move_of (number whole) around 46 ≡ to (number point) around
  unfolding move_of number_move is_within
  whole_point = refl

  point_digit : (c : ℕ) → 48 ≤ c → c ≤ 57 → move_of (number point) around c ≡ to (number fraction) around
  unfolding move_of number_move
  point_digit c l m = rw (within 48 57 c l m) refl

  fraction_digit : (c : ℕ) → 48 ≤ c → c ≤ 57 → move_of (number fraction) around c ≡ to (number fraction) around
  unfolding move_of number_move
  fraction_digit c l m = rw (within 48 57 c l m) refl

  exponent_minus : move_of (number exponent) around 45 ≡ to (number sign) around
  unfolding move_of number_move
  exponent_minus = refl

  exponent_plus : move_of (number exponent) around 43 ≡ to (number sign) around
  unfolding move_of number_move
  exponent_plus = refl

  exponent_digit : (c : ℕ) → 48 ≤ c → c ≤ 57 → move_of (number exponent) around c ≡ to (number power) around
  unfolding move_of number_move
  exponent_digit c l m = rw (ne_eqb c 45 (λ e. omega (arith, e, l)), ne_eqb c 43 (λ e. omega (arith, e, l)), within 48 57 c l m) refl

  sign_digit : (c : ℕ) → 48 ≤ c → c ≤ 57 → move_of (number sign) around c ≡ to (number power) around
  unfolding move_of number_move
  sign_digit c l m = rw (within 48 57 c l m) refl

  power_digit : (c : ℕ) → 48 ≤ c → c ≤ 57 → move_of (number power) around c ≡ to (number power) around
  unfolding move_of number_move
  power_digit c l m = rw (within 48 57 c l m) refl

  power_ends : (c : ℕ) → Ends c → move_of (number power) around c ≡ move_of (between behind) around c
  unfolding move_of number_move
  power_ends c f = rw f.no_digit refl

-- where a number may have an exponent or end
record MayEnd (figure : Figure) (around : List Kind) : Type 0 where
  lower : move_of (number figure) around 101 ≡ to (number exponent) around
  upper : move_of (number figure) around 69 ≡ to (number exponent) around
  ends : (c : ℕ) → Ends c → move_of (number figure) around c ≡ move_of (between behind) around c

-- behind a zero, in the digits of int and in those of frac
zero_ends : (around : List Kind) → MayEnd leading_zero around
unfolding move_of number_move
zero_ends around = record { lower = refl; upper = refl; ends = λ c f. rw (f.no_point, f.no_e) refl }

whole_ends : (around : List Kind) → MayEnd whole around
unfolding move_of number_move is_within
whole_ends around = record { lower = refl; upper = refl; ends = λ c f. rw (f.no_digit, f.no_point, f.no_e) refl }

fraction_ends : (around : List Kind) → MayEnd fraction around
unfolding move_of number_move is_within
fraction_ends around = record { lower = refl; upper = refl; ends = λ c f. rw (f.no_digit, f.no_e) refl }

-- ---- its parts

module _ {most : ℕ} {around : List Kind} (l : length around ≤ most) where
  -- digits, the first of which leads into them
  goes_digits :
      {state state₁ : State} → ((c : ℕ) → 48 ≤ c → c ≤ 57 → move_of state around c ≡ to state₁ around) →
      ((c : ℕ) → 48 ≤ c → c ≤ 57 → move_of state₁ around c ≡ to state₁ around) → Goes most Any (some Json.digit) state around state₁ around
  goes_digits e f = goes_then (goes_range e l) (goes_many (goes_range f l))

  -- an exponent
  goes_exp : {figure : Figure} → MayEnd figure around → Goes most Any Json.exp (number figure) around (number power) around
  goes_exp may =
      goes_then (goes_or (goes_byte may.lower l) (goes_byte may.upper l))
      (goes_perhaps_then (goes_digits (exponent_digit around) (power_digit around))
      (goes_then (goes_or (goes_byte (exponent_minus around) l) (goes_byte (exponent_plus around) l)) (goes_digits (sign_digit around) (power_digit around))))

  -- an exponent or none, and the number is over
  goes_perhaps-exp : {figure : Figure} → MayEnd figure around → Goes most Free (perhaps Json.exp) (number figure) around (between behind) around
  goes_perhaps-exp may = goes_or (goes_ended may.ends) (goes_as (goes_exp may) (goes_ended (power_ends around)))

  -- what may come behind int
  goes_behind_int :
      {figure : Figure} → MayEnd figure around → move_of (number figure) around 46 ≡ to (number point) around →
      Goes most Free (perhaps Json.frac then perhaps Json.exp) (number figure) around (between behind) around
  goes_behind_int may e =
      goes_perhaps_then (goes_perhaps-exp may)
      (goes_then (goes_then (goes_byte e l) (goes_digits (point_digit around) (fraction_digit around))) (goes_perhaps-exp (fraction_ends around)))

  -- without its minus, from wherever a digit begins a number
  goes_unsigned :
      {state : State} → move_of state around 48 ≡ to (number leading_zero) around → ((c : ℕ) → 49 ≤ c → c ≤ 57 → move_of state around c ≡ to (number whole) around) →
      Goes most Free (Json.int then perhaps Json.frac then perhaps Json.exp) state around (between behind) around
  goes_unsigned z d =
      goes_or_then (goes_then (goes_byte z l) (goes_behind_int (zero_ends around) (zero_point around)))
      (goes_then (goes_then (goes_range d l) (goes_many (goes_range (whole_digit around) l))) (goes_behind_int (whole_ends around) (whole_point around)))

  -- a number, from wherever its first byte begins one
  pub goes_number :
      {state : State} → move_of state around 45 ≡ to (number minus) around → move_of state around 48 ≡ to (number leading_zero) around →
      ((c : ℕ) → 49 ≤ c → c ≤ 57 → move_of state around c ≡ to (number whole) around) → Goes most Free Json.number state around (between behind) around
  goes_number m z d = goes_perhaps_then (goes_unsigned z d) (goes_then (goes_byte m l) (goes_unsigned (minus_zero around) (minus_digit around)))
