-- One byte of a number.
use mathlib.Core.Path.{◌≡◌, refl, ap, ◌∙◌}
use mathlib.Core.Bool.{Bool, true, false, cond}
use mathlib.Core.List.{List}
use Prim.Native.Nat.{ℕ}
use borrow.Author.Tests.{ne_eqb}
use Rattle.json_scan.specs.Scan.{is_digit, is_e, is_sign, Kind, Figure, minus, leading_zero, whole, point, fraction, exponent, sign, power, behind, between, number, nowhere, to, number_move, move_of}
use Rattle.json_scan.proofs.Bytes.{no_zero_lem}

-- ---- int

pub minus_zero : (around : List Kind) (c : ℕ) → c ≡ 48 → move_of (number minus) around c ≡ to (number leading_zero) around
unfolding move_of number_move
minus_zero around c e = ap (move_of (number minus) around) e

pub minus_digit : (around : List Kind) (c : ℕ) → (c ≡ 48 → ⊥) → is_digit c ≡ true → move_of (number minus) around c ≡ to (number whole) around
unfolding move_of number_move
minus_digit around c z e = rw (ne_eqb c 48 z, e) refl

pub minus_wrong : (around : List Kind) (c : ℕ) → is_digit c ≡ false → move_of (number minus) around c ≡ nowhere
unfolding move_of number_move
minus_wrong around c e = rw (ne_eqb c 48 (no_zero_lem c e), e) refl

pub whole_digit : (around : List Kind) (c : ℕ) → is_digit c ≡ true → move_of (number whole) around c ≡ to (number whole) around
unfolding move_of number_move
whole_digit around c e = rw e refl

-- behind its last digit, int is as it is behind a zero
pub whole_over : (around : List Kind) (c : ℕ) → is_digit c ≡ false → move_of (number whole) around c ≡ move_of (number leading_zero) around c
unfolding move_of number_move
whole_over around c e = rw e refl

-- ---- frac

-- where a number may end, an e begins its exponent, and any other byte is as behind a value
abbrev pub Ends : Figure → ℕ → Type 0
Ends figure c = (around : List Kind) → move_of (number figure) around c ≡ cond (is_e c) (to (number exponent) around) (move_of (between behind) around c)

pub zero_point : (around : List Kind) (c : ℕ) → c ≡ 46 → move_of (number leading_zero) around c ≡ to (number point) around
unfolding move_of number_move
zero_point around c e = ap (move_of (number leading_zero) around) e

pub zero_ends : (c : ℕ) → (c ≡ 46 → ⊥) → Ends leading_zero c
unfolding move_of number_move
zero_ends c f around = rw (ne_eqb c 46 f) refl

pub point_digit : (around : List Kind) (c : ℕ) → is_digit c ≡ true → move_of (number point) around c ≡ to (number fraction) around
unfolding move_of number_move
point_digit around c e = rw e refl

pub point_wrong : (around : List Kind) (c : ℕ) → is_digit c ≡ false → move_of (number point) around c ≡ nowhere
unfolding move_of number_move
point_wrong around c e = rw e refl

pub fraction_digit : (around : List Kind) (c : ℕ) → is_digit c ≡ true → move_of (number fraction) around c ≡ to (number fraction) around
unfolding move_of number_move
fraction_digit around c e = rw e refl

pub fraction_ends : (c : ℕ) → is_digit c ≡ false → Ends fraction c
unfolding move_of number_move
fraction_ends c e around = rw e refl

-- ---- exp

pub ends_e : (figure : Figure) (c : ℕ) → Ends figure c → is_e c ≡ true → (around : List Kind) → move_of (number figure) around c ≡ to (number exponent) around
ends_e figure c ends e around = ends around ∙ ap (λ (t : Bool). cond t (to (number exponent) around) (move_of (between behind) around c)) e

pub ends_here : (figure : Figure) (c : ℕ) → Ends figure c → is_e c ≡ false → (around : List Kind) → move_of (number figure) around c ≡ move_of (between behind) around c
ends_here figure c ends e around = ends around ∙ ap (λ (t : Bool). cond t (to (number exponent) around) (move_of (between behind) around c)) e

pub exponent_sign : (around : List Kind) (c : ℕ) → is_sign c ≡ true → move_of (number exponent) around c ≡ to (number sign) around
unfolding move_of number_move
exponent_sign around c e = rw e refl

pub exponent_bare : (around : List Kind) (c : ℕ) → is_sign c ≡ false → move_of (number exponent) around c ≡ move_of (number sign) around c
unfolding move_of number_move
exponent_bare around c e = rw e refl

pub sign_digit : (around : List Kind) (c : ℕ) → is_digit c ≡ true → move_of (number sign) around c ≡ to (number power) around
unfolding move_of number_move
sign_digit around c e = rw e refl

pub sign_wrong : (around : List Kind) (c : ℕ) → is_digit c ≡ false → move_of (number sign) around c ≡ nowhere
unfolding move_of number_move
sign_wrong around c e = rw e refl

pub power_digit : (around : List Kind) (c : ℕ) → is_digit c ≡ true → move_of (number power) around c ≡ to (number power) around
unfolding move_of number_move
power_digit around c e = rw e refl

pub power_over : (around : List Kind) (c : ℕ) → is_digit c ≡ false → move_of (number power) around c ≡ move_of (between behind) around c
unfolding move_of number_move
power_over around c e = rw e refl
