-- Where a number ends: at the first byte that leads to no further figure of it.
use Rattle.std.specs.Prelude.{Ok, Err}
use Rattle.std.specs.Prelude.{Bool, true, false, cond, List, [], ◌∷◌, ℕ, ◌+◌}
use Rattle.json_scan.specs.WorkingEnds.{Reached}
use Rattle.json_scan.specs.Scan.{is_e, Figure, minus, leading_zero, whole, point, fraction, exponent, sign, power, between, number, text, escape, rest, ended, Move, nowhere, to, move_of}

-- behind a digit a number may be over, and behind nothing else
abbrev pub is_over : Figure → Bool
is_over minus = false
is_over leading_zero = true
is_over whole = true
is_over point = false
is_over fraction = true
is_over exponent = false
is_over sign = false
is_over power = true

abbrev pub over_at : Figure → ℕ → Reached
over_at figure at = cond (is_over figure) (Ok at) (Err at)

-- a byte that leads to a figure is passed, and no other
abbrev pub figure_on : Reached → (Figure → Reached) → Move → Reached
figure_on over next nowhere = over
figure_on over next (to (number figure) around) = next figure
figure_on over next (to (between due) around) = over
figure_on over next (to (text due) around) = over
figure_on over next (to (escape due) around) = over
figure_on over next (to (rest k ks state) around) = over
figure_on over next (to ended around) = over

-- from a place on, behind this figure. What is open around the number does not matter.
unfoldable pub number_end : Figure → ℕ → List ℕ → Reached
number_end figure at [] = over_at figure at
number_end figure at (c ∷ cs) = figure_on (over_at figure at) (λ figure₁. number_end figure₁ (at + 1) cs) (move_of (number figure) [] c)

-- behind int or frac: an exponent, or the number's end
unfoldable pub scale_end : ℕ → List ℕ → Reached
scale_end at [] = Ok at
scale_end at (c ∷ cs) = cond (is_e c) (number_end exponent (at + 1) cs) (Ok at)
