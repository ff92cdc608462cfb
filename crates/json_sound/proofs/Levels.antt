-- Levels: one byte opens at most one, and where more may be opened a reading goes on as before.
use mathlib.Core.Path.{◌≡◌, refl, subst}
use mathlib.Core.Bool.{Bool, true, false, cond}
use mathlib.Core.List.{List, [], ◌∷◌}
use Prim.Native.Nat.{ℕ, suc, ◌≤◌}
use native.Mathlib.Omega.{arith}
use borrow.Author.Tests.{ltb-false, le-ltb}
use lib.Dec.{eqb, ltb}
use lib.ListN.{length}
use Rattle.json_scan.specs.Scan.{is_white, is_within, is_digit, is_e, is_sign, is_escape, Class, holds, tails_of, Kind, in_object, in_array, Due, outer, first_name, first_value, name, colon, value, behind, Figure, minus, leading_zero, whole, point, fraction, exponent, sign, power, State, between, number, text, escape, rest, ended, Move, nowhere, to, value_step, name_step, behind_step, token_move, between_move, number_move, tail_move, text_move, escape_move, rest_move, move_of}
use Rattle.json_sound.proofs.Reach.{goes, reach, nowhere_else}

-- ---- one byte

abbrev Short : ℕ → Move → Type 0
Short n nowhere = Unit {0}
Short n (to state around) = length around ≤ suc n

either : (n : ℕ) (t : Bool) (one two : Move) → Short n one → Short n two → Short n (cond t one two)
either n true one two p q = p
either n false one two p q = q

-- it stays where it is
stays : (around : List Kind) → length around ≤ suc (length around)
stays around = omega arith

value_short : (around : List Kind) (c : ℕ) → Short (length around) (value_step around c)
unfolding value_step
value_short around c =
    either (length around) (eqb c 34) _ _ (stays around)
    (either (length around) (eqb c 123) _ _ (omega arith)
    (either (length around) (eqb c 91) _ _ (omega arith)
    (either (length around) (eqb c 45) _ _ (stays around)
    (either (length around) (eqb c 48) _ _ (stays around)
    (either (length around) (is_digit c) _ _ (stays around)
    (either (length around) (eqb c 102) _ _ (stays around)
    (either (length around) (eqb c 110) _ _ (stays around)
    (either (length around) (eqb c 116) _ nowhere (stays around) tt))))))))

name_short : (around : List Kind) (c : ℕ) → Short (length around) (name_step around c)
name_short around c = either (length around) (eqb c 34) _ nowhere (stays around) tt

behind_short : (around : List Kind) (c : ℕ) → Short (length around) (behind_step around c)
unfolding behind_step
behind_short [] c = either 0 (eqb c 0) _ nowhere (omega arith) tt
behind_short (in_object ∷ around) c = either (suc (length around)) (eqb c 44) _ _ (omega arith) (either (suc (length around)) (eqb c 125) _ nowhere (omega arith) tt)
behind_short (in_array ∷ around) c = either (suc (length around)) (eqb c 44) _ _ (omega arith) (either (suc (length around)) (eqb c 93) _ nowhere (omega arith) tt)

token_short : (due : Due) (around : List Kind) (c : ℕ) → Short (length around) (token_move due around c)
unfolding token_move
token_short outer around c = either (length around) (eqb c 123) _ nowhere (omega arith) tt
token_short first_name around c = either (length around) (eqb c 125) _ _ (behind_short around c) (name_short around c)
token_short first_value around c = either (length around) (eqb c 93) _ _ (behind_short around c) (value_short around c)
token_short name around c = name_short around c
token_short colon around c = either (length around) (eqb c 58) _ nowhere (stays around) tt
token_short value around c = value_short around c
token_short behind around c = behind_short around c

between_short : (due : Due) (around : List Kind) (c : ℕ) → Short (length around) (between_move due around c)
unfolding between_move
between_short due around c = either (length around) (is_white c) _ _ (stays around) (token_short due around c)

number_short : (figure : Figure) (around : List Kind) (c : ℕ) → Short (length around) (number_move figure around c)
unfolding number_move
number_short minus around c = either (length around) (eqb c 48) _ _ (stays around) (either (length around) (is_digit c) _ nowhere (stays around) tt)
number_short leading_zero around c = either (length around) (eqb c 46) _ _ (stays around) (either (length around) (is_e c) _ _ (stays around) (between_short behind around c))
number_short whole around c =
    either (length around) (is_digit c) _ _ (stays around)
    (either (length around) (eqb c 46) _ _ (stays around) (either (length around) (is_e c) _ _ (stays around) (between_short behind around c)))
number_short point around c = either (length around) (is_digit c) _ nowhere (stays around) tt
number_short fraction around c = either (length around) (is_digit c) _ _ (stays around) (either (length around) (is_e c) _ _ (stays around) (between_short behind around c))
number_short exponent around c = either (length around) (is_sign c) _ _ (stays around) (either (length around) (is_digit c) _ nowhere (stays around) tt)
number_short sign around c = either (length around) (is_digit c) _ nowhere (stays around) tt
number_short power around c = either (length around) (is_digit c) _ _ (stays around) (between_short behind around c)

tail_short : (ks : List Class) (next : State) (around : List Kind) → Short (length around) (tail_move ks next around)
tail_short [] next around = tt
tail_short (k ∷ ks) next around = stays around

step_short : (state : State) (around : List Kind) (c : ℕ) → Short (length around) (move_of state around c)
unfolding move_of text_move escape_move rest_move
step_short (between due) around c = between_short due around c
step_short (number figure) around c = number_short figure around c
step_short (text due) around c =
    either (length around) (eqb c 34) _ _ (stays around)
    (either (length around) (eqb c 92) _ _ (stays around)
    (either (length around) (is_within 32 127 c) _ _ (stays around) (tail_short (tails_of c) (text due) around)))
step_short (escape due) around c = either (length around) (is_escape c) _ _ (stays around) (either (length around) (eqb c 117) _ nowhere (stays around) tt)
step_short (rest k ks next) around c = either (length around) (holds k c) _ nowhere (stays around) tt
step_short ended around c = tt

pub one_level : (state : State) (around : List Kind) (c : ℕ) {state₁ : State} {around₁ : List Kind} → move_of state around c ≡ to state₁ around₁ → length around₁ ≤ suc (length around)
one_level state around c e = subst (Short (length around)) e (step_short state around c)

-- ---- more levels

pub reach_wider :
    (most more : ℕ) → most ≤ more → (xs : List ℕ) (state : State) (around : List Kind) {state₁ : State} {around₁ : List Kind} → reach most state around xs ≡ to state₁ around₁ →
    reach more state around xs ≡ to state₁ around₁
unfolding reach
reach_wider most more w [] state around e = e
reach_wider most more w (x ∷ xs) state around {state₁} {around₁} e = by (λ state₂ around₂ e. reach_wider most more w xs state₂ around₂ e) (move_of state around x) e
  where
    by :
        ((state₂ : State) (around₂ : List Kind) → reach most state₂ around₂ xs ≡ to state₁ around₁ → reach more state₂ around₂ xs ≡ to state₁ around₁) → (s : Move) →
        goes most (λ state₂ around₂. reach most state₂ around₂ xs) s ≡ to state₁ around₁ → goes more (λ state₂ around₂. reach more state₂ around₂ xs) s ≡ to state₁ around₁
    by again nowhere e = e
    by again (to state₂ around₂) e = test (ltb most (length around₂)) refl e
      where
        test :
            (t : Bool) → ltb most (length around₂) ≡ t → cond t nowhere (reach most state₂ around₂ xs) ≡ to state₁ around₁ →
            cond (ltb more (length around₂)) nowhere (reach more state₂ around₂ xs) ≡ to state₁ around₁
        test true d e = absurd (nowhere_else e)
        test false d e =
            let fits = le-ltb more (length around₂) (omega (arith, w, ltb-false most (length around₂) d)) in
            rw fits (again state₂ around₂ e)
