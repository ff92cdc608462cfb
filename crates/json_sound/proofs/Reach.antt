-- Where a reading stands behind some bytes, if it goes on through all of them and opens no level too many.
use mathlib.Core.Path.{◌≡◌, refl, ap, ◌∙◌}
use mathlib.Core.Bool.{Bool, true, false, cond}
use mathlib.Core.List.{List, [], ◌∷◌, ◌++◌}
use Prim.Native.Nat.{ℕ, ◌≤◌}
use native.Mathlib.Omega.{arith}
use borrow.Author.Tests.{le-ltb}
use lib.Dec.{ltb}
use lib.ListN.{length}
use Rattle.json_scan.specs.Scan.{Kind, State, Move, nowhere, to, move_of}

abbrev pub goes : ℕ → (State → List Kind → Move) → Move → Move
goes most next nowhere = nowhere
goes most next (to state around) = cond (ltb most (length around)) nowhere (next state around)

unfoldable pub reach : ℕ → State → List Kind → List ℕ → Move
reach most state around [] = to state around
reach most state around (c ∷ cs) = goes most (λ state₁ around₁. reach most state₁ around₁ cs) (move_of state around c)

-- one byte that leads on
pub reach_on :
    (most : ℕ) (state : State) (around : List Kind) (c : ℕ) (cs : List ℕ) (state₁ : State) (around₁ : List Kind) → move_of state around c ≡ to state₁ around₁ → length around₁ ≤ most →
    reach most state around (c ∷ cs) ≡ reach most state₁ around₁ cs
unfolding reach
reach_on most state around c cs state₁ around₁ e l =
    ap (goes most (λ state₂ around₂. reach most state₂ around₂ cs)) e
    ∙ ap (λ (t : Bool). cond t nowhere (reach most state₁ around₁ cs)) (le-ltb most (length around₁) l)

-- ---- one part behind another

abbrev onto : (State → List Kind → Move) → Move → Move
onto next nowhere = nowhere
onto next (to state around) = next state around

split :
    (most : ℕ) (xs ys : List ℕ) (state : State) (around : List Kind) →
    reach most state around (xs ++ ys) ≡ onto (λ state₂ around₂. reach most state₂ around₂ ys) (reach most state around xs)
unfolding reach
split most [] ys state around = refl
split most (x ∷ xs) ys state around = by (λ state₂ around₂. split most xs ys state₂ around₂) (move_of state around x)
  where
    Split : Move → Move → Type 0
    Split whole front = whole ≡ onto (λ state₂ around₂. reach most state₂ around₂ ys) front

    test : (whole front : Move) → Split whole front → (t : Bool) → Split (cond t nowhere whole) (cond t nowhere front)
    test whole front again true = refl
    test whole front again false = again

    by :
        ((state₂ : State) (around₂ : List Kind) → Split (reach most state₂ around₂ (xs ++ ys)) (reach most state₂ around₂ xs)) → (s : Move) →
        Split (goes most (λ state₂ around₂. reach most state₂ around₂ (xs ++ ys)) s) (goes most (λ state₂ around₂. reach most state₂ around₂ xs) s)
    by again nowhere = refl
    by again (to state₂ around₂) = test (reach most state₂ around₂ (xs ++ ys)) (reach most state₂ around₂ xs) (again state₂ around₂) (ltb most (length around₂))

pub reach_append :
    (most : ℕ) (state : State) (around : List Kind) (xs ys : List ℕ) {state₁ : State} {around₁ : List Kind} → reach most state around xs ≡ to state₁ around₁ →
    reach most state around (xs ++ ys) ≡ reach most state₁ around₁ ys
reach_append most state around xs ys e = split most xs ys state around ∙ ap (onto (λ state₂ around₂. reach most state₂ around₂ ys)) e

-- ---- where a step leads

pub nowhere_else : {state : State} {around : List Kind} → nowhere ≡ to state around → ⊥
nowhere_else e = let z : ◌≡◌ {A = ℕ} 0 1 = cc in omega arith

pub same_state : {state state₁ : State} {around around₁ : List Kind} → to state around ≡ to state₁ around₁ → state ≡ state₁
same_state e = cc
