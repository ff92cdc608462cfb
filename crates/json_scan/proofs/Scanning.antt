-- One byte more of a payload: it leads on, or the reading stops at its place.
use Rattle.std.specs.Prelude.{Ok, Err}
use mathlib.Core.Path.{◌≡◌, refl, ap, ◌∙◌}
use mathlib.Core.Bool.{Bool, cond}
use mathlib.Core.List.{List, [], ◌∷◌}
use Prim.Native.Nat.{ℕ, zero, suc, ◌+◌, ◌<◌, ◌≤◌, suc-le-suc}
use native.Mathlib.Omega.{arith}
use native.Mathlib.Nat.{le_of_suc-le-suc}
use borrow.Author.Tests.{lt-ltb, le-ltb}
use lib.ListN.{length, drop, get_or, drop_of_length-le}
use Rattle.json_scan.specs.Scan.{Verdict}
use Rattle.json_scan.specs.declared.Fault.TheVariants.{NotJson, TooDeep}
use Rattle.json_scan.specs.Scan.{Kind, State, to, move_of, is_ended, go_on, scan}

far : (i : ℕ) → suc (i + 1) ≡ suc i + 1
far i = omega arith

-- what is left at a place is the byte there and what is left behind it
pub drop_at : (xs : List ℕ) (i : ℕ) → i < length xs → drop i xs ≡ get_or xs i 0 ∷ drop (i + 1) xs
drop_at [] i l = absurd (omega arith)
drop_at (x ∷ xs) zero l = refl
drop_at (x ∷ xs) (suc i) l = drop_at xs i (le_of_suc-le-suc l) ∙ ap (λ (n : ℕ). get_or xs i 0 ∷ drop n (x ∷ xs)) (far i)

-- behind the end there is a 0
pub inside : (xs : List ℕ) (i : ℕ) → (get_or xs i 0 ≡ 0 → ⊥) → i < length xs
inside [] i f = absurd (f refl)
inside (x ∷ xs) zero f = omega arith
inside (x ∷ xs) (suc i) f = suc-le-suc (inside xs i f)

pub scan_at :
    (most : ℕ) (state : State) (around : List Kind) (bytes : List ℕ) (at : ℕ) → at < length bytes →
    scan most state around at (drop at bytes) ≡ go_on most at (λ state₁ around₁. scan most state₁ around₁ (at + 1) (drop (at + 1) bytes)) (move_of state around (get_or bytes at 0))
unfolding scan
scan_at most state around bytes at l = ap (scan most state around at) (drop_at bytes at l)

-- no byte is left
pub scan_over :
    (most : ℕ) (state : State) (around : List Kind) (bytes : List ℕ) (at : ℕ) → length bytes ≤ at →
    scan most state around at (drop at bytes) ≡ cond (is_ended state) (Ok tt) (Err (NotJson at))
unfolding scan
scan_over most state around bytes at l = ap (scan most state around at) (drop_of_length-le bytes l)

-- no level too many, and one too many
pub go_on_lem : (most at : ℕ) (next : State → List Kind → Verdict) (state : State) (around : List Kind) → length around ≤ most → go_on most at next (to state around) ≡ next state around
go_on_lem most at next state around l = ap (λ (t : Bool). cond t (Err (TooDeep at)) (next state around)) (le-ltb most (length around) l)

pub go_deeper : (most at : ℕ) (next : State → List Kind → Verdict) (state : State) (around : List Kind) → most < length around → go_on most at next (to state around) ≡ Err (TooDeep at)
go_deeper most at next state around l = ap (λ (t : Bool). cond t (Err (TooDeep at)) (next state around)) (lt-ltb most (length around) l)
