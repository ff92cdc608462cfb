-- Laws on counting the bytes that pass a test.
use mathlib.Core.Path.{◌≡◌, sym, ◌∙◌}
use mathlib.Core.Bool.{Bool, true, false}
use Prim.Native.Nat.{ℕ, ◌+◌, ◌<◌, ◌≤◌}
use mathlib.Core.List.{List, [], ◌∷◌, ◌++◌}
use native.Mathlib.Decide.{ℕ_discrete}
use native.Mathlib.Omega.{arith}
use native.Mathlib.Numerals.{add-one}
use lib.Dec.{eqb}
use lib.ListN.{length, get_or, take, length-take}
use lib.Seq.{take-suc}
use borrow.Author.Tests.{eq-eqb, ne_eqb}
use Rattle.frame_forms.specs.Count.{one}
use Rattle.frame_forms.specs.Working.{count}

-- two tests that hold of the same numbers
pub same_test : {a b c d : ℕ} → (a ≡ b → c ≡ d) → (c ≡ d → a ≡ b) → eqb a b ≡ eqb c d
same_test {a} {b} {c} {d} to from = go (ℕ_discrete a b)
  where
    go : Dec (a ≡ b) → eqb a b ≡ eqb c d
    go (yes e) = eq-eqb a b e ∙ sym (eq-eqb c d (to e))
    go (no n) = ne_eqb a b n ∙ sym (ne_eqb c d (λ (e : c ≡ d). n (from e)))

pub one_le : (t : Bool) → one t ≤ 1
one_le true = omega arith
one_le false = omega arith

pub count_le : (test : ℕ → Bool) (xs : List ℕ) → count test xs ≤ length xs
count_le test [] = omega arith
count_le test (x ∷ xs) = omega (arith, count_le test xs, one_le (test x))

pub count-append : (test : ℕ → Bool) (xs ys : List ℕ) → count test (xs ++ ys) ≡ count test xs + count test ys
count-append test [] ys = omega arith
count-append test (x ∷ xs) ys = omega (arith, count-append test xs ys)

-- a turn of a count: one byte more
pub count_more : (test : ℕ → Bool) (xs : List ℕ) (i : ℕ) → i < length xs → count test (take (i + 1) xs) ≡ count test (take i xs) + one (test (get_or xs i 0))
count_more test xs i h = rw (add-one, take-suc xs i 0 h, count-append) (omega arith)

-- the bytes passed are at most as many as the turns
pub count-take_le : (test : ℕ → Bool) (xs : List ℕ) (i : ℕ) → count test (take i xs) ≤ i
count-take_le test xs i = omega (arith, count_le test (take i xs), length-take i xs)
