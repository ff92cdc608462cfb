-- Laws on tests: one taken by its two outcomes, two that hold alike, and tests joined by `&&`, `||` and `not`.
use mathlib.Core.Path.{◌≡◌, refl, sym, ap, ◌∙◌}
use mathlib.Core.Bool.{Bool, true, false, not, ◌&&◌, ◌||◌}
use mathlib.Core.Logic.{◌⊎◌, inl, inr}
use Prim.Native.Nat.{ℕ}
use native.Mathlib.Omega.{arith}

pub true_false : true ≡ false → ⊥
true_false e = let z : ◌≡◌ {A = ℕ} 0 1 = cc in omega arith

-- a test holds or it does not
pub outcome : (t : Bool) → (t ≡ true) ⊎ (t ≡ false)
outcome true = inl refl
outcome false = inr refl

-- two tests that hold in the same cases
pub same_test : {a b : Bool} → (a ≡ true → b ≡ true) → (b ≡ true → a ≡ true) → a ≡ b
same_test {a} {b} f g = go a b f g
  where
    go : (a b : Bool) → (a ≡ true → b ≡ true) → (b ≡ true → a ≡ true) → a ≡ b
    go true b f g = sym (f refl)
    go false true f g = g refl
    go false false f g = refl

-- but not both
pub clash : {A : Type 0} (b : Bool) → b ≡ true → b ≡ false → A
clash b p q = absurd (true_false (sym p ∙ q))

-- ---- tests joined by `&&`

pub and_both : {a b : Bool} → a ≡ true → b ≡ true → (a && b) ≡ true
and_both p q = rw (p, q) refl

pub and_left_fails : {a : Bool} (b : Bool) → a ≡ false → (a && b) ≡ false
and_left_fails b p = rw p refl

pub and_right_fails : (a : Bool) {b : Bool} → b ≡ false → (a && b) ≡ false
and_right_fails true p = p
and_right_fails false p = refl

pub and_left : (a b : Bool) → (a && b) ≡ true → a ≡ true
and_left true b e = refl
and_left false b e = e

pub and_right : (a b : Bool) → (a && b) ≡ true → b ≡ true
and_right true b e = e
and_right false b e = absurd (true_false (sym e))

-- a test that refuses only where a flag is set
pub and_not : (a b : Bool) → (a && not b) ≡ false → a ≡ true → b ≡ true
and_not true true e p = refl
and_not true false e p = absurd (true_false e)
and_not false b e p = absurd (true_false (sym p))

pub and_not_false : (a b : Bool) → (a ≡ true → b ≡ true) → (a && not b) ≡ false
and_not_false true b h = ap not (h refl)
and_not_false false b h = refl

-- two tests that did not hold
pub or_left : (a b : Bool) → (a || b) ≡ false → a ≡ false
or_left true b e = e
or_left false b e = refl

pub or_right : (a b : Bool) → (a || b) ≡ false → b ≡ false
or_right true b e = absurd (true_false e)
or_right false b e = e

pub or_neither : (a b : Bool) → a ≡ false → b ≡ false → (a || b) ≡ false
or_neither a b p q = cc
