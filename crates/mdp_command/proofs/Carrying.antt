-- The four kinds of a command, by what it carries.
use mathlib.Core.Path.{◌≡◌, refl, sym, ◌∙◌}
use mathlib.Core.Bool.{Bool, true, false, ◌&&◌, ◌||◌}
use Prim.Native.Nat.{ℕ, ◌≤◌}
use native.Mathlib.Omega.{arith}
use lib.Dec.{eqb, leb}
use borrow.Author.Tests.{eqb-true, eqb-false, leb-true, leb-false}
use Rattle.bytes_number.proofs.Truth.{true_false, and_left, and_right}
use Rattle.mdp_command.specs.Command.{is_command, has_name, has_address, has_body}

-- what a command of this sender and number carries: name, address, body
pub record Carries (sender code : ℕ) (name address body : Bool) : Type 0 where
  pub named : has_name sender code ≡ name
  pub addressed : has_address sender code ≡ address
  pub bodied : has_body sender code ≡ body

pub data Kind (sender code : ℕ) : Type 0 where
  -- a client's
  asks : sender ≡ 1 → Carries sender code true false true → Kind sender code
  -- a worker's 01, its 02 to 04, and its 05 and 06
  ready : sender ≡ 2 → Carries sender code true false false → Kind sender code
  works : sender ≡ 2 → Carries sender code false true true → Kind sender code
  bare : sender ≡ 2 → Carries sender code false false false → Kind sender code

pub kind_of : (sender code : ℕ) → is_command sender code ≡ true → Kind sender code
unfolding is_command has_name has_address has_body
kind_of sender code e = go (eqb sender 1) (eqb sender 2) refl refl e
  where
    go : (p q : Bool) → eqb sender 1 ≡ p → eqb sender 2 ≡ q → ((p && (leb 1 code && leb code 3)) || (q && (leb 1 code && leb code 6))) ≡ true → Kind sender code
    go true true a b e = absurd (omega (arith, eqb-true sender 1 a, eqb-true sender 2 b))
    go true false a b e = asks (eqb-true sender 1 a) (record { named = rw a; addressed = rw b; bodied = rw a })
    go false false a b e = absurd (true_false (sym e))
    go false true a b e = by (eqb code 1) (leb 2 code) (leb code 4) refl refl refl
      where
        by : (r s t : Bool) → eqb code 1 ≡ r → leb 2 code ≡ s → leb code 4 ≡ t → Kind sender code
        by true true t c d f = absurd (omega (arith, eqb-true code 1 c, leb-true 2 code d))
        by true false t c d f = ready (eqb-true sender 2 b) (record { named = rw (a, c); addressed = rw (b, d); bodied = rw (a, d) })
        by false true true c d f = works (eqb-true sender 2 b) (record { named = rw (a, c); addressed = rw (b, d, f); bodied = rw (a, d, f) })
        by false true false c d f = bare (eqb-true sender 2 b) (record { named = rw (a, c); addressed = rw (b, d, f); bodied = rw (a, d, f) })
        by false false t c d f = absurd (omega (arith, eqb-false code 1 c, leb-false 2 code d, leb-true 1 code (and_left (leb 1 code) (leb code 6) e)))

-- no command has a higher number than a worker's last
pub code_most : (sender code : ℕ) → is_command sender code ≡ true → code ≤ 6
unfolding is_command
code_most sender code e = go (eqb sender 1) (eqb sender 2) e
  where
    go : (p q : Bool) → ((p && (leb 1 code && leb code 3)) || (q && (leb 1 code && leb code 6))) ≡ true → code ≤ 6
    go false false e = absurd (true_false (sym e))
    go false true e = leb-true code 6 (and_right (leb 1 code) (leb code 6) e)
    go true q e = by (leb code 3) (leb code 6) refl refl
      where
        by : (r s : Bool) → leb code 3 ≡ r → leb code 6 ≡ s → code ≤ 6
        by r true a b = leb-true code 6 b
        by true false a b = omega (arith, leb-true code 3 a)
        by false false a b = absurd (never (leb 1 code) q e a b)
          where
            never : (t q : Bool) → ((t && leb code 3) || (q && (t && leb code 6))) ≡ true → leb code 3 ≡ false → leb code 6 ≡ false → ⊥
            never true true e a b = true_false (sym e ∙ rw (a, b))
            never true false e a b = true_false (sym e ∙ rw a)
            never false true e a b = true_false (sym e)
            never false false e a b = true_false (sym e)
