-- The first malformed route: it is there, those in front of it are routes, and it is none or the 65th.
use mathlib.Core.Path.{◌≡◌, refl, sym, ap, ◌∙◌}
use Prim.Native.Nat.{ℕ, zero, suc, ◌<◌, ◌≤◌}
use mathlib.Core.Bool.{Bool, true, false, cond}
use mathlib.Core.List.{List, [], ◌∷◌, ◌++◌}
use native.Mathlib.Omega.{arith}
use borrow.Author.Tests.{le-leb}
use lib.ListN.{length, get_or, take, drop}
use Rattle.bytes_number.proofs.Truth.{true_false}
use Rattle.frame_forms.specs.Forms.{is_route}
use Rattle.frame_message.specs.Writing.{all_routes, routes_good}
use Rattle.frame_message.specs.Reading.{before_empty}
use Rattle.frame_fault.specs.Fault.{first_malformed}

pub record Malformed (most : ℕ) (rs : List (List ℕ)) (k : ℕ) : Type 0 where
  pub good : all_routes (take k rs) ≡ true
  pub there : k < length rs
  pub few : k ≤ most
  pub wrong : k < most → is_route (get_or rs k []) ≡ false

pub malformed : (most : ℕ) (rs : List (List ℕ)) → (length rs ≤ most → all_routes rs ≡ true → ⊥) → Malformed most rs (first_malformed most rs)
malformed zero [] n = absurd (n (omega arith) refl)
malformed zero (r ∷ rs) n = record { good = refl; there = omega arith; few = omega arith; wrong = λ l. absurd (omega arith) }
malformed (suc most) [] n = absurd (n (omega arith) refl)
malformed (suc most) (r ∷ rs) n = go (is_route r) refl (λ is. malformed most rs (λ l a. n (omega arith) (rw is a)))
  where
    go : (t : Bool) → is_route r ≡ t → (is_route r ≡ true → Malformed most rs (first_malformed most rs)) → Malformed (suc most) (r ∷ rs) (cond t (suc (first_malformed most rs)) 0)
    go true is more =
        let m = more is in
        record { good = rw is m.good; there = omega (arith, m.there); few = omega (arith, m.few); wrong = λ l. m.wrong (omega arith) }
    go false is more = record { good = refl; there = omega arith; few = omega arith; wrong = λ l. is }

-- 8: they are too many, or not all routes
pub not_good : (rs : List (List ℕ)) → routes_good rs ≡ false → length rs ≤ 64 → all_routes rs ≡ true → ⊥
unfolding routes_good
not_good rs e l a = true_false (sym (rw (le-leb (length rs) 64 l, a)) ∙ e)

-- the parts in front of the first empty one, and the others
pub before_rest : (qs : List (List ℕ)) → before_empty qs ++ drop (length (before_empty qs)) qs ≡ qs
before_rest [] = refl
before_rest ([] ∷ qs) = refl
before_rest ((x ∷ q) ∷ qs) = ap (λ (t : List (List ℕ)). (x ∷ q) ∷ t) (before_rest qs)
