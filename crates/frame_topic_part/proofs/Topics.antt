-- The topic's part: a law for each case of its test.
use mathlib.Core.Path.{◌≡◌, refl}
use mathlib.Core.Bool.{false}
use Prim.Native.Nat.{ℕ, zero, suc, ◌-◌, ◌<◌}
use mathlib.Core.List.{List, [], ◌∷◌}
use native.Mathlib.Omega.{arith}
use native.Mathlib.Nat.{le_of_suc-le-suc}
use borrow.Author.Tests.{eq-eqb, ne_eqb}
use lib.ListN.{length, get_or, take}
use Rattle.frame_forms.specs.Forms.{is_topic}
use Rattle.frame_message.specs.Reading.{is_topic_part}

-- what stands at a place within does not go by what would stand past the end
within : (p : List ℕ) (i d e : ℕ) → i < length p → get_or p i d ≡ get_or p i e
within [] i d e h = absurd (omega arith)
within (x ∷ p) zero d e h = refl
within (x ∷ p) (suc i) d e h = within p i d e (le_of_suc-le-suc h)

pub topic_none : (p : List ℕ) → length p ≡ 0 → false ≡ is_topic_part p
unfolding is_topic_part
topic_none [] h = refl
topic_none (x ∷ p) h = absurd (omega arith)

module _ (p : List ℕ) (some : (length p ≡ 0 → ⊥)) where
  pub topic_open : (get_or p (length p - 1) 0 ≡ 0 → ⊥) → false ≡ is_topic_part p
  unfolding is_topic_part
  topic_open n = rw (within p (length p - 1) 1 0 (omega arith), ne_eqb (get_or p (length p - 1) 0) 0 n)

  pub topic_closed : get_or p (length p - 1) 0 ≡ 0 → is_topic (take (length p - 1) p) ≡ is_topic_part p
  unfolding is_topic_part
  topic_closed e = rw (within p (length p - 1) 1 0 (omega arith), eq-eqb (get_or p (length p - 1) 0) 0 e)
