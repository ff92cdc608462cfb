-- A look at each byte, and a name by counting the bytes that it can't have.
use mathlib.Core.Path.{◌≡◌, refl, sym, ap, ◌∙◌}
use mathlib.Core.Bool.{Bool, true, false, not, ◌&&◌}
use Prim.Native.Nat.{ℕ, zero, suc, ◌+◌, ◌<◌, ◌≤◌}
use mathlib.Core.List.{List, [], ◌∷◌}
use native.Mathlib.Omega.{arith}
use native.Mathlib.Numerals.{add-one}
use native.Mathlib.Nat.{zero-add}
use lib.Dec.{eqb}
use lib.ListN.{length, take, get_or}
use borrow.Author.Tests.{le-leb, lt-leb, ne_eqb}
use Rattle.frame_forms.specs.Count.{one}
use Rattle.frame_forms.specs.Working.{count}
use Rattle.mdp_command.specs.Command.{is_printable, all_printable, is_command_name}
use Rattle.mdp_name.specs.WorkingNames.{is_other}

and_assoc : (p q r : Bool) → (p && (q && r)) ≡ ((p && q) && r)
and_assoc true q r = refl
and_assoc false q r = refl

and_true : (p : Bool) → (p && true) ≡ p
and_true true = refl
and_true false = refl

one_next : (xs : List ℕ) (i : ℕ) → i < length xs → all_printable (take (suc i) xs) ≡ (all_printable (take i xs) && is_printable (get_or xs i 0))
one_next [] i h = absurd (omega arith)
one_next (x ∷ xs) zero h = and_true (is_printable x)
one_next (x ∷ xs) (suc i) h = ap (λ (t : Bool). is_printable x && t) (one_next xs i (omega arith)) ∙ and_assoc (is_printable x) (all_printable (take i xs)) (is_printable (get_or xs i 0))

-- one byte more
pub one_more : (xs : List ℕ) (i : ℕ) → i < length xs → all_printable (take (i + 1) xs) ≡ (all_printable (take i xs) && is_printable (get_or xs i 0))
one_more xs i h = rw add-one (one_next xs i h)

-- all are printable exactly if none is counted
none_other : (xs : List ℕ) → all_printable xs ≡ eqb (count is_other xs) 0
none_other [] = refl
none_other (x ∷ xs) = by_first (is_printable x) (none_other xs)
  where
    by_first : (t : Bool) → all_printable xs ≡ eqb (count is_other xs) 0 → (t && all_printable xs) ≡ eqb (one (not t) + count is_other xs) 0
    by_first false e = sym (ne_eqb (1 + count is_other xs) 0 (λ (h : 1 + count is_other xs ≡ 0). omega arith))
    by_first true e = rw (zero-add (count is_other xs)) e

-- a name by its length, and by counting the bytes that it can't have
module _ (xs : List ℕ) where
  pub name_empty : length xs < 1 → is_command_name xs ≡ false
  unfolding is_command_name
  name_empty h = rw (lt-leb 1 (length xs) h)

  pub name_long : 1 ≤ length xs → 255 < length xs → is_command_name xs ≡ false
  unfolding is_command_name
  name_long h k = rw (le-leb 1 (length xs) h, lt-leb (length xs) 255 k)

  pub name_counted : 1 ≤ length xs → length xs ≤ 255 → is_command_name xs ≡ eqb (count is_other xs) 0
  unfolding is_command_name
  name_counted h k = rw (le-leb 1 (length xs) h, le-leb (length xs) 255 k) (none_other xs)
