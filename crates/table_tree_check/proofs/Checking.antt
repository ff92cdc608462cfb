-- Laws on the depths that are written, and on the tree check.
use mathlib.Core.Path.{◌≡◌, refl, sym, ◌∙◌}
use mathlib.Core.Bool.{true, false}
use mathlib.Core.List.{List, [], ◌∷◌}
use mathlib.Core.Logic.{⊎_elim}
use Prim.Native.Nat.{ℕ, zero, suc, ◌<◌, ◌≤◌}
use native.Mathlib.Omega.{arith}
use native.Mathlib.Nat.{le_of_suc-le-suc, eq-or-lt_of_le}
use borrow.Author.Tests.{lt-ltb, le-ltb}
use lib.ListN.{length, get_or, take, length-append, get_or-append}
use lib.Seq.{get_or_at, get_or-take, length-take-le, ext_get_or}
use Rattle.refusal.specs.declared.Refusal.TheVariants.{TreeWrong, OutputShort}
use Rattle.refusal.specs.Answer.{refused, answered}
use Rattle.table_tree.specs.Tree.{ranks_in}
use Rattle.table_tree.specs.Depths.{Depths, Accepted, depth_of, tree_good, depths_below, depths_of}
use Rattle.table_tree.proofs.Depths.{accepted_of, good_of, depths_are}
use Rattle.table_tree_check.specs.Checking.{depths_into}
use Rattle.table_tree_check.specs.Working.{Shallow}

module _ (tree : List ℕ) where
  pub length_depths : (n : ℕ) → length (depths_below tree n) ≡ n
  unfolding depths_below
  length_depths zero = refl
  length_depths (suc n) = rw (length-append, length_depths n) (omega arith)

  -- ---- the check by its cases

  pub into_wrong : (room : ℕ) → tree_good tree ≡ false → depths_into room tree ≡ refused TreeWrong
  unfolding depths_into
  into_wrong room g = rw g refl

  pub into_short : (room : ℕ) → tree_good tree ≡ true → room < ranks_in tree → depths_into room tree ≡ refused OutputShort
  unfolding depths_into
  into_short room g h = rw (g, lt-ltb room (ranks_in tree) h) refl

  pub into_right : (room : ℕ) → tree_good tree ≡ true → ranks_in tree ≤ room → depths_into room tree ≡ answered (depths_of tree)
  unfolding depths_into
  into_right room g h = rw (g, le-ltb room (ranks_in tree) h) refl

  -- the depth of each rank stands at its place
  depths_at : (n r : ℕ) → r < n → get_or (depths_below tree n) r 0 ≡ depth_of tree r
  unfolding depths_below
  depths_at zero r h = absurd (omega arith)
  depths_at (suc n) r h =
      ⊎_elim
      (λ e. rw e (get_or_at (depths_below tree n) (depth_of tree n) [] 0 n (length_depths n)))
      (λ l. get_or-append (depths_below tree n) (depth_of tree n ∷ []) 0 r (omega (arith, length_depths n)) ∙ depths_at n r l)
      (eq-or-lt_of_le (le_of_suc-le-suc h))

  -- the depths that were found are the tree's
  pub depths_found : (found : List ℕ) → ranks_in tree ≤ length found → Shallow tree found (ranks_in tree) → take (ranks_in tree) found ≡ depths_of tree
  depths_found found h s =
      let long : length (take (ranks_in tree) found) ≡ ranks_in tree = length-take-le (ranks_in tree) found h in
      ext_get_or 0 (take (ranks_in tree) found) (depths_of tree) (long ∙ sym (length_depths (ranks_in tree)))
      (λ i l.
      let within : i < ranks_in tree = omega arith in
      get_or-take (ranks_in tree) found i 0 within ∙ s.right i within ∙ sym (depths_at (ranks_in tree) i within))

-- What the paper says of the tree check: the test holds exactly if depths can be given as its sentence has it, there is one way to give them, and the
-- bytes written are those depths, one a rank.
pub record CheckIsRight (tree : List ℕ) : Type 0 where
  pub accepted : tree_good tree ≡ true → Accepted tree
  pub found : Accepted tree → tree_good tree ≡ true
  pub unique : (d e : ℕ → ℕ) → Depths tree d → Depths tree e → (r : ℕ) → r < ranks_in tree → d r ≡ e r
  pub written : (d : ℕ → ℕ) → Depths tree d → (r : ℕ) → r < ranks_in tree → get_or (depths_of tree) r 0 ≡ d r
  pub one_each : length (depths_of tree) ≡ ranks_in tree

pub check_is_right : (tree : List ℕ) → CheckIsRight tree
check_is_right tree =
    record {
      accepted = accepted_of tree;
      found = good_of tree;
      unique = λ d e p q r h. depths_are tree d p r h ∙ sym (depths_are tree e q r h);
      written = λ d p r h. depths_at tree (ranks_in tree) r h ∙ sym (depths_are tree d p r h);
      one_each = length_depths tree (ranks_in tree);
    }
