-- Laws on the tree's bytes: the only ones that look into `parent_of`, `ranks_in` and `whole_tree`.
use mathlib.Core.Path.{◌≡◌, refl, ◌∙◌}
use mathlib.Core.Bool.{true, false, ◌&&◌, and-true}
use mathlib.Core.List.{List}
use Prim.Native.Nat.{ℕ, ◌*◌, ◌/◌, ◌<◌, ◌≤◌}
use native.Mathlib.Omega.{arith}
use borrow.Author.Tests.{lt-ltb, le-ltb, leb-true, le-leb, lt-leb}
use lib.Dec.{eqb, leb}
use lib.ListN.{length, drop}
use Rattle.bytes_number.specs.Number.{number}
use Rattle.bytes_number.proofs.Truth.{and_left as left, and_right as right, and_right_fails as right-fails}
use Rattle.table_records.specs.Records.{record_at}
use Rattle.table_records.proofs.Records.{number-take}
use Rattle.table_tree.specs.Tree.{no_parent, ranks_in, whole_tree, parent_of}

pub ranks_are : (tree : List ℕ) → ranks_in tree ≡ length tree / 4
unfolding ranks_in
ranks_are tree = refl

pub parent_inside : (tree : List ℕ) (r : ℕ) → r < length tree / 4 → number (record_at 4 tree r) ≡ parent_of tree r
unfolding parent_of ranks_in
parent_inside tree r h = number-take 4 (drop (r * 4) tree) (omega arith) ∙ simp (lt-ltb _ _ h)

pub parent_outside : (tree : List ℕ) (r : ℕ) → ranks_in tree ≤ r → parent_of tree r ≡ no_parent
unfolding parent_of
parent_outside tree r h = simp (le-ltb _ _ h)

-- "4 bytes a rank", "1 to 1,024 ranks"
module _ (tree : List ℕ) where
  pub whole_some : whole_tree tree ≡ true → 1 ≤ ranks_in tree
  unfolding whole_tree
  whole_some h = leb-true 1 (ranks_in tree) (left (leb 1 (ranks_in tree)) (leb (ranks_in tree) 1024) (right (eqb (length tree) (ranks_in tree * 4)) (leb 1 (ranks_in tree) && leb (ranks_in tree) 1024) h))

  pub whole_few : whole_tree tree ≡ true → ranks_in tree ≤ 1024
  unfolding whole_tree
  whole_few h = leb-true (ranks_in tree) 1024 (right (leb 1 (ranks_in tree)) (leb (ranks_in tree) 1024) (right (eqb (length tree) (ranks_in tree * 4)) (leb 1 (ranks_in tree) && leb (ranks_in tree) 1024) h))

  pub whole_none : ranks_in tree < 1 → whole_tree tree ≡ false
  unfolding whole_tree
  whole_none h = simp (lt-leb _ _ h) (right-fails (eqb (length tree) (ranks_in tree * 4)) refl)

  pub whole_many : 1024 < ranks_in tree → whole_tree tree ≡ false
  unfolding whole_tree
  whole_many h = simp (lt-leb _ _ h) (right-fails (eqb (length tree) (ranks_in tree * 4)) (right-fails (leb 1 (ranks_in tree)) refl))

  pub whole_rest : 1 ≤ ranks_in tree → ranks_in tree ≤ 1024 → whole_tree tree ≡ eqb (length tree) (ranks_in tree * 4)
  unfolding whole_tree
  whole_rest s f = rw (le-leb 1 (ranks_in tree) s, le-leb (ranks_in tree) 1024 f) (and-true (eqb (length tree) (ranks_in tree * 4)))
