-- The tree call: one law for each way that it ends.
use mathlib.Core.Path.{◌≡◌, sym, ap, ◌∙◌}
use mathlib.Core.Bool.{true, false, not}
use Prim.Native.Nat.{ℕ, ◌<◌, ◌≤◌}
use mathlib.Core.List.{List, [], ◌∷◌}
use borrow.Author.Tests.{lt-ltb, le-ltb, ltb-false, not-false}
use lib.Dec.{ltb}
use lib.ListN.{length}
use Rattle.std.specs.Prelude.{Ok, Err}
use Rattle.refusal.specs.declared.Refusal.{Refusal}
use Rattle.refusal.specs.declared.Refusal.TheVariants.{OutputShort, TreeWrong}
use Rattle.refusal.specs.Answer.{Answer, refused, answered, result_of}
use Rattle.bytes_number.proofs.Truth.{true_false}
use Rattle.refusal.proofs.Answers.{passed}
use Rattle.table_tree.specs.Tree.{ranks_in}
use Rattle.table_tree.specs.Depths.{tree_good, depths_of}
use Rattle.table_tree_check.specs.Checking.{depths_into}
use Rattle.call_specs.specs.Calls.{returned, tree_call, wrote}
use Rattle.call_specs.proofs.Telling.{done}

module _ (tree : List ℕ) (room rowRoom : ℕ) where
  pub tree_short : rowRoom < 4 → tree_call tree room rowRoom ≡ refused OutputShort
  unfolding tree_call
  tree_short h = rw (lt-ltb rowRoom 4 h)

  pub tree_on : 4 ≤ rowRoom → tree_call tree room rowRoom ≡ depths_into room tree
  unfolding tree_call
  tree_on h = rw (le-ltb rowRoom 4 h)

-- a check that returns 0 is of a tree that is right, into a buffer that has room
pub record TreeDone (tree : List ℕ) (room rowRoom : ℕ) : Type 0 where
  pub enough : 4 ≤ rowRoom
  pub good : tree_good tree ≡ true
  pub lists : tree_call tree room rowRoom ≡ answered (depths_of tree)

pub tree_done : (tree : List ℕ) (room rowRoom : ℕ) → 0 ≡ returned (tree_call tree room rowRoom) → TreeDone tree room rowRoom
unfolding tree_call depths_into
tree_done tree room rowRoom e =
    let d = done (tree_call tree room rowRoom) e in
    let p = passed (ltb rowRoom 4) OutputShort _ d.value d.is in
    let right = passed (not (tree_good tree)) TreeWrong _ d.value p.rest in
    let fitted = passed (ltb room (ranks_in tree)) OutputShort _ d.value right.rest in
    record {
      enough = ltb-false rowRoom 4 p.test;
      good = not-false (tree_good tree) right.test;
      lists = d.is ∙ sym fitted.rest;
    }

pub tree_refused : (a : Answer (List ℕ)) (r : Refusal) → Err r ≡ result_of length a → a ≡ refused r
tree_refused (refused q) r e = cc
tree_refused (answered ds) r e = absurd (let z : true ≡ false = cc in true_false z)

pub tree_counted : (a : Answer (List ℕ)) (n : ℕ) → Ok n ≡ result_of length a → wrote a ≡ answered (n ∷ [])
tree_counted (refused q) n e = absurd (let z : true ≡ false = cc in true_false z)
tree_counted (answered ds) n e =
    let same : n ≡ length ds = cc in
    ap (λ (k : ℕ). answered (k ∷ [])) (sym same)
