-- The claim on the tree check, from the law that the computed test is the paper's sentence.
use mathlib.Core.Path.{◌≡◌, ap, ◌∙◌}
use mathlib.Core.Bool.{false}
use mathlib.Core.Logic.{⊎_elim}
use Prim.Native.Nat.{ℕ, ◌<◌, ◌≤◌}
use native.Mathlib.Omega.{arith}
use mathlib.Core.List.{List, ◌++◌}
use lib.ListN.{length, get_or, drop, get_or-append}
use lib.Seq.{drop_at}
use Rattle.bytes_number.specs.Number.{four}
use Rattle.refusal.specs.Answer.{Answer, written_over}
use Rattle.bytes_number.proofs.Truth.{outcome}
use Rattle.table_tree.specs.Tree.{ranks_in}
use Rattle.table_tree.specs.Depths.{Depths, Accepted, tree_good, depths_of}
use Rattle.table_tree_check.proofs.Checking.{CheckIsRight, check_is_right, into_wrong, into_right}
use Rattle.call_specs.specs.Calls.{returned, recorded, wrote, ChecksTree}
use Rattle.call_specs.proofs.TreeCalls.{tree_on, tree_done}
use Rattle.claim_tables.specs.Trees.{DepthsWritten, TreeIsChecked}

module _ (tree : List ℕ) where
  abbrev right_check : CheckIsRight tree
  right_check = check_is_right tree

  abbrev n : ℕ
  n = ranks_in tree

  module _ (depths row : List ℕ) where
    written : (filled listed : List ℕ) → ChecksTree tree depths row 0 filled listed → DepthsWritten tree depths row filled listed
    written filled listed call =
        let d = tree_done tree (length depths) (length row) call.returns in
        let many = right_check.one_each in
        let filled_is : filled ≡ depths_of tree ++ drop n depths = call.fills ∙ ap (λ (a : Answer (List ℕ)). written_over a depths) d.lists ∙ ap (λ (k : ℕ). depths_of tree ++ drop k depths) many in
        let a = right_check.accepted d.good in
        let each : (f : ℕ → ℕ) → Depths tree f → (r : ℕ) → r < n → get_or filled r 0 ≡ f r =
        λ f p r h. ap (λ (l : List ℕ). get_or l r 0) filled_is ∙ get_or-append (depths_of tree) (drop n depths) 0 r (omega (arith, many)) ∙ right_check.written f p r h in
        record {
          accepted = a;
          each = each;
          deepest = λ r h. omega (arith, each a.depths a.given r h, a.given.most r h);
          tail = ap (drop n) filled_is ∙ drop_at (depths_of tree) (drop n depths) n many;
          lists = call.lists ∙ ap (λ (a : Answer (List ℕ)). recorded (wrote a) row) d.lists ∙ ap (λ (k : ℕ). four k ++ drop 4 row) many;
        }

    module _ (r : ℕ) (filled listed : List ℕ) (call : ChecksTree tree depths row r filled listed) (enough : 4 ≤ length row) where
      right : Accepted tree → n ≤ length depths → r ≡ 0
      right a room = call.returns ∙ ap returned (tree_on tree (length depths) (length row) enough ∙ into_right tree (length depths) (right_check.found a) room)

      wrong : (Accepted tree → ⊥) → r ≡ 14
      wrong not = ⊎_elim (λ good. absurd (not (right_check.accepted good))) refuse (outcome (tree_good tree))
        where
          refuse : tree_good tree ≡ false → r ≡ 14
          refuse bad = call.returns ∙ ap returned (tree_on tree (length depths) (length row) enough ∙ into_wrong tree (length depths) bad)

  pub tree_is_checked : TreeIsChecked tree
  tree_is_checked =
      record {
        right = λ depths row r filled listed call a enough room. right depths row r filled listed call enough a room;
        wrong = λ depths row r filled listed call not enough. wrong depths row r filled listed call enough not;
        written = written;
      }
