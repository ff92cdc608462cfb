-- The tree check. "Tree check: 14, 11."
use Rattle.std.specs.Prelude.{ℕ, not, List, ltb}
use Rattle.refusal.specs.declared.Refusal.TheVariants.{TreeWrong, OutputShort}
use Rattle.refusal.specs.Answer.{Answer, answered, refuse_if}
use Rattle.table_tree.specs.Tree.{ranks_in}
use Rattle.table_tree.specs.Depths.{tree_good, depths_of}

-- the depths, where the tree is right and the lent buffer has room for them
unfoldable pub depths_into : ℕ → List ℕ → Answer (List ℕ)
depths_into room tree = refuse_if (not (tree_good tree)) TreeWrong (refuse_if (ltb room (ranks_in tree)) OutputShort (answered (depths_of tree)))
