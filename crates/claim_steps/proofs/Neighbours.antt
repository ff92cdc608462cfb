-- Neighbours of a rank of the tree, by the definition and by its test.
use mathlib.Core.Path.{◌≡◌, sym, ◌∙◌}
use mathlib.Core.Bool.{true, false}
use mathlib.Core.Logic.{⊎_elim}
use Prim.Native.Nat.{ℕ, ◌<◌}
use native.Mathlib.Omega.{arith}
use borrow.Author.Tests.{eqb-true, eqb-false}
use lib.Dec.{eqb}
use Rattle.bytes_number.proofs.Truth.{outcome, clash}
use Rattle.table_tree.specs.Tree.{ranks_in, parent_of}
use Rattle.table_tree_hops.specs.Towards.{is_neighbour}
use Rattle.table_tree_hops.proofs.Towards.{parent_neighbour, child_neighbour, other_neighbour}
use Rattle.step_routing.specs.declared.Broker.{Broker}
use Rattle.step_routing.specs.Routed.{Tables}
use Rattle.claim_steps.specs.Rules.{Neighbour}

module _ (t : Tables) (b : Broker) (in_tree : b.rank < ranks_in t.tree) (rank : ℕ) (within : rank < ranks_in t.tree) where
  pub neighbour_passes : Neighbour t b rank → is_neighbour t.tree b.rank rank ≡ true
  neighbour_passes (Neighbour.parent e) = parent_neighbour t.tree b.rank rank in_tree within (omega arith)
  neighbour_passes (Neighbour.child e) = child_neighbour t.tree b.rank rank in_tree within (omega arith)

  pub passes_neighbour : is_neighbour t.tree b.rank rank ≡ true → Neighbour t b rank
  passes_neighbour p =
      ⊎_elim
      (λ e. Neighbour.parent (omega (arith, eqb-true (parent_of t.tree b.rank) rank e)))
      (λ n.
      let rest = other_neighbour t.tree b.rank rank in_tree within (eqb-false (parent_of t.tree b.rank) rank n) in
      Neighbour.child (omega (arith, eqb-true (parent_of t.tree rank) b.rank (sym rest ∙ p))))
      (outcome (eqb (parent_of t.tree b.rank) rank))

  pub neighbour_fails : (Neighbour t b rank → ⊥) → is_neighbour t.tree b.rank rank ≡ false
  neighbour_fails none = ⊎_elim (λ p. absurd (none (passes_neighbour p))) (λ f. f) (outcome (is_neighbour t.tree b.rank rank))

  pub fails_neighbour : is_neighbour t.tree b.rank rank ≡ false → Neighbour t b rank → ⊥
  fails_neighbour f n = clash (is_neighbour t.tree b.rank rank) (neighbour_passes n) f
