-- Laws on the check of the identities: the table, and then the check, by their cases in the code's order.
use mathlib.Core.Path.{◌≡◌, refl, sym}
use mathlib.Core.Bool.{true, false}
use mathlib.Core.List.{List}
use Prim.Native.Nat.{ℕ, ◌*◌, ◌<◌, ◌≤◌}
use native.Mathlib.Omega.{arith}
use borrow.Author.Tests.{eq-eqb, ne_eqb, le-leb, lt-leb}
use lib.Dec.{eqb, leb}
use lib.ListN.{length}
use Rattle.refusal.specs.declared.Refusal.TheVariants.{TreeWrong, IdentitiesWrong}
use Rattle.refusal.specs.Answer.{refused, answered}
use Rattle.frame_forms.specs.Forms.{is_route}
use Rattle.table_records.specs.Below.{all_below}
use Rattle.table_records.specs.Working.{distinct}
use Rattle.bytes_number.proofs.Truth.{and_right_fails as right-fails}
use Rattle.table_records.proofs.Records.{distinct_rest}
use Rattle.table_tree.specs.Tree.{ranks_in}
use Rattle.table_tree.specs.Depths.{tree_good}
use Rattle.table_identities.specs.Identities.{identity_at, same_identity, identities_good, identities_check}

module _ (tree identities : List ℕ) where
  -- ---- the table by its cases

  pub bad_many : 1024 < ranks_in tree → identities_good tree identities ≡ false
  unfolding identities_good
  bad_many h = rw (lt-leb (ranks_in tree) 1024 h) refl

  pub bad_torn : (length identities ≡ ranks_in tree * 37 → ⊥) → identities_good tree identities ≡ false
  unfolding identities_good
  bad_torn h = rw (ne_eqb (length identities) (ranks_in tree * 37) h) (right-fails (leb (ranks_in tree) 1024) refl)

  pub bad_form : all_below (ranks_in tree) (λ rank. is_route (identity_at identities rank)) ≡ false → identities_good tree identities ≡ false
  unfolding identities_good
  bad_form e =
      rw e
      (right-fails (leb (ranks_in tree) 1024) (right-fails (eqb (length identities) (ranks_in tree * 37)) refl))

  pub rest_distinct : ranks_in tree ≤ 1024 → length identities ≡ ranks_in tree * 37 → all_below (ranks_in tree) (λ rank. is_route (identity_at identities rank)) ≡ true
      → identities_good tree identities ≡ distinct 37 identities (ranks_in tree)
  unfolding identities_good same_identity
  rest_distinct few whole all =
      rw (le-leb (ranks_in tree) 1024 few, eq-eqb (length identities) (ranks_in tree * 37) whole, all)
      (sym (distinct_rest 37 identities (ranks_in tree) few (omega arith)))

  -- ---- the check by its cases

  pub check_tree_wrong : tree_good tree ≡ false → identities_check tree identities ≡ refused TreeWrong
  unfolding identities_check
  check_tree_wrong g = rw g refl

  pub check_wrong : tree_good tree ≡ true → identities_good tree identities ≡ false → identities_check tree identities ≡ refused IdentitiesWrong
  unfolding identities_check
  check_wrong g s = rw (g, s) refl

  pub check_right : tree_good tree ≡ true → identities_good tree identities ≡ true → identities_check tree identities ≡ answered (ranks_in tree)
  unfolding identities_check
  check_right g s = rw (g, s) refl
