-- Laws on the check of the services: the table, and then the check, by their cases in the code's order.
use mathlib.Core.Path.{◌≡◌, refl, sym, ◌∙◌}
use mathlib.Core.Bool.{true, false}
use mathlib.Core.List.{List}
use Prim.Native.Nat.{ℕ, ◌*◌, ◌<◌, ◌≤◌}
use native.Mathlib.Omega.{arith}
use borrow.Author.Tests.{eq-eqb, ne_eqb, le-leb, lt-leb}
use lib.Dec.{eqb, leb}
use lib.ListN.{length, drop}
use Rattle.bytes_number.specs.Number.{Bytes}
use Rattle.bytes_number.proofs.Numbers.{bytes_take, bytes_drop}
use Rattle.refusal.specs.declared.Refusal.TheVariants.{TreeWrong, ServicesWrong}
use Rattle.refusal.specs.Answer.{refused, answered}
use Rattle.table_records.specs.Below.{all_below}
use Rattle.table_records.specs.Bytes.{same_bytes}
use Rattle.table_records.specs.Working.{distinct}
use Rattle.bytes_number.proofs.Truth.{and_right_fails as right-fails}
use Rattle.table_records.proofs.Below.{all_at, all_fails, none_agree}
use Rattle.table_records.proofs.Records.{length_record, distinct_rest}
use Rattle.table_tree.specs.Tree.{ranks_in}
use Rattle.table_tree.specs.Depths.{tree_good}
use Rattle.table_services.specs.Services.{services_in, service_at, service_good, same_service, services_good, services_check}
use Rattle.table_services.proofs.Services.{Form, form_of, same_records}

module _ (tree services : List ℕ) where
  -- ---- the table by its cases

  pub bad_many : 1024 < services_in services → services_good tree services ≡ false
  unfolding services_good
  bad_many h = rw (lt-leb (services_in services) 1024 h) (right-fails (eqb (length services) (services_in services * 32)) refl)

  pub bad_torn : (length services ≡ services_in services * 32 → ⊥) → services_good tree services ≡ false
  unfolding services_good
  bad_torn h = rw (ne_eqb (length services) (services_in services * 32) h) refl

  pub bad_all : all_below (services_in services) (λ i. service_good (ranks_in tree) (service_at services i)) ≡ false → services_good tree services ≡ false
  unfolding services_good
  bad_all e = rw e (right-fails (eqb (length services) (services_in services * 32)) (right-fails (leb (services_in services) 1024) refl))

  pub bad_one : (i : ℕ) → i < services_in services → service_good (ranks_in tree) (service_at services i) ≡ false → services_good tree services ≡ false
  unfolding services_good
  bad_one i h e =
      rw (all_fails (λ i. service_good (ranks_in tree) (service_at services i)) (services_in services) i h e)
      (right-fails (eqb (length services) (services_in services * 32)) (right-fails (leb (services_in services) 1024) refl))

  -- where all records are of the form, none is there twice exactly if no two are equal
  module _ (b : Bytes services) (whole : length services ≡ services_in services * 32) (few : services_in services ≤ 1024)
      (all : all_below (services_in services) (λ i. service_good (ranks_in tree) (service_at services i)) ≡ true) where
    form_at : (i : ℕ) → i < services_in services → Form (ranks_in tree) (service_at services i)
    form_at i h =
        form_of (ranks_in tree) (service_at services i) (all_at (λ i. service_good (ranks_in tree) (service_at services i)) (services_in services) i h all)

    length_at : (i : ℕ) → i < services_in services → length (service_at services i) ≡ 32
    length_at i h = length_record 32 i services (omega arith)

    bytes_here : (i : ℕ) → Bytes (service_at services i)
    bytes_here i = bytes_take 32 (drop (i * 32) services) (bytes_drop (i * 32) services b)

    pub rest_distinct : services_good tree services ≡ distinct 32 services (services_in services)
    unfolding services_good
    rest_distinct =
        rw (eq-eqb (length services) (services_in services * 32) whole, le-leb (services_in services) 1024 few, all)
        (sym
        (distinct_rest 32 services (services_in services) few (omega arith)
        ∙ none_agree (λ i j. same_bytes (service_at services i) (service_at services j)) (λ i j. same_service (service_at services i) (service_at services j)) (services_in services)
        (λ i j hi hj.
        same_records (ranks_in tree) (service_at services i) (service_at services j) (length_at i hi) (length_at j (omega arith)) (bytes_here i) (bytes_here j) (form_at i hi)
        (form_at j (omega arith)))))

  -- ---- the check by its cases

  pub check_tree_wrong : tree_good tree ≡ false → services_check tree services ≡ refused TreeWrong
  unfolding services_check
  check_tree_wrong g = rw g refl

  pub check_wrong : tree_good tree ≡ true → services_good tree services ≡ false → services_check tree services ≡ refused ServicesWrong
  unfolding services_check
  check_wrong g s = rw (g, s) refl

  pub check_right : tree_good tree ≡ true → services_good tree services ≡ true → services_check tree services ≡ answered (services_in services)
  unfolding services_check
  check_right g s = rw (g, s) refl
