-- Laws on the look-up of a service.
use mathlib.Core.Path.{◌≡◌, refl, sym, ◌∙◌}
use mathlib.Core.Bool.{true, false, ◌&&◌}
use mathlib.Core.List.{List}
use Rattle.std.specs.Prelude.{Some, None}
use Prim.Native.Nat.{ℕ, ◌/◌, ◌<◌, ◌≤◌}
use native.Mathlib.Omega.{arith}
use borrow.Author.Tests.{eq-eqb, ne_eqb, eqb-true, le-leb, lt-leb}
use lib.Dec.{eqb, leb}
use lib.ListN.{length, take, drop, length-take, length-drop}
use Rattle.table_records.specs.Bytes.{same_bytes}
use Rattle.table_records.specs.Search.{first_from}
use Rattle.bytes_number.proofs.Truth.{and_left as left, and_right as right, and_both as both, and_right_fails as right-fails}
use Rattle.table_records.proofs.Below.{once}
use Rattle.table_records.proofs.Records.{length_record}
use Rattle.table_records.proofs.Search.{first_passes, none_passes, first_only}
use Rattle.table_tree.specs.Tree.{ranks_in}
use Rattle.table_services.proofs.Services.{Form, length_name, GoodServices, same_service_lem}
use Rattle.table_records.proofs.Bytes.{same_turned, same_lengths, same_refl, same_equal}
use Rattle.std.specs.List.{starts_with}
use Rattle.table_services.specs.Services.{services_in, service_at, rank_in, name_length, name_in, same_service}
use Rattle.table_services_find.specs.Lookup.{registers, registered_as}

pub registered_is : (services : List ℕ) (rank : ℕ) (service : List ℕ) → registered_as services rank service ≡ first_from (λ i. registers (service_at services i) rank service) (length services / 32) 0
unfolding registered_as services_in
registered_is services rank service = refl

-- ---- one record by its cases, in the code's order

module _ (row : List ℕ) (rank : ℕ) (service : List ℕ) where
  -- "An empty service .. matches nothing"
  pub empty_never : length service < 1 → registers row rank service ≡ false
  unfolding registers
  empty_never h = rw (lt-leb _ _ h) refl

  pub other_rank : (rank_in row ≡ rank → ⊥) → registers row rank service ≡ false
  unfolding registers
  other_rank h = rw (ne_eqb _ _ h) (right-fails (leb 1 (length service)) refl)

  pub other_length : (name_length row ≡ length service → ⊥) → registers row rank service ≡ false
  unfolding registers
  other_length h = rw (ne_eqb _ _ h) (right-fails (leb 1 (length service)) (right-fails (eqb (rank_in row) rank) refl))

  -- a service of more than 27 bytes matches nothing: no name is cut
  pub long_never : length row ≡ 32 → 27 < length service → registers row rank service ≡ false
  unfolding registers
  long_never e h =
      rw (same_lengths (name_in row) service (λ q. absurd (omega (arith, simp (length-take, length-drop) at q))))
      (right-fails (leb 1 (length service)) (right-fails (eqb (rank_in row) rank) (right-fails (eqb (name_length row) (length service)) refl)))

  pub rest_same : 1 ≤ length service → rank_in row ≡ rank → name_length row ≡ length service → registers row rank service ≡ same_bytes (take (length service) (drop 5 row)) service
  unfolding registers
  rest_same h1 hr hl = rw (le-leb _ _ h1, eq-eqb _ _ hr, hl, eq-eqb _ _ refl) refl

  -- the bytes behind the length begin with the service
  pub begins : 1 ≤ length service → rank_in row ≡ rank → name_length row ≡ length service → starts_with eqb (drop 5 row) service ≡ registers row rank service
  unfolding registers same_bytes
  begins h1 hr hl = rw (le-leb _ _ h1, eq-eqb _ _ hr, hl, eq-eqb _ _ refl) (same_turned service (take (length service) (drop 5 row)))

-- ---- what is found, for the crates above

-- what a record that registers the service at the rank holds
pub registers-holds : (row : List ℕ) (rank : ℕ) (service : List ℕ) → registers row rank service ≡ true → (rank_in row ≡ rank) × (name_in row ≡ service)
unfolding registers
registers-holds row rank service h =
    let h₁ = right (leb 1 (length service)) (eqb (rank_in row) rank && (eqb (name_length row) (length service) && same_bytes (name_in row) service)) h in
    let h₂ = right (eqb (rank_in row) rank) (eqb (name_length row) (length service) && same_bytes (name_in row) service) h₁ in (
      eqb-true (rank_in row) rank (left (eqb (rank_in row) rank) (eqb (name_length row) (length service) && same_bytes (name_in row) service) h₁),
      same_equal (name_in row) service (right (eqb (name_length row) (length service)) (same_bytes (name_in row) service) h₂),
    )

-- a record of the form registers its own name at its own rank
pub registers_own : (ranks : ℕ) (row : List ℕ) → length row ≡ 32 → Form ranks row → registers row (rank_in row) (name_in row) ≡ true
unfolding registers
registers_own ranks row e f =
    let size = length_name row e f.few in
    both (le-leb 1 (length (name_in row)) (omega (arith, f.some)))
    (both (eq-eqb (rank_in row) (rank_in row) refl) (both (eq-eqb (name_length row) (length (name_in row)) (sym size)) (same_refl (name_in row))))

module _ (services : List ℕ) (rank : ℕ) (service : List ℕ) where
  -- the record that is found has the rank and the name
  pub found_holds : (i : ℕ) → registered_as services rank service ≡ Some i → (i < services_in services) × (rank_in (service_at services i) ≡ rank) × (name_in (service_at services i) ≡ service)
  unfolding registered_as
  found_holds i e =
      let found = first_passes (λ i. registers (service_at services i) rank service) (services_in services) 0 i e in
      let holds = registers-holds (service_at services i) rank service found.1 in
      (omega (arith, found.0), holds.0, holds.1)

  -- where none is found, no record registers the service there
  pub none-holds : registered_as services rank service ≡ None → (i : ℕ) → i < services_in services → registers (service_at services i) rank service ≡ false
  unfolding registered_as
  none-holds e i h = none_passes (λ i. registers (service_at services i) rank service) (services_in services) 0 e i (omega arith) (omega arith)

  -- in a table that is right the record with the rank and the name is found: there is no other
  pub found_only : (tree : List ℕ) → GoodServices tree services → (i : ℕ) → i < services_in services → rank_in (service_at services i) ≡ rank → name_in (service_at services i) ≡ service → registered_as services rank service ≡ Some i
  unfolding registered_as
  found_only tree g i h r n =
      first_only (λ i. registers (service_at services i) rank service) (services_in services) i h
      (rw (← r, ← n) (registers_own (ranks_in tree) (service_at services i) (length_record 32 i services (omega (arith, g.whole))) (g.form i h)))
      (λ k hk t.
      let holds = registers-holds (service_at services k) rank service t in
      let ranks-same : rank_in (service_at services k) ≡ rank_in (service_at services i) = holds.0 ∙ sym r in
      let names_same : name_in (service_at services k) ≡ name_in (service_at services i) = holds.1 ∙ sym n in
      once (λ i j. same_service (service_at services i) (service_at services j)) (services_in services) g.none k i hk h
      (same_service_lem (service_at services k) (service_at services i) ranks-same names_same)
      (same_service_lem (service_at services i) (service_at services k) (sym ranks-same) (sym names_same)))
