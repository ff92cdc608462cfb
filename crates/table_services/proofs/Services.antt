-- Laws on the table of services.
use mathlib.Core.Path.{◌≡◌, refl, sym, ap₂, ◌∙◌}
use mathlib.Core.Bool.{Bool, true, false, ◌&&◌}
use mathlib.Core.List.{List, ◌∷◌, ◌++◌}
use Prim.Native.Nat.{ℕ, ◌*◌, ◌-◌, ◌/◌, ◌<◌, ◌≤◌}
use mathlib.Core.Logic.{⊎_elim}
use native.Mathlib.Omega.{arith}
use borrow.Author.Tests.{eq-eqb, ne_eqb, eqb-true, le-leb, lt-leb, leb-true, lt-ltb, le-ltb, ltb-true}
use lib.Dec.{eqb, leb, ltb}
use lib.ListN.{length, take, drop, replicate, length-take, length-drop, take-append-drop}
use lib.Seq.{drop-drop, drop-cons}
use Rattle.bytes_number.specs.Number.{four, Bytes}
use Rattle.bytes_number.proofs.Numbers.{four-number}
use Rattle.table_records.specs.Below.{all_below, none_twice}
use Rattle.table_records.specs.Bytes.{same_bytes}
use Rattle.bytes_number.proofs.Truth.{outcome, and_left as left, and_right as right, and_both as both, and_right_fails as right-fails, clash}
use Rattle.table_records.proofs.Below.{all_at}
use Rattle.table_records.proofs.Bytes.{same_refl, same_equal}
use Rattle.table_tree.specs.Tree.{ranks_in}
use Rattle.table_services.specs.Services.{services_in, service_at, rank_in, name_length, name_in, padding_in, is_name, is_padding, service_good, same_service, services_good}
use Rattle.table_services.proofs.Names.{padding_is}

-- ---- one record by its cases, in the code's order

module _ (ranks : ℕ) (row : List ℕ) where
  pub bad_rank : ranks ≤ rank_in row → service_good ranks row ≡ false
  unfolding service_good
  bad_rank h = rw (le-ltb _ _ h) refl

  pub bad_empty : name_length row < 1 → service_good ranks row ≡ false
  unfolding service_good
  bad_empty h = rw (lt-leb _ _ h) (right-fails (ltb (rank_in row) ranks) refl)

  pub bad_long : 27 < name_length row → service_good ranks row ≡ false
  unfolding service_good
  bad_long h = rw (lt-leb _ _ h) (right-fails (ltb (rank_in row) ranks) (right-fails (leb 1 (name_length row)) refl))

  module _ (hr : rank_in row < ranks) (h1 : 1 ≤ name_length row) (h2 : name_length row ≤ 27) where
    pub rest_good : service_good ranks row ≡ (is_name (name_in row) && is_padding (padding_in row))
    unfolding service_good
    rest_good = rw (lt-ltb _ _ hr, le-leb _ _ h1, le-leb _ _ h2) refl

-- bytes that are a record are one of the form exactly if the record is
pub whole_row : (ranks : ℕ) (row : List ℕ) → length row ≡ 32 → (eqb (length row) 32 && service_good ranks row) ≡ service_good ranks row
whole_row ranks row e = rw (eq-eqb (length row) 32 e) refl

pub torn_row : (ranks : ℕ) (row : List ℕ) → (length row ≡ 32 → ⊥) → (eqb (length row) 32 && service_good ranks row) ≡ false
torn_row ranks row h = rw (ne_eqb (length row) 32 h) refl

-- ---- what a record of the form holds

pub record Form (ranks : ℕ) (row : List ℕ) : Type 0 where
  pub within : rank_in row < ranks
  pub some : 1 ≤ name_length row
  pub few : name_length row ≤ 27
  pub name : is_name (name_in row) ≡ true
  pub padding : is_padding (padding_in row) ≡ true

pub form_of : (ranks : ℕ) (row : List ℕ) → service_good ranks row ≡ true → Form ranks row
unfolding service_good
form_of ranks row h =
    let parts = five (ltb (rank_in row) ranks) (leb 1 (name_length row)) (leb (name_length row) 27) (is_name (name_in row)) (is_padding (padding_in row)) h in
    record {
      within = ltb-true (rank_in row) ranks parts.0;
      some = leb-true 1 (name_length row) parts.1;
      few = leb-true (name_length row) 27 parts.2;
      name = parts.3;
      padding = parts.4;
    }
  where
    five : (a b c d e : Bool) → (a && (b && (c && (d && e)))) ≡ true → (a ≡ true) × (b ≡ true) × (c ≡ true) × (d ≡ true) × (e ≡ true)
    five a b c d e h =
        let h₁ = right a (b && (c && (d && e))) h in
        let h₂ = right b (c && (d && e)) h₁ in
        let h₃ = right c (d && e) h₂ in
        (left a (b && (c && (d && e))) h, left b (c && (d && e)) h₁, left c (d && e) h₂, left d e h₃, right d e h₃)

-- the one record of the form with a rank and a name
record_for : ℕ → List ℕ → List ℕ
record_for rank name = four rank ++ (length name ∷ (name ++ replicate (27 - length name) 0))

pub length_name : (row : List ℕ) → length row ≡ 32 → name_length row ≤ 27 → length (name_in row) ≡ name_length row
length_name row e h = simp (length-take, length-drop) (omega arith)

known : (ranks : ℕ) (row : List ℕ) → length row ≡ 32 → Bytes row → Form ranks row → row ≡ record_for (rank_in row) (name_in row)
unfolding record_for
known ranks row e b f =
    let e₀ : take 4 row ++ drop 4 row ≡ row = take-append-drop 4 row in
    let e₁ : four (rank_in row) ≡ take 4 row = four-number row (omega arith) b in
    let e₂ : drop 4 row ≡ name_length row ∷ drop 5 row = drop-cons row 4 0 (omega arith) in
    let e₃ : name_in row ++ drop (name_length row) (drop 5 row) ≡ drop 5 row = take-append-drop (name_length row) (drop 5 row) in
    let e₄ : drop (name_length row) (drop 5 row) ≡ padding_in row = drop-drop (name_length row) 5 row in
    let e₅ : padding_in row ≡ replicate (length (padding_in row)) 0 = padding_is (padding_in row) f.padding in
    let e₆ : length (name_in row) ≡ name_length row = length_name row e f.few in
    let e₇ : length (padding_in row) ≡ 27 - length (name_in row) = rw e₆ (simp length-drop (omega arith)) in
    cc

-- two records of the form have the same rank and name exactly if they are equal
pub same_records : (ranks : ℕ) (a b : List ℕ) → length a ≡ 32 → length b ≡ 32 → Bytes a → Bytes b → Form ranks a → Form ranks b → same_bytes a b ≡ same_service a b
unfolding same_service
same_records ranks a b la lb ba bb fa fb =
    ⊎_elim
    (λ t.
    let ranks-same : rank_in a ≡ rank_in b = eqb-true (rank_in a) (rank_in b) (left (eqb (rank_in a) (rank_in b)) (same_bytes (name_in a) (name_in b)) t) in
    let names_same : name_in a ≡ name_in b = same_equal (name_in a) (name_in b) (right (eqb (rank_in a) (rank_in b)) (same_bytes (name_in a) (name_in b)) t) in
    let equal : a ≡ b = known ranks a la ba fa ∙ ap₂ record_for ranks-same names_same ∙ sym (known ranks b lb bb fb) in
    rw t (rw equal (same_refl b)))
    (λ f.
    ⊎_elim
    (λ t.
    let equal : a ≡ b = same_equal a b t in
    clash (eqb (rank_in a) (rank_in b) && same_bytes (name_in a) (name_in b)) (rw equal (both (eq-eqb (rank_in b) (rank_in b) refl) (same_refl (name_in b)))) f)
    (λ g. g ∙ sym f)
    (outcome (same_bytes a b)))
    (outcome (eqb (rank_in a) (rank_in b) && same_bytes (name_in a) (name_in b)))

-- ---- the table

pub services_are : (services : List ℕ) → services_in services ≡ length services / 32
unfolding services_in
services_are services = refl

-- ---- what a table that is right holds, for the crates above

pub record GoodServices (tree services : List ℕ) : Type 0 where
  pub whole : length services ≡ services_in services * 32
  pub few : services_in services ≤ 1024
  pub form : (i : ℕ) → i < services_in services → Form (ranks_in tree) (service_at services i)
  pub none : none_twice (λ i j. same_service (service_at services i) (service_at services j)) (services_in services) ≡ true

pub good_services : (tree services : List ℕ) → services_good tree services ≡ true → GoodServices tree services
unfolding services_good
good_services tree services h =
    let a = eqb (length services) (services_in services * 32) in
    let b = leb (services_in services) 1024 in
    let c = all_below (services_in services) (λ i. service_good (ranks_in tree) (service_at services i)) in
    let d = none_twice (λ i j. same_service (service_at services i) (service_at services j)) (services_in services) in
    let h₁ = right a (b && (c && d)) h in
    let h₂ = right b (c && d) h₁ in
    record {
      whole = eqb-true (length services) (services_in services * 32) (left a (b && (c && d)) h);
      few = leb-true (services_in services) 1024 (left b (c && d) h₁);
      form =
          λ i l.
          form_of (ranks_in tree) (service_at services i) (all_at (λ i. service_good (ranks_in tree) (service_at services i)) (services_in services) i l (left c d h₂));
      none = right c d h₂;
    }

pub same_service_lem : (a b : List ℕ) → rank_in a ≡ rank_in b → name_in a ≡ name_in b → same_service a b ≡ true
unfolding same_service
same_service_lem a b r n = both (eq-eqb (rank_in a) (rank_in b) r) (rw n (same_refl (name_in b)))
