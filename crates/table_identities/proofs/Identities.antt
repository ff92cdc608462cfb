-- Laws on the table of identities.
use mathlib.Core.Path.{◌≡◌, refl}
use mathlib.Core.Bool.{true, false, ◌&&◌}
use mathlib.Core.List.{List}
use Rattle.std.specs.Prelude.{Some, None}
use Prim.Native.Nat.{ℕ, ◌*◌, ◌/◌, ◌<◌}
use native.Mathlib.Omega.{arith}
use borrow.Author.Tests.{eqb-true}
use lib.Dec.{eqb, leb}
use lib.ListN.{length}
use Rattle.frame_forms.specs.Forms.{is_route}
use Rattle.table_records.specs.Below.{all_below, none_twice}
use Rattle.table_records.specs.Bytes.{same_bytes}
use Rattle.table_records.specs.Search.{first_from}
use Rattle.bytes_number.proofs.Truth.{and_left as left, and_right as right}
use Rattle.table_records.proofs.Below.{all_at, once}
use Rattle.table_records.proofs.Bytes.{same_refl, same_equal}
use Rattle.table_records.proofs.Search.{first_passes, none_passes, first_only}
use Rattle.table_tree.specs.Tree.{ranks_in}
use Rattle.table_identities.specs.Identities.{identity_at, same_identity, identities_good, broker_of}

pub same_is : (a b : List ℕ) → same_identity a b ≡ same_bytes a b
unfolding same_identity
same_is a b = refl

pub broker_is : (identities route : List ℕ) → broker_of identities route ≡ first_from (λ rank. same_identity (identity_at identities rank) route) (length identities / 37) 0
unfolding broker_of
broker_is identities route = refl

-- ---- when two routes are the same identity

pub same_self : (a : List ℕ) → same_identity a a ≡ true
unfolding same_identity
same_self a = same_refl a

-- two that are the same as a third
pub same_through : (a b route : List ℕ) → same_identity a route ≡ true → same_identity b route ≡ true → same_identity a b ≡ true
unfolding same_identity
same_through a b route p q = rw (same_equal a route p, same_equal b route q) (same_refl route)

-- ---- what a table that is right holds, for the crates above

pub record GoodIdentities (tree identities : List ℕ) : Type 0 where
  pub whole : length identities ≡ ranks_in tree * 37
  pub form : (rank : ℕ) → rank < ranks_in tree → is_route (identity_at identities rank) ≡ true
  pub none : none_twice (λ a b. same_identity (identity_at identities a) (identity_at identities b)) (ranks_in tree) ≡ true

pub good_identities : (tree identities : List ℕ) → identities_good tree identities ≡ true → GoodIdentities tree identities
unfolding identities_good
good_identities tree identities h =
    let a = leb (ranks_in tree) 1024 in
    let b = eqb (length identities) (ranks_in tree * 37) in
    let c = all_below (ranks_in tree) (λ rank. is_route (identity_at identities rank)) in
    let d = none_twice (λ a b. same_identity (identity_at identities a) (identity_at identities b)) (ranks_in tree) in
    let h₁ = right a (b && (c && d)) h in
    let h₂ = right b (c && d) h₁ in
    record {
      whole = eqb-true (length identities) (ranks_in tree * 37) (left b (c && d) h₁);
      form = λ rank l. all_at (λ rank. is_route (identity_at identities rank)) (ranks_in tree) rank l (left c d h₂);
      none = right c d h₂;
    }

module _ (tree identities : List ℕ) (g : GoodIdentities tree identities) where
  as_many : length identities / 37 ≡ ranks_in tree
  as_many = omega (arith, g.whole)

  -- the rank that is found has the identity
  pub found_holds : (route : List ℕ) (rank : ℕ) → broker_of identities route ≡ Some rank → (rank < ranks_in tree) × (same_identity (identity_at identities rank) route ≡ true)
  unfolding broker_of
  found_holds route rank e =
      let found = first_passes (λ rank. same_identity (identity_at identities rank) route) (length identities / 37) 0 rank e in
      (omega (arith, found.0, as_many), found.1)

  -- where none is found, the route is no broker's identity
  pub none-holds : (route : List ℕ) → broker_of identities route ≡ None → (rank : ℕ) → rank < ranks_in tree → same_identity (identity_at identities rank) route ≡ false
  unfolding broker_of
  none-holds route e rank h =
      none_passes (λ rank. same_identity (identity_at identities rank) route) (length identities / 37) 0 e rank (omega arith) (omega (arith, as_many))

  -- the one broker with the identity is found
  pub found_only : (route : List ℕ) (rank : ℕ) → rank < ranks_in tree → same_identity (identity_at identities rank) route ≡ true → broker_of identities route ≡ Some rank
  unfolding broker_of
  found_only route rank h same =
      first_only (λ other. same_identity (identity_at identities other) route) (length identities / 37) rank (omega (arith, as_many)) same
      (λ k hk t.
      once (λ a b. same_identity (identity_at identities a) (identity_at identities b)) (ranks_in tree) g.none k rank (omega (arith, as_many)) h
      (same_through (identity_at identities k) (identity_at identities rank) route t same)
      (same_through (identity_at identities rank) (identity_at identities k) route same t))

  -- a broker is found by its own identity
  pub found_own : (rank : ℕ) → rank < ranks_in tree → broker_of identities (identity_at identities rank) ≡ Some rank
  found_own rank h = found_only (identity_at identities rank) rank h (same_self (identity_at identities rank))
