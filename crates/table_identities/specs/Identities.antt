-- The table of identities. "Identities: one 37-byte route a rank, no two equal."
use Rattle.std.specs.Prelude.{ℕ, Option, ◌*◌, ◌/◌, Bool, ◌&&◌, not, List, eqb, leb, length}
use Rattle.refusal.specs.declared.Refusal.TheVariants.{TreeWrong, IdentitiesWrong}
use Rattle.refusal.specs.Answer.{Answer, answered, refuse_if}
use Rattle.frame_forms.specs.Forms.{route_length, is_route}
use Rattle.table_records.specs.Below.{all_below, none_twice}
use Rattle.table_records.specs.Bytes.{same_bytes}
use Rattle.table_records.specs.Records.{most_records, record_at}
use Rattle.table_records.specs.Search.{first_of}
use Rattle.table_tree.specs.Tree.{ranks_in}
use Rattle.table_tree.specs.Depths.{tree_good}

-- "one 37-byte route a rank"
abbrev pub identity_at : List ℕ → ℕ → List ℕ
identity_at identities rank = record_at route_length identities rank

-- when two routes are the same identity
unfoldable pub same_identity : List ℕ → List ℕ → Bool
same_identity a b = same_bytes a b

-- 16: as many as the tree has ranks, of which there are at most 1,024, each of the route's form, no two the same
unfoldable pub identities_good : List ℕ → List ℕ → Bool
identities_good tree identities =
    leb (ranks_in tree) most_records
    && (eqb (length identities) (ranks_in tree * route_length)
    && (all_below (ranks_in tree) (λ rank. is_route (identity_at identities rank))
    && none_twice (λ a b. same_identity (identity_at identities a) (identity_at identities b)) (ranks_in tree)))

-- "Identity check: 14, 16"; where it passes, how many identities there are
unfoldable pub identities_check : List ℕ → List ℕ → Answer ℕ
identities_check tree identities = refuse_if (not (tree_good tree)) TreeWrong (refuse_if (not (identities_good tree identities)) IdentitiesWrong (answered (ranks_in tree)))

-- the rank whose identity a route is, or none: "the top route is no broker's identity"
unfoldable pub broker_of : List ℕ → List ℕ → Option ℕ
broker_of identities route = first_of (λ rank. same_identity (identity_at identities rank) route) (length identities / route_length)
