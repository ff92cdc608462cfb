-- "The path that a request takes. Own definition, without the step": lists of ranks, from chains of parents alone.
use Rattle.std.specs.Prelude.{Option, None, Some, ℕ, zero, suc, ◌-◌, max, Bool, true, false, cond, ◌||◌, List, [], ◌∷◌, ◌++◌, reverse, eqb, ltb, length}
use Rattle.frame_message.specs.declared.Header.{Header}
use Rattle.frame_message.specs.Header.{is_upstream}
use Rattle.frame_message.specs.Reading.{final}
use Rattle.table_tree.specs.Tree.{ranks_in, parent_of}
use Rattle.table_tree.specs.Depths.{depth_of}
use Rattle.table_services_find.specs.Lookup.{service_of, registered_as}

-- ---- chains of parents

-- a rank and the so many parents above it
unfoldable pub climbed : List ℕ → ℕ → ℕ → List ℕ
climbed tree zero r = r ∷ []
climbed tree (suc n) r = r ∷ climbed tree n (parent_of tree r)

-- a rank, its parent, and so on up to rank 0, which is as many parents above it as it is deep
unfoldable pub chain : List ℕ → ℕ → List ℕ
chain tree r = climbed tree (depth_of tree r) r

-- ---- parts of such lists

-- up to the first that passes, itself included; all of them if none does
unfoldable pub up_to : (ℕ → Bool) → List ℕ → List ℕ
up_to passes [] = []
up_to passes (r ∷ rs) = cond (passes r) (r ∷ []) (r ∷ up_to passes rs)

-- those in front of the first that is the rank r
unfoldable pub below : ℕ → List ℕ → List ℕ
below r [] = []
below r (s ∷ rs) = cond (eqb s r) [] (s ∷ below r rs)

unfoldable pub is_in : ℕ → List ℕ → Bool
is_in r [] = false
is_in r (s ∷ rs) = eqb s r || is_in r rs

-- ---- the brokers of a path

-- "registers the service": the record that does it at a rank, or none
abbrev pub record_of : List ℕ → List ℕ → ℕ → Option ℕ
record_of services topic r = registered_as services r (service_of topic)

abbrev pub is_found : Option ℕ → Bool
is_found (Some number) = true
is_found None = false

-- "registers the service and is not the named rank" (paper 02, ticket 3): the same, but that the named rank is skipped
abbrev pub served_at : List ℕ → List ℕ → ℕ → ℕ → Option ℕ
served_at services topic named r = cond (eqb r named) None (record_of services topic r)

-- "from the entry up to the nearest broker, itself included, that registers the service, else up to rank 0", by what a broker serves
unfoldable pub up_path : List ℕ → (ℕ → Option ℕ) → ℕ → List ℕ
up_path tree serves entry = up_to (λ r. is_found (serves r)) (chain tree entry)

-- "the lowest common ancestor": the first in the chain of the one that is in the chain of the other
unfoldable pub common_ancestor : List ℕ → ℕ → ℕ → ℕ
common_ancestor tree a b = final 0 (up_to (λ r. is_in r (chain tree b)) (chain tree a))

-- "up to the lowest common ancestor and down to the target"
unfoldable pub rank_path : List ℕ → ℕ → ℕ → List ℕ
rank_path tree entry target =
    let top = common_ancestor tree entry target in
    below top (chain tree entry) ++ (top ∷ reverse (below top (chain tree target)))

-- ---- the path and its end

-- "the last broker of the path delivers", with its record's number, or there is an error
pub data End : Type 0 where
  delivers : ℕ → End
  fails : ℕ → End

pub record Path : Type 0 where
  pub brokers : List ℕ
  pub end : End

-- "delivers if it registers the service; if not, the error is 38"
abbrev pub end_at : Option ℕ → End
end_at (Some number) = delivers number
end_at None = fails 38

-- "In all other cases the last broker of the path delivers if .."
abbrev pub ending : (ℕ → Option ℕ) → List ℕ → Path
ending serves brokers = record { brokers = brokers; end = end_at (serves (final 0 brokers)) }

-- an error "on 0 links"
abbrev pub stopping : ℕ → ℕ → Path
stopping entry errnum = record { brokers = entry ∷ []; end = fails errnum }

-- "for nodeid 4294967295, ..": any rank
abbrev pub any_path : List ℕ → List ℕ → List ℕ → ℕ → Path
any_path tree services topic entry = ending (record_of services topic) (up_path tree (record_of services topic) entry)

-- Another nodeid, upstream set: "from the entry up to the nearest broker, itself included, that registers the service and is not the named rank, else to
-- rank 0, where the error is 38" (paper 02, ticket 3)
abbrev pub upstream_path : List ℕ → List ℕ → List ℕ → ℕ → ℕ → Path
upstream_path tree services topic entry named = ending (served_at services topic named) (up_path tree (served_at services topic named) entry)

-- "Another nodeid, upstream clear: up to the lowest common ancestor and down to the target; if it is not in the tree, error 113 on 0 links."
abbrev pub target_path : List ℕ → List ℕ → List ℕ → ℕ → ℕ → Path
target_path tree services topic entry target =
    cond (ltb target (ranks_in tree)) (ending (record_of services topic) (rank_path tree entry target)) (stopping entry 113)

-- the path of a request with this header and topic that enters at a rank
unfoldable pub path_of : List ℕ → List ℕ → ℕ → Header → List ℕ → Path
path_of tree services entry h topic =
    cond (eqb h.first 4294967295) (any_path tree services topic entry)
    (cond (is_upstream h.flags) (upstream_path tree services topic entry h.first) (target_path tree services topic entry h.first))

-- "Links are the brokers on the path less one."
abbrev pub links_of : Path → ℕ
links_of p = length p.brokers - 1

-- ---- the tree's depth

-- the largest depth of the ranks below n
unfoldable pub deepest : List ℕ → ℕ → ℕ
deepest tree zero = 0
deepest tree (suc n) = max (deepest tree n) (depth_of tree n)

-- "The tree's depth is its largest depth."
unfoldable pub tree_depth : List ℕ → ℕ
tree_depth tree = deepest tree (ranks_in tree)
