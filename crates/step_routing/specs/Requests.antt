-- Where a broker sends a request. "Requests: .."
use Rattle.std.specs.Prelude.{ℕ, Option, None, Some, Bool, false, cond, List, eqb, ltb}
use Rattle.frame_message.specs.declared.Header.{Header}
use Rattle.frame_message.specs.Header.{is_upstream}
use Rattle.table_tree.specs.Tree.{ranks_in, parent_of}
use Rattle.table_tree_hops.specs.Towards.{towards}
use Rattle.table_services_find.specs.Lookup.{service_of, registered_as}
use Rattle.step_routing.specs.declared.Way.{Way}
use Rattle.step_routing.specs.declared.Way.TheVariants.{Deliver, Forward, Fail}

-- "nodeid 4294967295": any rank
abbrev pub any_rank : ℕ
any_rank = 4294967295

-- "error 38", Linux's number for a function that is not implemented; "error 113", for a rank that can't be reached
abbrev pub no_service : ℕ
no_service = 38

abbrev pub host_unreachable : ℕ
host_unreachable = 113

-- "if this rank registers the service": the number of its record, or none
abbrev pub registered : List ℕ → ℕ → List ℕ → Option ℕ
registered services rank topic = registered_as services rank (service_of topic)

-- "deliver if .., else .."
abbrev pub deliver_or : Option ℕ → Way → Way
deliver_or (Some number) other = Deliver number
deliver_or None other = other

-- "forward to the parent; at rank 0, error 38"
abbrev pub to_parent : List ℕ → ℕ → Way
to_parent tree rank = cond (eqb rank 0) (Fail no_service) (Forward (parent_of tree rank))

-- "deliver if this rank registers the service, else forward to the parent; at rank 0, error 38", where a broker that is skipped does not try its own
-- services
abbrev pub upwards : List ℕ → List ℕ → ℕ → List ℕ → Bool → Way
upwards tree services rank topic skipped = cond skipped (to_parent tree rank) (deliver_or (registered services rank topic) (to_parent tree rank))

-- who is skipped: "the broker whose rank equals nodeid is skipped, and no other; a nodeid outside the tree skips nobody" (paper 02, ticket 3)
abbrev pub skips : ℕ → ℕ → Bool
skips nodeid rank = eqb rank nodeid

-- "the next broker on the tree path"
abbrev pub next_broker : List ℕ → ℕ → ℕ → ℕ
next_broker tree rank target = towards tree rank target

-- "other nodeid, upstream clear: a rank not in the tree gives error 113 at once. At the target: deliver, or error 38. Otherwise forward to the next
-- broker on the tree path."
abbrev pub to_rank : List ℕ → List ℕ → ℕ → ℕ → List ℕ → Way
to_rank tree services rank nodeid topic =
    cond (ltb nodeid (ranks_in tree))
    (cond (eqb nodeid rank) (deliver_or (registered services rank topic) (Fail no_service)) (Forward (next_broker tree rank nodeid)))
    (Fail host_unreachable)

-- "nodeid 4294967295: .. The upstream flag is ignored here."; "other nodeid, upstream set: as for 4294967295", but for the broker that is skipped;
-- "other nodeid, upstream clear: .."
unfoldable pub request_way : List ℕ → List ℕ → ℕ → Header → List ℕ → Way
request_way tree services rank h topic =
    cond (eqb h.first any_rank) (upwards tree services rank topic false)
    (cond (is_upstream h.flags) (upwards tree services rank topic (skips h.first rank))
    (to_rank tree services rank h.first topic))
