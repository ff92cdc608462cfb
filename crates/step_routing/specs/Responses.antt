-- Where a broker sends a response. "Responses: .."
use Rattle.std.specs.Prelude.{ℕ, Option, None, Some, Result, Ok, Err, cond, ◌&&◌, List, [], ◌∷◌, ltb}
use Rattle.refusal.specs.declared.Refusal.{Refusal}
use Rattle.refusal.specs.declared.Refusal.TheVariants.{NoNeighbour}
use Rattle.table_records.specs.Records.{most_records}
use Rattle.table_tree_hops.specs.Towards.{is_neighbour}
use Rattle.table_identities.specs.Identities.{broker_of}

-- where a response goes: to a rank, or to none where it is home; or it is refused
abbrev pub Back : Type 0
Back = Result (Option ℕ) Refusal

-- "If it names a neighbour (parent or child), remove it and forward there"; 19: "a broker that is no neighbour, itself included". What is no rank of any
-- tree is no neighbour.
abbrev pub towards_broker : List ℕ → ℕ → Option ℕ → Back
towards_broker tree rank None = Ok None
towards_broker tree rank (Some broker) = cond (ltb broker most_records && is_neighbour tree rank broker) (Ok (Some broker)) (Err NoNeighbour)

-- "if there are no routes, or the top route is no broker's identity, the response is home"
unfoldable pub response_way : List ℕ → List ℕ → ℕ → List (List ℕ) → Back
response_way tree identities rank [] = Ok None
response_way tree identities rank (top ∷ routes) = towards_broker tree rank (broker_of identities top)
