-- A path is followed: each of its brokers, by its own step, sends the request to the next one, and the last ends it as the path does.
use Rattle.std.specs.Prelude.{Some, ◌≡◌, true, ℕ, ◌+◌, ◌*◌, ◌<◌, ◌≤◌, List, [], ◌∷◌, length}
use Rattle.frame_message.specs.declared.Header.{Header}
use Rattle.frame_message.specs.Reading.{final}
use Rattle.table_tree.specs.Tree.{ranks_in}
use Rattle.table_tree.specs.Depths.{tree_good}
use Rattle.table_tree_hops.specs.Towards.{is_neighbour}
use Rattle.table_services_find.specs.Lookup.{service_of, registered_as}
use Rattle.step_routing.specs.declared.Way.{Way}
use Rattle.step_routing.specs.declared.Way.TheVariants.{Deliver, Forward, Fail}
use Rattle.step_routing.specs.Requests.{request_way}
use Rattle.walk_path.specs.Path.{End, delivers, fails, Path, path_of, tree_depth}

-- what the broker does at which a request ends so
abbrev pub way_of : End → Way
way_of (delivers number) = Deliver number
way_of (fails errnum) = Fail errnum

-- along these brokers each sends the request to the next, and the last ends it so, by what a broker does with it
unfoldable pub Leads : (ℕ → Way) → List ℕ → End → Type 0
Leads way [] end = ⊥
Leads way (r ∷ []) end = way r ≡ way_of end
Leads way (r ∷ s ∷ rs) end = (way r ≡ Forward s) × Leads way (s ∷ rs) end

-- each is a rank of the tree, and the one before it is its neighbour
unfoldable pub Linked : List ℕ → List ℕ → Type 0
Linked tree [] = Unit {0}
Linked tree (r ∷ []) = r < ranks_in tree
Linked tree (r ∷ s ∷ rs) = (r < ranks_in tree) × (is_neighbour tree s r ≡ true) × Linked tree (s ∷ rs)

-- the brokers follow the path of a request that enters at a rank
pub record Follows (tree services : List ℕ) (entry : ℕ) (h : Header) (topic : List ℕ) (path : Path) : Type 0 where
  -- it starts at the entry
  pub rest : List ℕ
  pub starts : path.brokers ≡ entry ∷ rest
  pub leads : Leads (λ r. request_way tree services r h topic) path.brokers path.end
  pub linked : Linked tree path.brokers
  -- at most up and down again
  pub few : length path.brokers ≤ 2 * tree_depth tree + 1
  -- delivered by the record that the last broker has for the service
  pub ends : (n : ℕ) → path.end ≡ delivers n → registered_as services (final 0 path.brokers) (service_of topic) ≡ Some n

abbrev pub Followed : List ℕ → List ℕ → ℕ → Header → List ℕ → Type 0
Followed tree services entry h topic = Follows tree services entry h topic (path_of tree services entry h topic)

-- in a tree that is right, from each of its ranks
abbrev pub IsFollowed : List ℕ → List ℕ → ℕ → Header → List ℕ → Type 0
IsFollowed tree services entry h topic = tree_good tree ≡ true → entry < ranks_in tree → Followed tree services entry h topic
