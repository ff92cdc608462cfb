-- Whom upstream skips, by the path: "So the broker whose rank equals nodeid is skipped, and no other; a nodeid outside the tree skips nobody." (paper 02,
-- ticket 3)
use Rattle.std.specs.Prelude.{Some, ◌≡◌, true, List, [], ◌∷◌, ℕ, ◌<◌, ◌≤◌}
use Rattle.frame_message.specs.declared.Header.{Header}
use Rattle.frame_message.specs.Header.{is_upstream}
use Rattle.frame_message.specs.Reading.{final}
use Rattle.table_tree.specs.Tree.{ranks_in}
use Rattle.table_tree.specs.Depths.{tree_good}
use Rattle.walk_path.specs.Path.{is_in, delivers, Path, record_of, any_path, path_of}

pub record SkipsTheNamed (tree services : List ℕ) (entry named : ℕ) (topic : List ℕ) (path : Path) : Type 0 where
  -- "the broker whose rank equals nodeid is skipped": it never delivers
  pub skipped : (number : ℕ) → path.end ≡ delivers number → final 0 path.brokers ≡ named → ⊥
  -- "and no other": whoever of the path registers the service, and is not named, delivers the request
  pub other :
      (r : ℕ) → is_in r path.brokers ≡ true → (r ≡ named → ⊥) → (number : ℕ) → record_of services topic r ≡ Some number →
      (path.end ≡ delivers number) × (final 0 path.brokers ≡ r)
  -- "Entry at rank 3, nodeid 5": rank 3's own service is tried, and so is that of every entry which is not named
  pub own :
      (entry ≡ named → ⊥) → (number : ℕ) → record_of services topic entry ≡ Some number →
      path ≡ record { brokers = entry ∷ []; end = delivers number }
  -- "a nodeid outside the tree skips nobody": the path is that of any rank
  pub nobody : ranks_in tree ≤ named → path ≡ any_path tree services topic entry

-- of a request with upstream set and a nodeid other than 4294967295 that enters at a rank of a right tree
abbrev pub UpstreamSkips : List ℕ → List ℕ → ℕ → Header → List ℕ → Type 0
UpstreamSkips tree services entry h topic =
    tree_good tree ≡ true → entry < ranks_in tree → is_upstream h.flags ≡ true → (h.first ≡ 4294967295 → ⊥) →
    SkipsTheNamed tree services entry h.first topic (path_of tree services entry h topic)
