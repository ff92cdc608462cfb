use Rattle.walk_path.proofs.Walks.{walks_are_right}
use Rattle.walk_path.proofs.walks_are_right.Goals as goal

pub returns : goal.returns
returns c = walks_are_right
