use Rattle.json_scan.specs.Scan.{holds}
use Rattle.json_utf8.proofs.is_tail.Goals as goal

pub returns : goal.returns
unfolding holds
returns c = c.is_within.ensures
