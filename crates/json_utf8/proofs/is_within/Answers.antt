use Rattle.std.proofs.Common.{rules}
use Rattle.json_scan.specs.Scan.{is_within}
use Rattle.json_utf8.proofs.is_within.Goals as goal

pub returns : goal.returns
unfolding is_within
returns c = search rules
