use Rattle.json_scan.specs.Scan.{is_within}
use Rattle.json_scan.proofs.is_digit.Goals as goal

pub returns : goal.returns
unfolding is_within
returns c = c.is_ascii_digit.ensures.value
