-- There are no more zeros at the low end than bits.
use Rattle.std.proofs.Common.{refl, arith}
use lib.Count.{trailing_le as few}
use Rattle.json_plain.specs.WorkingWords.{lowest_mark}
use Rattle.json_plain.proofs.marked.Goals as goal

pub returns : goal.returns
unfolding lowest_mark
returns c = (refl, omega (arith, few 64 c.args.marks))
