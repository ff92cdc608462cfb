use Rattle.std.proofs.Common.{arith, sym}
use Rattle.table_tree.proofs.Tree.{whole_none, whole_many, whole_rest}
use Rattle.table_tree.proofs.is_whole.Goals as goal

pub returns-then-n-lt1 : goal.returns-then-n-lt1
returns-then-n-lt1 c = sym (whole_none c.args.tree.now (omega (arith, c.ranks_in-n.ensures)))

pub returns-then-n-gt-MOST_RECORDS : goal.returns-then-n-gt-MOST_RECORDS
returns-then-n-gt-MOST_RECORDS c = sym (whole_many c.args.tree.now (omega (arith, c.ranks_in-n.ensures)))

pub returns : goal.returns
returns c = rw c.ranks_in-n.ensures (sym (whole_rest c.args.tree.now (omega arith) (omega arith)))
