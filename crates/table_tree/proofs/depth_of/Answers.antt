use Rattle.std.proofs.Common.{arith, ◌∙◌}
use Rattle.table_tree.proofs.Depths.{climb_turn, climb_stop, climb_end}
use Rattle.table_tree.proofs.depth_of.Goals as goal

pub returns-then-at-eq0 : goal.returns-then-at-eq0
returns-then-at-eq0 c = climb_stop c.args.tree.now c.loop-d.d c.loop-d.at c.args.rank (omega arith) c.loop-d.invariant

pub loop-d-preserved : goal.loop-d-preserved
loop-d-preserved c = rw c.parent_of-at.ensures (climb_turn c.args.tree.now c.loop-d.d c.loop-d.at (omega arith) (λ e. omega arith)) ∙ c.loop-d.invariant

pub returns : goal.returns
returns c = climb_end c.args.tree.now c.loop-d.d c.loop-d.at c.args.rank (omega arith) c.loop-d.invariant
