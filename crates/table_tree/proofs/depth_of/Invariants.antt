use Rattle.std.proofs.Common.{◌≡◌, ◌+◌, ◌-◌}
use Rattle.table_tree.specs.Depths.{climbs}
use Rattle.table_tree.proofs.depth_of.Given as goal

-- what was climbed and what is still to climb is the depth
abbrev pub invariant-loop-d : goal.invariant-loop-d
invariant-loop-d l = l.d + climbs l.tree (17 - l.d) l.at ≡ climbs l.tree 17 l.rank
