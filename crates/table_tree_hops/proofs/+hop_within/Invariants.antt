use Rattle.table_tree_hops.proofs.+hop_within.Given as goal

-- the depth falls at each call
abbrev pub decreases-hop_within : goal.decreases-hop_within
decreases-hop_within l = l.depth
