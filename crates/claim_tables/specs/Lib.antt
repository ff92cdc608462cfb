-- What a buyer has to believe of the tree check, and of the next broker on the way to a rank.
pub mod Trees
pub mod Ways
