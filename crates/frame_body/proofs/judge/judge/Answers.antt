-- At most 68 parts, and they are counted.
use Rattle.frame_body.proofs.Heading.{counting_done}
use Rattle.frame_body.proofs.judge.judge.Goals as goal

pub judge_counted-requires : goal.judge_counted-requires
judge_counted-requires c = (c.requires, counting_done _ c.in_ok-counts.ensures)
