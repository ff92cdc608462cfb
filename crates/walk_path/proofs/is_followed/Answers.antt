use Rattle.walk_path.proofs.Leading.{followed}
use Rattle.walk_path.proofs.is_followed.Goals as goal

pub returns : goal.returns
returns c = followed c.args.tree.now c.args.services.now c.args.entry c.args.header c.args.topic.now
