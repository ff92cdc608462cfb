-- The law of the claim, at the lent bytes.
use Rattle.step_routing.specs.Messages.{owner_of}
use Rattle.claim_walks.proofs.Walks.{walks_of_the_table}
use Rattle.claim_calls.proofs.walks_of_the_table.Goals as goal

pub returns : goal.returns
returns c = walks_of_the_table (owner_of c.args.userid c.args.rolemask)
