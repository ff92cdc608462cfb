-- The law of the claim, at the lent bytes.
use Rattle.claim_json.proofs.Json.{json_is_the_grammar}
use Rattle.claim_calls.proofs.json_is_the_grammar.Goals as goal

pub returns : goal.returns
returns c = json_is_the_grammar c.args.payload.now
