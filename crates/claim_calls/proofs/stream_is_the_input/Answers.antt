-- The law of the claim, at the lent bytes.
use Rattle.claim_frames.proofs.Streams.{stream_is_the_input}
use Rattle.claim_calls.proofs.stream_is_the_input.Goals as goal

pub returns : goal.returns
returns c = stream_is_the_input c.args.bytes.now c.are_bytes.ensures
