-- The law of the claim, at the lent bytes.
use Rattle.claim_frames.proofs.Frames.{accepted_is_written_back}
use Rattle.claim_calls.proofs.accepted_is_written_back.Goals as goal

pub returns : goal.returns
returns c = accepted_is_written_back c.args.bytes.now c.are_bytes.ensures
