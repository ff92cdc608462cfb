-- The law of the claim, at the lent bytes.
use Rattle.claim_frames.proofs.Frames.{record_holds_message}
use Rattle.claim_calls.proofs.record_holds_message.Goals as goal

pub returns : goal.returns
returns c = record_holds_message c.args.bytes.now c.are_bytes.ensures
