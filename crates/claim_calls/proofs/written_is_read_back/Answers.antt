-- The law of the claim, at the lent bytes.
use Rattle.std.proofs.Common.{arith}
use Rattle.claim_frames.proofs.Frames.{written_is_read_back}
use Rattle.claim_calls.proofs.written_is_read_back.Goals as goal

pub returns : goal.returns
returns c =
    written_is_read_back
    _
    (record { userid = omega (arith, c.well_formed); rolemask = omega (arith, c.well_formed); first = omega (arith, c.well_formed); second = omega (arith, c.well_formed) })
    c.args.routes.now
    c.args.topic.now
    c.args.payload.now
