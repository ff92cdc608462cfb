-- The law of the claim, at the lent bytes.
use Rattle.claim_faults.proofs.Faults.{fault_is_told}
use Rattle.claim_calls.proofs.fault_is_told.Goals as goal

pub returns : goal.returns
returns c = fault_is_told c.args.bytes.now c.are_bytes.ensures
