-- Each byte of a slice fits eight bits.
use Rattle.bytes_number.proofs.Numbers.{bytes_of_lem}
use Rattle.claim_calls.proofs.are_bytes.Goals as goal

pub returns : goal.returns
returns c = bytes_of_lem c.args.bytes.now (λ i. (c.type_inv.bytes i).fits)
