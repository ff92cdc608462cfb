-- A byte above the blank is no white space, so that the place is its own.
use Rattle.std.proofs.Common.{arith}
use Rattle.json_scan.proofs.White.{white_above, token_is}
use Rattle.json_scan.proofs.token_at.Goals as goal

pub returns-then-byte-gt32 : goal.returns-then-byte-gt32
returns-then-byte-gt32 c =
    token_is c.args.bytes.now c.args.at (white_above c.args.bytes.now c.args.at (omega (arith, c.byte_at-byte.ensures))) c.byte_at-byte.ensures

pub returns : goal.returns
returns c = token_is c.args.bytes.now c.args.at c.white_end-end.ensures c.byte_at.ensures
