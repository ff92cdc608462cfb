use Rattle.json_scan.specs.Scan.{is_within, is_hex_digit, holds}
use Rattle.json_string.proofs.is_hex.Goals as goal

pub returns : goal.returns
unfolding holds is_hex_digit is_within
returns c = c.is_ascii_hexdigit.ensures.value
