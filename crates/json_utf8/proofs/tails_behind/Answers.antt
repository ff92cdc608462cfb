-- The first byte of a character tells how many come behind it.
use Rattle.std.proofs.Common.{arith, sym}
use Rattle.json_utf8.proofs.Leads.{two_bytes_lem, three_bytes_lem, four_bytes_lem, no_lead_below, no_lead_above}
use Rattle.json_utf8.proofs.tails_behind.Goals as goal

pub returns-in-194-to-223 : goal.returns-in-194-to-223
returns-in-194-to-223 c = sym (two_bytes_lem c.args.lead (omega arith) (omega arith))

pub returns-in-224-to-239 : goal.returns-in-224-to-239
returns-in-224-to-239 c = sym (three_bytes_lem c.args.lead (omega arith) (omega arith))

pub returns-in-240-to-244 : goal.returns-in-240-to-244
returns-in-240-to-244 c = sym (four_bytes_lem c.args.lead (omega arith) (omega arith))

pub returns-in_default : goal.returns-in_default
returns-in_default c = sym (no_lead_below c.args.lead (omega arith))

pub returns-in_default-2 : goal.returns-in_default-2
returns-in_default-2 c = sym (no_lead_above c.args.lead (omega arith))
