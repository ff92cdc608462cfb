-- Four first bytes have second bytes of their own.
use Rattle.std.proofs.Common.{◌∙◌, arith}
use Rattle.json_utf8.proofs.Leads.{second_E0, second_ED, second_F0, second_F4, second_other}
use Rattle.json_utf8.proofs.is_second.Goals as goal

pub returns-in-224 : goal.returns-in-224
returns-in-224 c = c.is_within.ensures ∙ second_E0 c.args.c c.args.lead c.in-224.is

pub returns-in-237 : goal.returns-in-237
returns-in-237 c = c.is_within-in-237.ensures ∙ second_ED c.args.c c.args.lead c.in-237.is

pub returns-in-240 : goal.returns-in-240
returns-in-240 c = c.is_within-in-240.ensures ∙ second_F0 c.args.c c.args.lead c.in-240.is

pub returns-in-244 : goal.returns-in-244
returns-in-244 c = c.is_within-in-244.ensures ∙ second_F4 c.args.c c.args.lead c.in-244.is

pub returns-in_default : goal.returns-in_default
returns-in_default c = c.is_tail.ensures ∙ second_other c.args.c c.args.lead (λ e. omega arith) (λ e. omega arith) (λ e. omega arith) (λ e. omega arith)
