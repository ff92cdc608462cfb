use Rattle.std.proofs.Common.{arith, sym, ap, ◌∙◌, ◌*◌, ◌/◌, ◌%◌, ℕ}
use Rattle.table_distinct.proofs.Chains.{hash_is}
use Rattle.table_distinct.proofs.hash.Goals as goal

pub returns : goal.returns
returns c = (ap (λ (m : ℕ). m * 1540483477 % 4294967296 / 1048576) c.mix.ensures ∙ sym (hash_is c.args.s.now), omega arith)
