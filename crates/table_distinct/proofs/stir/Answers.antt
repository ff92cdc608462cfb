use Rattle.std.proofs.Common.{◌∙◌}
use Rattle.table_distinct.proofs.Chains.{stirred_is}
use Rattle.table_distinct.proofs.stir.Goals as goal

pub returns : goal.returns
returns c =
    c.stir_in.ensures ∙ stirred_is c.args.h c.number_of-a.result c.number_of-b.result c.args.s.now c.args.at c.number_of-a.ensures c.number_of-b.ensures
