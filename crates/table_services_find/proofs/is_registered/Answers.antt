use Rattle.std.proofs.Common.{arith, sym, ap, ◌∙◌, ℕ, List, drop}
use lib.Dec.{eqb}
use lib.ListN.{length-drop}
use lib.Seq.{take_all}
use Rattle.std.specs.List.{starts_with}
use Rattle.table_services_find.proofs.Lookup.{empty_never, other_rank, other_length, begins}
use Rattle.table_services_find.proofs.is_registered.Goals as goal

pub returns-then-is_empty : goal.returns-then-is_empty
returns-then-is_empty c = sym (empty_never c.args.row.now c.args.rank c.args.service.now (search arith))

pub returns-then-number_at-rank : goal.returns-then-number_at-rank
returns-then-number_at-rank c =
    sym (other_rank c.args.row.now c.args.rank c.args.service.now (λ e. omega (arith, c.number_at.ensures, c.if-number_at-rank.true)))

pub returns-then-from-service : goal.returns-then-from-service
returns-then-from-service c =
    sym (other_length c.args.row.now c.args.rank c.args.service.now (λ e. omega (arith, c.from.ensures, c.if-from-service.true)))

pub returns : goal.returns
returns c =
    c.starts_with.ensures.value
    ∙ ap (λ (xs : List ℕ). starts_with eqb xs c.args.service.now) (take_all 27 (drop 5 c.args.row.now) (omega (arith, length-drop 5 c.args.row.now)))
    ∙ begins c.args.row.now c.args.rank c.args.service.now (search arith) (omega (arith, c.number_at.ensures, c.if-number_at-rank.false)) (omega (arith, c.from.ensures, c.if-from-service.false))
