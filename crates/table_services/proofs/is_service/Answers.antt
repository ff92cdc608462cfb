-- A record by what may be wrong with it: its rank, its name's length, and then the bytes that may not stand where they do.
use Rattle.std.proofs.Common.{ℕ, ◌+◌, ◌≡◌, sym, ap, ◌∙◌, arith, length, get_or}
use Rattle.table_records.specs.Below.{all_below}
use Rattle.table_services.specs.Working.{may_stand}
use Rattle.table_services.proofs.Names.{stands_all}
use Rattle.table_services.proofs.Services.{whole_row, bad_rank, bad_empty, bad_long, rest_good}
use Rattle.table_services.proofs.is_service.Goals as goal

pub returns-then-rank-ranks : goal.returns-then-rank-ranks
returns-then-rank-ranks c =
    sym (whole_row c.args.ranks c.args.row.now (omega arith) ∙ bad_rank c.args.ranks c.args.row.now (omega (arith, c.number_at-rank.ensures, c.if-rank-ranks.true)))

pub returns-then-size-lt1 : goal.returns-then-size-lt1
returns-then-size-lt1 c = sym (whole_row c.args.ranks c.args.row.now (omega arith) ∙ bad_empty c.args.ranks c.args.row.now (omega (arith, c.from-size.ensures)))

pub returns-then-size-gt-LONGEST : goal.returns-then-size-gt-LONGEST
returns-then-size-gt-LONGEST c = sym (whole_row c.args.ranks c.args.row.now (omega arith) ∙ bad_long c.args.ranks c.args.row.now (omega (arith, c.from-size.ensures)))

pub returns : goal.returns
returns c =
    let ranks = c.args.ranks in
    let row = c.args.row.now in
    let whole : length row ≡ 32 = omega arith in
    let size = c.from-size.ensures in
    c.strays.ensures
    ∙ ap (λ (n : ℕ). all_below 32 (λ at. may_stand (5 + n) at (get_or row at 0))) size
    ∙ stands_all row whole (omega (arith, size))
    ∙ sym (whole_row ranks row whole ∙ rest_good ranks row (omega (arith, c.number_at-rank.ensures, c.if-rank-ranks.false)) (omega (arith, size)) (omega (arith, size)))
