-- A turn counts the byte at `at`.
use Rattle.std.proofs.Common.{arith, ℕ, Bool, get_or}
use Rattle.table_services.specs.Working.{may_stand}
use Rattle.table_services.proofs.Names.{strays_none, strays_more, few_more}
use Rattle.table_services.proofs.strays.Goals as goal

pub loop-at-init : goal.loop-at-init
loop-at-init c = (omega arith, strays_none _)

pub loop-at-preserved : goal.loop-at-preserved
loop-at-preserved c =
    let stands : ℕ → Bool = λ k. may_stand c.args.end k (get_or c.args.row.now k 0) in (
      few_more (stands c.loop-at.at) c.loop-at.n c.loop-at.at c.stray-n.result c.stray-n.ensures c.loop-at.invariant.0,
      strays_more stands c.loop-at.n c.loop-at.at c.stray-n.result c.stray-n.ensures c.loop-at.invariant.1,
    )
