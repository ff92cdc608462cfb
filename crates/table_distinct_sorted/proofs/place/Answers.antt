-- A turn compares record i with the one in the middle.
use Rattle.std.proofs.Common.{arith, ◌∙◌, ◌<◌, ◌+◌, ◌-◌, ◌/◌, get_or}
use Rattle.table_records.specs.Records.{record_at}
use Rattle.table_distinct_sorted.proofs.Order.{before_is, halved_low, halved_high}
use Rattle.table_distinct_sorted.proofs.place.Goals as goal

pub loop-low-preserved-then-is_lt : goal.loop-low-preserved-then-is_lt
loop-low-preserved-then-is_lt c =
    let middle = c.loop-low.low + (c.loop-low.high - c.loop-low.low) / 2 in
    let within : middle < c.args.i = omega (arith, c.loop-low.invariant.within) in
    let j = get_or c.args.order.now middle 0 in
    let table = c.args.table.now in
    let says = before_is (record_at c.args.width table j) (record_at c.args.width table c.args.i) c.is_lt.ensures (rw (← c.record_at-record.ensures, ← c.record_at.ensures) c.cmp-compared.ensures) in
    halved_low (record_at c.args.width c.args.table.now) c.args.order.now c.args.i c.requires.2 c.loop-low.low c.loop-low.high middle c.loop-low.invariant (omega arith) (omega arith) (says ∙ c.if-is_lt.true)

pub loop-low-preserved : goal.loop-low-preserved
loop-low-preserved c =
    let middle = c.loop-low.low + (c.loop-low.high - c.loop-low.low) / 2 in
    let within : middle < c.args.i = omega (arith, c.loop-low.invariant.within) in
    let j = get_or c.args.order.now middle 0 in
    let table = c.args.table.now in
    let says = before_is (record_at c.args.width table j) (record_at c.args.width table c.args.i) c.is_lt.ensures (rw (← c.record_at-record.ensures, ← c.record_at.ensures) c.cmp-compared.ensures) in
    halved_high (record_at c.args.width c.args.table.now) c.args.order.now c.args.i c.requires.2 c.loop-low.low c.loop-low.high middle c.loop-low.invariant (omega arith) (omega arith) (says ∙ c.if-is_lt.false)
