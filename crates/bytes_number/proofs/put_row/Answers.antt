-- A row is laid number by number, and nothing where there is no room for all of it.
use Rattle.std.proofs.Common.{◌≡◌, ◌+◌, ◌*◌, arith, sym}
use Rattle.bytes_number.specs.Number.{row_bytes}
use Rattle.bytes_number.proofs.Rows.{rowed_more, row_length}
use Rattle.bytes_number.proofs.Buffers.{laid_none}
use Rattle.bytes_number.proofs.put_row.Goals as goal

pub loop-i-preserved : goal.loop-i-preserved
loop-i-preserved c =
    let next : 4 * (c.loop-i.i + 1) ≡ 4 * c.loop-i.i + 4 = omega arith in
    rw next (rowed_more c.loop-i.invariant (omega (arith, c.if-row-out.true)) c.loop-i-test.true c.put_number.ensures)

pub returns-else-row-out : goal.returns-else-row-out
returns-else-row-out c = sym (laid_none (row_bytes c.args.row.now) c.args.out.now (omega (arith, row_length c.args.row.now)))
