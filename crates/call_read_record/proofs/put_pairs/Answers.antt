-- A row is laid two numbers at a time, the last one alone; and nothing where there is no room for all of it.
use Rattle.std.proofs.Common.{◌≡◌, arith, sym, subst, length, ◌*◌, ◌/◌, ◌≤◌}
use Rattle.bytes_number.specs.Number.{row_bytes}
use Rattle.bytes_number.proofs.Rows.{row_length, rowed_more, rowed_all}
use Rattle.bytes_number.proofs.Buffers.{laid_none}
use Rattle.call_read_record.proofs.Pairs.{Paired, paired_more}
use Rattle.call_read_record.proofs.put_pairs.Goals as goal

pub loop-i-preserved : goal.loop-i-preserved
loop-i-preserved c = paired_more c.loop-i.i c.loop-i.invariant (omega arith) (omega arith) c.put_pair.ensures

pub returns-then-pairs-row : goal.returns-then-pairs-row
returns-then-pairs-row c =
    let room : 4 * length c.args.row.now ≤ length c.args.out.now = omega arith in
    let all : c.loop-i.i ≡ length c.args.row.now / 2 = omega arith in
    let laid = subst (Paired c.args.row.now c.args.out.now c.loop-i.out) all c.loop-i.invariant in
    rowed_all (rowed_more laid room (omega arith) c.put_number.ensures) room (omega arith)

pub returns-else-pairs-row : goal.returns-else-pairs-row
returns-else-pairs-row c = rowed_all c.loop-i.invariant (omega arith) (omega arith)

pub returns-else-row-out : goal.returns-else-row-out
returns-else-row-out c = sym (laid_none (row_bytes c.args.row.now) c.args.out.now (omega (arith, row_length c.args.row.now)))
