-- The start, the body's length and the body, one behind the other.
use Rattle.std.proofs.Common.{arith, ap, ◌∙◌, ◌++◌, ◌-◌, ℕ, List}
use Rattle.bytes_number.specs.Number.{four}
use Rattle.bytes_number.specs.Laid.{laid}
use Rattle.bytes_number.specs.WorkingLays.{Lays}
use Rattle.bytes_number.proofs.Buffers.{room_lent}
use Rattle.bytes_number.proofs.Laying.{lays_room, lays_more}
use Rattle.frame_write_given.specs.WorkingDrafts.{drafted}
use Rattle.frame_write_check.proofs.Bodies.{frame_length_lem}
use Rattle.frame_write.proofs.Bodies.{frame_bytes}
use Rattle.frame_write.proofs.frame.write_frame.Goals as goal

pub overflow_sub-front : goal.overflow_sub-front
overflow_sub-front c =
    omega (arith, frame_length_lem (drafted c.args.draft.now))

pub slice_bounds-write_body-count : goal.slice_bounds-write_body-count
slice_bounds-write_body-count c =
    omega (arith, frame_length_lem (drafted c.args.draft.now))

pub slice_bounds-write_body-start : goal.slice_bounds-write_body-start
slice_bounds-write_body-start c =
    omega (arith, frame_length_lem (drafted c.args.draft.now))

pub write_body-requires-clause-payload_in_bounds : goal.write_body-requires-clause-payload_in_bounds
write_body-requires-clause-payload_in_bounds c =
    room_lent 8 c.put_row.new.out (omega (arith, frame_length_lem (drafted c.args.draft.now)))

pub returns : goal.returns
returns c =
    let m = drafted c.args.draft.now in
    let front : Lays (four 4293787666 ++ four (c.args.n - 8)) c.args.out.now c.put_row.new.out 8 =
    lays_room (omega (arith, frame_length_lem m)) c.put_row.ensures in
    (lays_more front c.write_body.ensures).bytes ∙ ap (λ (xs : List ℕ). laid xs c.args.out.now) (frame_bytes m c.args.n c.requires.n_value)
