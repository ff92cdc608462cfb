-- Four bytes are stored, and four numbers laid behind them: those are the header's bytes.
use Rattle.std.proofs.Common.{◌∙◌, ap, ℕ, List}
use Rattle.bytes_number.specs.WorkingLays.{laid_count, laid_if_room}
use Rattle.frame_message.specs.Frame.{part_bytes}
use Rattle.frame_header.proofs.Heads.{header_held}
use Rattle.frame_header.proofs.write_header.Goals as goal

pub returns-clause-value : goal.returns-clause-value
returns-clause-value c =
    c.write_part.ensures.value ∙ ap (λ (xs : List ℕ). laid_count (part_bytes xs) c.args.out.now) (header_held c.args.header c.put_row.ensures)

pub returns-clause-out_after : goal.returns-clause-out_after
returns-clause-out_after c =
    c.write_part.ensures.out_after ∙ ap (λ (xs : List ℕ). laid_if_room (part_bytes xs) c.args.out.now) (header_held c.args.header c.put_row.ensures)
