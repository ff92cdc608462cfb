-- The marks are those of the three differences.
use Rattle.json_plain.proofs.Marking.{marks_of}
use Rattle.json_plain.proofs.marks.Goals as goal

pub returns : goal.returns
returns c =
    let control = c.wrapping_sub_u64-control in
    let quote = c.wrapping_sub_u64-quote in
    let backslash = c.wrapping_sub_u64-backslash in
    marks_of c.args.word control.result quote.result backslash.result control.ensures.value quote.ensures.value backslash.ensures.value
