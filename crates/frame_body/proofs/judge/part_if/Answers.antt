-- The flag is set, so that there is a part.
use Rattle.std.proofs.Common.{arith, ◌∙◌}
use Rattle.bytes_number.proofs.Numbers.{bytes_of_lem}
use Rattle.frame_part_size.proofs.Sizes.{no_data}
use Rattle.frame_body.proofs.Stretches.{found_there, piece_fits, piece_there}
use Rattle.frame_body.proofs.judge.part_if.Goals as goal

pub overflow_add-result : goal.overflow_add-result
overflow_add-result c =
    let body = c.args.body.now in
    omega (arith, piece_fits body c.args.at (bytes_of_lem body (λ i. (c.type_inv.body i).fits)) c.requires.found (c.requires.nonzero c.if-not-flag.false) _ c.in_ok-size.ensures)

pub returns-in_err-size : goal.returns-in_err-size
returns-in_err-size c =
    let body = c.args.body.now in
    absurd (no_data (c.in_err-size.ensures ∙ found_there body c.args.at (bytes_of_lem body (λ i. (c.type_inv.body i).fits)) c.requires.found (c.requires.nonzero c.if-not-flag.false)))

pub returns : goal.returns
returns c =
    let body = c.args.body.now in
    rw c.if-not-flag.false (piece_there body c.args.at (bytes_of_lem body (λ i. (c.type_inv.body i).fits)) c.requires.found (c.requires.nonzero c.if-not-flag.false) _ c.in_ok-size.ensures)
