-- The separator is laid behind the address.
use Rattle.std.proofs.Common.{refl, ℕ, List, [], ◌∷◌}
use Rattle.bytes_number.proofs.Laying.{lays_more, lays_rest}
use Rattle.frame_message.specs.Frame.{part_bytes}
use Rattle.frame_part_write.proofs.Writing.{part_laid}
use Rattle.mdp_write.proofs.Fronts.{address_part, fore_fits}
use Rattle.mdp_write.proofs.whole.write_address.Goals as goal

-- the data that the code gives the separator
abbrev separator : List ℕ
separator = []

pub returns-then-given : goal.returns-then-given
returns-then-given c =
    let parts = address_part c.args.address.now c.if-given.true in
    let room = rw parts at c.requires in
    let first = part_laid {p = c.args.address.now} {q = c.args.address.now} refl (fore_fits (part_bytes c.args.address.now) (0 ∷ []) room) (c.write_part-at.ensures.value, c.write_part-at.ensures.out_after) in
    rw parts
    (lays_more first (part_laid {p = []} {q = separator} refl (lays_rest first (0 ∷ []) room) (c.write_part.ensures.value, c.write_part.ensures.out_after)))
