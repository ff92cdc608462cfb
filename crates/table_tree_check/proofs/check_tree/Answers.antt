-- The tree check by its ways out: 14, 11, and the depths that were found.
use Rattle.std.proofs.Common.{◌≡◌, Ok, refl, sym, ap, ◌∙◌, true, ◌≤◌, length, take, arith, length-take-le}
use Rattle.bytes_number.proofs.Buffers.{laid_room}
use Rattle.table_tree.specs.Tree.{ranks_in}
use Rattle.table_tree.specs.Depths.{tree_good, depths_of}
use Rattle.table_tree.proofs.Tree.{whole_few}
use Rattle.table_tree.proofs.Depths.{good_whole}
use Rattle.table_tree_check.proofs.Checking.{into_wrong, into_short, into_right, length_depths, depths_found}
use Rattle.table_tree_check.proofs.check_tree.Goals as goal

pub returns-then-not-find_depths : goal.returns-then-not-find_depths
returns-then-not-find_depths c = rw (into_wrong c.args.tree.now (length c.args.depths.now) (sym c.find_depths.ensures.told ∙ c.if-not-find_depths.true)) (refl, refl)

pub returns-then-depths-n : goal.returns-then-depths-n
returns-then-depths-n c =
    rw (into_short c.args.tree.now (length c.args.depths.now) (sym c.find_depths.ensures.told ∙ c.if-not-find_depths.false) (omega (arith, c.ranks_in-n.ensures)))
    (refl, refl)

pub slice_bounds-found-end : goal.slice_bounds-found-end
slice_bounds-found-end c =
    omega (arith, c.ranks_in-n.ensures, whole_few c.args.tree.now (good_whole c.args.tree.now (sym c.find_depths.ensures.told ∙ c.if-not-find_depths.false)))

pub slice_bounds-copy-end : goal.slice_bounds-copy-end
slice_bounds-copy-end c =
    sym (length-take-le c.ranks_in-n.result c.find_depths.new.depths
    (omega (arith, c.ranks_in-n.ensures, whole_few c.args.tree.now (good_whole c.args.tree.now (sym c.find_depths.ensures.told ∙ c.if-not-find_depths.false)))))

pub returns : goal.returns
returns c =
    let tree = c.args.tree.now in
    let right : tree_good tree ≡ true = sym c.find_depths.ensures.told ∙ c.if-not-find_depths.false in
    let room : ranks_in tree ≤ length c.find_depths.new.depths = omega (arith, whole_few tree (good_whole tree right)) in
    let fits : ranks_in tree ≤ length c.args.depths.now = omega (arith, c.ranks_in-n.ensures) in
    let copied : take c.ranks_in-n.result c.find_depths.new.depths ≡ depths_of tree =
    rw c.ranks_in-n.ensures (depths_found tree c.find_depths.new.depths room (c.find_depths.ensures.found c.if-not-find_depths.false)) in
    rw (into_right tree (length c.args.depths.now) right fits) (
      ap Ok (c.ranks_in-n.ensures ∙ sym (length_depths tree (ranks_in tree))),
      c.copy.ensures ∙ rw copied (laid_room (depths_of tree) c.args.depths.now (omega (arith, fits, length_depths tree (ranks_in tree)))),
    )
