-- The groups of four in front that are equal, among the pairs of groups.
use Rattle.std.proofs.Common.{rules, arith, ◌∙◌, ◌/◌, length, refl}
use borrow.Author.Tests.{tests}
use Rattle.std.specs.List.{zip}
use Rattle.std.specs.Simd.{first_chunks}
use Rattle.std.proofs.lemmas.Iterator.{YieldsList-from_slice, YieldsList-from_zip}
use Rattle.std.proofs.lemmas.Iterator.Consumers.{YieldsList-at, count_from_yields_List}
use Rattle.std.proofs.lemmas.Iterator.Search.{YieldsList-from_take_while}
use Rattle.std.proofs.lemmas.List.Folds.{length-prefix_len}
use Rattle.table_records.specs.Bytes.{same_bytes}
use Rattle.table_records.proofs.Front.{are_same, groups_front}
use Rattle.table_records.proofs.equal_front.Goals as goal

pub returns : goal.returns
unfolding same_bytes
returns c =
    let a = c.args.a.now in
    let b = c.args.b.now in
    let groups = first_chunks 4 (length a / 4) a in
    let others = first_chunks 4 (length b / 4) b in
    let pairs =
    YieldsList-from_zip
    (YieldsList-at c.zip.ensures.first (YieldsList-from_slice groups (c.iter.ensures.rest ∙ c.as_chunks.ensures.front)))
    (YieldsList-at c.zip.ensures.second (YieldsList-from_slice others (c.iter-2.ensures.rest ∙ c.as_chunks-2.ensures.front)))
    in
    let count =
    count_from_yields_List c.take_while.result _ c.count-equal.ensures.ran
    (YieldsList-from_take_while _ are_same (YieldsList-at c.take_while.ensures.source pairs) c.take_while.ensures.closure c.take_while.ensures.done (λ x t q k. search (rules, tests)))
    ∙ length-prefix_len are_same (zip groups others)
    in
    omega (arith, count, groups_front (length a / 4) (length b / 4) a b (omega arith) refl)
