-- The first identity that is the route, among the records.
use Rattle.std.proofs.Common.{rules, ℕ, Bool, List, ◌/◌, length, sym, ◌∙◌}
use borrow.Author.Tests.{tests}
use Rattle.std.specs.Simd.{first_chunks}
use Rattle.std.proofs.lemmas.Iterator.{YieldsList-from_slice}
use Rattle.std.proofs.lemmas.Iterator.Search.{position_from_yields_List}
use Rattle.table_records.proofs.Rows.{rows_first}
use Rattle.table_identities.specs.Identities.{same_identity}
use Rattle.table_identities.proofs.Identities.{broker_is}
use Rattle.table_identities.proofs.find_broker.Goals as goal

pub returns : goal.returns
returns c =
    let identities = c.args.identities.now in
    let is : List ℕ → Bool = λ identity. same_identity identity c.args.route.now in
    position_from_yields_List is _ _ c.position.result c.position.ensures.ran
    (YieldsList-from_slice (first_chunks 37 (length identities / 37) identities) (c.iter.ensures.rest ∙ c.as_chunks.ensures.front)) (λ x b q k. search (rules, tests))
    ∙ rows_first is 37 (length identities / 37) identities
    ∙ sym (broker_is identities c.args.route.now)
