-- The first record that registers the service, among the records.
use Rattle.std.proofs.Common.{rules, ℕ, Bool, List, ◌/◌, length, sym, ◌∙◌}
use borrow.Author.Tests.{tests}
use Rattle.std.specs.Simd.{first_chunks}
use Rattle.std.proofs.lemmas.Iterator.{YieldsList-from_slice}
use Rattle.std.proofs.lemmas.Iterator.Search.{position_from_yields_List}
use Rattle.table_records.proofs.Rows.{rows_first}
use Rattle.table_services_find.specs.Lookup.{registers}
use Rattle.table_services_find.proofs.Lookup.{registered_is}
use Rattle.table_services_find.proofs.find_service.Goals as goal

pub returns : goal.returns
returns c =
    let services = c.args.services.now in
    let is : List ℕ → Bool = λ row. registers row c.args.rank c.args.service.now in
    position_from_yields_List is _ _ c.position.result c.position.ensures.ran
    (YieldsList-from_slice (first_chunks 32 (length services / 32) services) (c.iter.ensures.rest ∙ c.as_chunks.ensures.front)) (λ x b q k. search (rules, tests))
    ∙ rows_first is 32 (length services / 32) services
    ∙ sym (registered_is services c.args.rank c.args.service.now)
