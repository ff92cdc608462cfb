-- Each record is of a route's form, among the records.
use Rattle.std.proofs.Common.{rules, ◌/◌, length, ◌∙◌}
use borrow.Author.Tests.{tests}
use Rattle.std.specs.Simd.{first_chunks}
use Rattle.std.proofs.lemmas.Iterator.{YieldsList-from_slice}
use Rattle.std.proofs.lemmas.Iterator.Search.{all_from_yields_List}
use Rattle.frame_forms.specs.Forms.{is_route}
use Rattle.table_records.proofs.Rows.{rows_all}
use Rattle.table_identities_check.proofs.are_routes.Goals as goal

pub returns : goal.returns
returns c =
    let identities = c.args.identities.now in
    all_from_yields_List is_route _ _ c.all.result c.all.ensures.ran
    (YieldsList-from_slice (first_chunks 37 (length identities / 37) identities) (c.iter.ensures.rest ∙ c.as_chunks.ensures.front)) (λ x b q k. search (rules, tests))
    ∙ rows_all is_route 37 (length identities / 37) identities
