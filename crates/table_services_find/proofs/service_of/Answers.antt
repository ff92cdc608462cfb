-- A service ends at the first period, or with the topic.
use Rattle.std.proofs.Common.{rules, ◌∙◌, ◌==◌, sym}
use borrow.Author.Tests.{tests}
use Rattle.std.proofs.lemmas.Iterator.{YieldsList-from_slice}
use Rattle.std.proofs.lemmas.Iterator.Search.{position_from_yields_List}
use Rattle.table_services_find.proofs.Topics.{service_before, service_whole}
use Rattle.table_services_find.proofs.service_of.Goals as goal

pub returns-in-Some : goal.returns-in-Some
returns-in-Some c =
    service_before c.args.topic.now c.in-Some.end
    (sym c.in-Some.is ∙ position_from_yields_List (λ x. x == 46) _ _ c.position.result c.position.ensures.ran (YieldsList-from_slice c.args.topic.now c.iter.ensures.rest) (λ x b q k. search (rules, tests)))

pub returns-in-None : goal.returns-in-None
returns-in-None c =
    service_whole c.args.topic.now
    (sym c.in-None.is ∙ position_from_yields_List (λ x. x == 46) _ _ c.position.result c.position.ensures.ran (YieldsList-from_slice c.args.topic.now c.iter.ensures.rest) (λ x b q k. search (rules, tests)))
