-- Whether all that `chunks_exact` yields are of the form.
use Rattle.std.proofs.Common.{arith, ◌≡◌, ◌∙◌, sym, rules, true, false}
use borrow.Author.Tests.{tests}
use Rattle.std.proofs.lemmas.Iterator.{cases_from_all}
use Rattle.frame_forms.specs.Forms.{is_route}
use Rattle.frame_message.specs.Writing.{cut}
use Rattle.frame_write_given.proofs.Cuts.{routes_few}
use Rattle.frame_write_given.proofs.Chunks.{routes_yielded, all_tested}
use Rattle.frame_write_given.proofs.routes_good.Goals as goal

pub returns : goal.returns
returns c =
    let routes = c.args.routes.now in
    let yields = routes_yielded c.chunks_exact.result (record { size = c.chunks_exact.ensures.size; whole = rw c.chunks_exact.ensures.rest (omega arith) }) {xs = routes} c.chunks_exact.ensures.rest in
    all_tested (cut routes) c.all.result
    (cases_from_all _ _ _ (λ r. is_route r ≡ true) (λ r. is_route r ≡ false) c.all.ensures.ran yields (λ x q k. search (rules, tests)) (λ x q k. search (rules, tests)))
    ∙ sym (routes_few routes (omega arith))
