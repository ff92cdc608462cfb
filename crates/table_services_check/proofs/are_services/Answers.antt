-- The table by what may be wrong with it: too many records, a record cut off, a record not of the form, and then a service that is there twice.
use Rattle.std.proofs.Common.{rules, ◌≡◌, ◌&&◌, ◌/◌, ℕ, Bool, List, length, refl, sym, ◌∙◌, arith}
use borrow.Author.Tests.{tests, eq-eqb, eqb-true, eqb-false}
use lib.Dec.{eqb}
use Rattle.std.specs.List.{list_all}
use Rattle.std.specs.Simd.{first_chunks}
use Rattle.std.proofs.lemmas.Iterator.{YieldsList-from_slice}
use Rattle.std.proofs.lemmas.Iterator.Search.{all_from_yields_List}
use Rattle.bytes_number.proofs.Numbers.{bytes_of_lem}
use Rattle.table_records.specs.Below.{all_below}
use Rattle.table_records.proofs.Below.{all_agree}
use Rattle.table_records.proofs.Rows.{rows_all}
use Rattle.table_records.proofs.Records.{length_record}
use Rattle.table_tree.specs.Tree.{ranks_in}
use Rattle.table_services.specs.Services.{services_in, service_at, service_good}
use Rattle.table_services.proofs.Services.{services_are}
use Rattle.table_services_check.proofs.Checking.{bad_many, bad_torn, bad_all, rest_distinct}
use Rattle.table_services_check.proofs.are_services.Goals as goal

pub returns-then-records-gt-MOST_RECORDS : goal.returns-then-records-gt-MOST_RECORDS
returns-then-records-gt-MOST_RECORDS c = sym (bad_many c.args.tree.now c.args.services.now (omega (arith, c.as_chunks.ensures.front_len, services_are c.args.services.now)))

pub returns-then-not-is_empty : goal.returns-then-not-is_empty
returns-then-not-is_empty c =
    sym (bad_torn c.args.tree.now c.args.services.now
    (λ e. eqb-false (length c.as_chunks.result.1.now) 0 (sym c.is_empty.ensures ∙ c.if-not-is_empty.true) (omega (arith, services_are c.args.services.now, c.as_chunks.ensures.back_len, e))))

-- the closure's answers are those of the table
forms : (tree services : List ℕ) {ranks : ℕ} {said : Bool} → ranks ≡ ranks_in tree
    → said ≡ list_all (λ row. eqb (length row) 32 && service_good ranks row) (first_chunks 32 (length services / 32) services)
    → all_below (services_in services) (λ i. service_good (ranks_in tree) (service_at services i)) ≡ said
forms tree services {ranks} r e =
    rw (services_are services)
    (sym (e ∙ rows_all (λ row. eqb (length row) 32 && service_good ranks row) 32 (length services / 32) services
    ∙ all_agree (λ i. eqb (length (service_at services i)) 32 && service_good ranks (service_at services i)) (λ i. service_good (ranks_in tree) (service_at services i)) (length services / 32)
    (λ i h. rw (eq-eqb (length (service_at services i)) 32 (length_record 32 i services (omega arith)), r) refl)))

pub returns-then-not-all : goal.returns-then-not-all
returns-then-not-all c =
    let services = c.args.services.now in
    sym (bad_all c.args.tree.now services
    (forms c.args.tree.now services c.ranks_in-ranks.ensures
    (all_from_yields_List (λ row. eqb (length row) 32 && service_good c.ranks_in-ranks.result row) _ _ c.all.result c.all.ensures.ran
    (YieldsList-from_slice (first_chunks 32 (length services / 32) services) (c.iter.ensures.rest ∙ c.as_chunks.ensures.front)) (λ x b q k. search (rules, tests)))
    ∙ c.if-not-all.true))

pub returns : goal.returns
returns c =
    let services = c.args.services.now in
    let torn = eqb-true (length c.as_chunks.result.1.now) 0 (sym c.is_empty.ensures ∙ c.if-not-is_empty.false) in
    let all =
    forms c.args.tree.now services c.ranks_in-ranks.ensures
    (all_from_yields_List (λ row. eqb (length row) 32 && service_good c.ranks_in-ranks.result row) _ _ c.all.result c.all.ensures.ran
    (YieldsList-from_slice (first_chunks 32 (length services / 32) services) (c.iter.ensures.rest ∙ c.as_chunks.ensures.front)) (λ x b q k. search (rules, tests)))
    ∙ c.if-not-all.false
    in
    c.are_distinct.ensures
    ∙ rw (c.as_chunks.ensures.front_len, ← services_are services)
    (sym (rest_distinct c.args.tree.now services (bytes_of_lem services (λ i. (c.type_inv.services i).fits)) (omega (arith, services_are services, c.as_chunks.ensures.back_len, torn)) (omega (arith, services_are services, c.as_chunks.ensures.front_len)) all))
