-- Of so many bytes as many are taken as pass at their front: all of them, or the next one does not.
use Rattle.std.proofs.Common.{◌≡◌, ◌∙◌, rules, take, drop, arith}
use Rattle.std.proofs.lemmas.Iterator.{YieldsList-from_slice, YieldsList-from_take}
use Rattle.std.proofs.lemmas.Iterator.Consumers.{count_from_yields_List}
use Rattle.std.proofs.lemmas.Iterator.Search.{YieldsList-from_take_while}
use Rattle.std.proofs.lemmas.List.Folds.{length-prefix_len}
use Rattle.std.specs.List.{prefix_len}
use Rattle.json_scan.specs.Scan.{holds}
use Rattle.json_scan.proofs.Rest.{run_passed, run_stopped}
use Rattle.json_scan.proofs.run_end.Goals as goal

pub returns-then-passed-count : goal.returns-then-passed-count
returns-then-passed-count g c =
    let k = g.K.OfClass.class in
    let some = take c.args.count (drop c.args.at c.args.bytes.now) in
    let counted : c.count-passed.result ≡ prefix_len (holds k) some =
    count_from_yields_List c.take_while.result _ c.count-passed.ensures.ran
    (YieldsList-from_take_while _ (holds k) (YieldsList-from_take c.args.count (YieldsList-from_slice (drop c.args.at c.args.bytes.now) cc) cc) c.take_while.ensures.closure c.take_while.ensures.done (λ x b q k. search rules))
    ∙ length-prefix_len (holds k) some in
    run_passed k c.args.count c.args.at (drop c.args.at c.args.bytes.now) (omega (arith, counted)) (omega arith)

pub returns-else-passed-count : goal.returns-else-passed-count
returns-else-passed-count g c =
    let k = g.K.OfClass.class in
    let some = take c.args.count (drop c.args.at c.args.bytes.now) in
    let counted : c.count-passed.result ≡ prefix_len (holds k) some =
    count_from_yields_List c.take_while.result _ c.count-passed.ensures.ran
    (YieldsList-from_take_while _ (holds k) (YieldsList-from_take c.args.count (YieldsList-from_slice (drop c.args.at c.args.bytes.now) cc) cc) c.take_while.ensures.closure c.take_while.ensures.done (λ x b q k. search rules))
    ∙ length-prefix_len (holds k) some in
    run_stopped k c.args.count c.args.at (drop c.args.at c.args.bytes.now) (omega (arith, counted)) (λ e. omega (arith, e))
