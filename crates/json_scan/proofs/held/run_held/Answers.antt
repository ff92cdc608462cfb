-- Of so many bytes as many are taken as pass at their front: all of them, or the next one does not.
use Rattle.std.proofs.Common.{◌≡◌, ◌∙◌, rules, take, drop, arith}
use Rattle.std.proofs.lemmas.Iterator.{YieldsList-from_slice, YieldsList-from_take}
use Rattle.std.proofs.lemmas.Iterator.Consumers.{count_from_yields_List}
use Rattle.std.proofs.lemmas.Iterator.Search.{YieldsList-from_take_while}
use Rattle.std.proofs.lemmas.List.Folds.{length-prefix_len}
use Rattle.std.specs.List.{prefix_len}
use Rattle.json_scan.proofs.Rest.{run_whole, run_part}
use Rattle.json_scan.proofs.held.run_held.Given.{Over}
use Rattle.json_scan.proofs.held.run_held.Goals as goal
use Rattle.json_scan.proofs.held.run_held.Goals.{After-count-passed}

counted : (g : Over) (c : After-count-passed g) → c.count-passed.result ≡ prefix_len (g.T.HeldTest.test c.args.test.now) (take c.args.count (drop c.args.at c.args.bytes.now))
counted g c =
    let test = g.T.HeldTest.test c.args.test.now in
    let rest = drop c.args.at c.args.bytes.now in
    count_from_yields_List c.take_while.result _ c.count-passed.ensures.ran
    (YieldsList-from_take_while _ test (YieldsList-from_take c.args.count (YieldsList-from_slice rest cc) cc) c.take_while.ensures.closure c.take_while.ensures.done (λ x b q k. search rules))
    ∙ length-prefix_len test (take c.args.count rest)

pub returns-then-passed-count : goal.returns-then-passed-count
returns-then-passed-count g c =
    run_whole (g.T.HeldTest.test c.args.test.now) c.args.count c.args.at (drop c.args.at c.args.bytes.now) (counted g (goal.at.returns-then-passed-count g c).After-count-passed) (omega arith) (omega arith)

pub returns-else-passed-count : goal.returns-else-passed-count
returns-else-passed-count g c =
    run_part (g.T.HeldTest.test c.args.test.now) c.args.count c.args.at (drop c.args.at c.args.bytes.now) (counted g (goal.at.returns-else-passed-count g c).After-count-passed) (omega arith) (λ e. omega (arith, e))
