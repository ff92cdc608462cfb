-- As many bytes are taken as are the word's from its front on: all of them, or the next one is another.
use Rattle.std.proofs.Common.{◌≡◌, ◌∙◌, rules, drop, arith}
use Rattle.std.proofs.lemmas.Iterator.{YieldsList-from_slice, YieldsList-from_zip}
use Rattle.std.proofs.lemmas.Iterator.Consumers.{count_from_yields_List}
use Rattle.std.proofs.lemmas.Iterator.Search.{YieldsList-from_take_while}
use Rattle.std.proofs.lemmas.List.Folds.{length-prefix_len}
use Rattle.std.specs.List.{prefix_len, zip}
use Rattle.json_scalar.proofs.Steps.{same, spelled, broken}
use Rattle.json_scalar.proofs.literal_end.Goals as goal
use Rattle.json_scalar.proofs.literal_end.Goals.{After-count-passed}

counted : (c : After-count-passed) → c.count-passed.result ≡ prefix_len same (zip (drop c.args.at c.args.bytes.now) c.args.word.now)
counted c =
    let pairs = zip (drop c.args.at c.args.bytes.now) c.args.word.now in
    count_from_yields_List c.take_while.result _ c.count-passed.ensures.ran
    (YieldsList-from_take_while _ same (YieldsList-from_zip (YieldsList-from_slice (drop c.args.at c.args.bytes.now) cc) (YieldsList-from_slice c.args.word.now cc)) c.take_while.ensures.closure c.take_while.ensures.done (λ x b q k. search rules))
    ∙ length-prefix_len same pairs

pub returns-then-passed-word : goal.returns-then-passed-word
returns-then-passed-word c = spelled c.args.word.now c.args.at (drop c.args.at c.args.bytes.now) (counted (goal.at.returns-then-passed-word c).After-count-passed) (omega arith)

pub returns-else-passed-word : goal.returns-else-passed-word
returns-else-passed-word c = broken c.args.word.now c.args.at (drop c.args.at c.args.bytes.now) (counted (goal.at.returns-else-passed-word c).After-count-passed) (λ e. omega (arith, e))
