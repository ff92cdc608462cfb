-- A word with no mark is passed, and the lowest mark is where it ends; so it is with the bytes behind the words.
use Rattle.std.proofs.Common.{◌≡◌, ◌+◌, ◌∙◌, rules, arith}
use Rattle.bytes_number.proofs.Numbers.{bytes_of_lem}
use Rattle.json_scan.specs.WorkingEnds.{end_of}
use Rattle.json_plain.specs.WorkingPlain.{is_plain}
use Rattle.json_plain.proofs.Passing.{Told, told}
use Rattle.json_plain.proofs.plain_end.Goals as goal
use Rattle.json_plain.proofs.plain_end.Goals.{After-marks-here, After-marks-next}

-- the two words of a turn
first : (c : After-marks-here) → Told c.args.bytes.now c.loop-i.i c.marks-here.result
first c = told _ _ _ _ (bytes_of_lem c.args.bytes.now (λ k. (c.type_inv.bytes k).fits)) (omega arith) c.word_at.ensures c.marks-here.ensures (omega arith)

first_passed : (c : After-marks-next) → end_of is_plain c.args.bytes.now c.loop-i.i ≡ end_of is_plain c.args.bytes.now (c.loop-i.i + 8)
first_passed c =
    let t : Told c.args.bytes.now c.loop-i.i c.marks-here.result = told _ _ _ _ (bytes_of_lem c.args.bytes.now (λ k. (c.type_inv.bytes k).fits)) (omega arith) c.word_at.ensures c.marks-here.ensures (omega arith) in
    t.passes c.if-here-ne0.false

second : (c : After-marks-next) → Told c.args.bytes.now (c.loop-i.i + 8) c.marks-next.result
second c = told _ _ _ _ (bytes_of_lem c.args.bytes.now (λ k. (c.type_inv.bytes k).fits)) (omega arith) c.word_at-in-loop-i.ensures c.marks-next.ensures (omega arith)

pub returns-then-here-ne0 : goal.returns-then-here-ne0
returns-then-here-ne0 c = let s = first (goal.at.returns-then-here-ne0 c).After-marks-here in
    omega (arith, s.stops (λ e. omega (arith, c.if-here-ne0.true)))

pub returns-then-next-ne0 : goal.returns-then-next-ne0
returns-then-next-ne0 c = let s = (goal.at.returns-then-next-ne0 c).After-marks-next in
    omega (arith, first_passed s, (second s).stops (λ e. omega (arith, c.if-next-ne0.true)))

pub loop-i-preserved : goal.loop-i-preserved
loop-i-preserved c = let s = (goal.at.loop-i-preserved c).After-marks-next in
    c.loop-i.invariant ∙ first_passed s ∙ (second s).passes (omega (arith, c.if-next-ne0.false))

pub returns : goal.returns
returns c = search rules
