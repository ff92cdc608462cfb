-- White space is passed, and then the byte stands there or another.
use Rattle.std.proofs.Common.{sym, arith}
use Rattle.json_scan.proofs.White.{token_told, token_there}
use Rattle.json_separators.proofs.Names.{mark_stands, mark_missing}
use Rattle.json_separators.proofs.mark_end.Goals as goal

pub returns-then-first-mark : goal.returns-then-first-mark
returns-then-first-mark c = sym (mark_missing c.args.mark c.args.bytes.now c.args.at c.token_at-first.ensures (λ e. omega (arith, e)))

pub overflow_add-result : goal.overflow_add-result
overflow_add-result c = let l = token_there (token_told _ _ c.token_at-first.ensures) (λ e. omega (arith, e)) in omega (arith, l)

pub returns : goal.returns
returns c = sym (mark_stands c.args.mark c.args.bytes.now c.args.at c.token_at-first.ensures (omega arith))
