-- What was passed on the chain differs, and what is not on the chain differs too.
use Rattle.std.proofs.Common.{arith, sym, ◌∙◌, ◌≡◌, ◌-◌, ℕ, Bool, List}
use lib.Dec.{eqb}
use Rattle.std.specs.Cmp.Lexicographic.{pointwise}
use Rattle.table_records.specs.Bytes.{same_bytes}
use Rattle.table_records.specs.Records.{record_at}
use Rattle.table_distinct.proofs.Chains.{among_start, among_hit, next_less, among_more, among_end}
use Rattle.table_distinct.proofs.look.Goals as goal

-- what `==` says of two records
said : (width : ℕ) (table : List ℕ) (i j : ℕ) (a b : List ℕ) (r : Bool) → a ≡ record_at width table i → b ≡ record_at width table j → r ≡ pointwise eqb a b → same_bytes (record_at width table i) (record_at width table j) ≡ r
unfolding same_bytes
said width table i j a b r e f s = sym (rw (← e, ← f) s)

pub loop-at-init : goal.loop-at-init
loop-at-init c = among_start c.args.width c.args.table.now c.args.i c.args.start c.requires.2

pub returns-then-eq : goal.returns-then-eq
returns-then-eq c =
    among_hit c.args.width c.args.table.now c.args.i c.loop-at.at c.loop-at.invariant (λ e. omega (arith, c.loop-at-test.true))
    (said c.args.width c.args.table.now c.args.i (c.loop-at.at - 1) _ _ _ c.record_at.ensures c.record_at-in-loop-at.ensures c.eq.ensures ∙ c.if-eq.true)

pub loop-at-smaller : goal.loop-at-smaller
loop-at-smaller c = next_less c.args.width c.args.table.now c.args.i c.loop-at.at c.loop-at.invariant (λ e. omega (arith, c.loop-at-test.true)) c.args.next.now c.requires.1

pub loop-at-preserved : goal.loop-at-preserved
loop-at-preserved c =
    among_more c.args.width c.args.table.now c.args.i c.loop-at.at c.loop-at.invariant (λ e. omega (arith, c.loop-at-test.true)) c.args.next.now c.requires.1
    (said c.args.width c.args.table.now c.args.i (c.loop-at.at - 1) _ _ _ c.record_at.ensures c.record_at-in-loop-at.ensures c.eq.ensures ∙ c.if-eq.false)

pub returns : goal.returns
returns c = among_end c.args.width c.args.table.now c.args.i c.loop-at.at (omega arith) c.loop-at.invariant
