-- 1, 2 and 3 are what was tested, and then the body is all there.
use Rattle.std.proofs.Common.{arith, sym, ◌∙◌}
use Rattle.frame_read.proofs.Opening.{open_short, open_start, open_long, open_cut, opened}
use Rattle.frame_read.proofs.find_body.Goals as goal

pub returns-then-bytes-lt-FRONT : goal.returns-then-bytes-lt-FRONT
returns-then-bytes-lt-FRONT c = record { early = omega arith; refuses = open_short c.args.bytes.now (omega arith) }

pub returns-then-not-starts_right : goal.returns-then-not-starts_right
returns-then-not-starts_right c =
    record { early = omega arith; refuses = open_start c.args.bytes.now (omega arith) (sym c.starts_right.ensures ∙ c.if-not-starts_right.true) }

pub returns-then-size-gt-MOST_BODY : goal.returns-then-size-gt-MOST_BODY
returns-then-size-gt-MOST_BODY c =
    let start = sym c.starts_right.ensures ∙ c.if-not-starts_right.false in
    record { early = omega arith; refuses = open_long c.args.bytes.now (omega arith) start _ c.number_at-size.ensures (omega arith) }

pub returns-then-bytes-end : goal.returns-then-bytes-end
returns-then-bytes-end c =
    let start = sym c.starts_right.ensures ∙ c.if-not-starts_right.false in
    record { early = omega arith; refuses = open_cut c.args.bytes.now (omega arith) start _ c.number_at-size.ensures (omega arith) (omega arith) }

pub returns : goal.returns
returns c =
    let start = sym c.starts_right.ensures ∙ c.if-not-starts_right.false in
    opened c.args.bytes.now (omega arith) start _ c.number_at-size.ensures (omega arith) (omega arith)
