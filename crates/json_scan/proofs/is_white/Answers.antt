-- White space is the four bytes, and what is above the blank is none.
use Rattle.std.proofs.Common.{arith}
use Rattle.json_scan.proofs.Bytes.{white_blank, white_tab, white_none}
use Rattle.json_scan.proofs.is_white.Goals as goal

pub returns-then-c-gt32 : goal.returns-then-c-gt32
returns-then-c-gt32 c = white_none c.args.c (λ e. omega arith) (λ e. omega arith) (λ e. omega arith) (λ e. omega arith)

pub returns-in_default : goal.returns-in_default
returns-in_default c = white_none c.args.c (λ e. omega arith) (λ e. omega arith) (λ e. omega arith) (λ e. omega arith)

pub returns-in_default-2 : goal.returns-in_default-2
returns-in_default-2 c = white_none c.args.c (λ e. grind arith) (λ e. omega arith) (λ e. omega arith) (λ e. grind arith)

pub returns-in-32 : goal.returns-in-32
returns-in-32 c = white_blank c.args.c c.in-32.is

pub returns-in-32-2 : goal.returns-in-32-2
returns-in-32-2 c = white_tab c.args.c (omega arith) (omega arith)
