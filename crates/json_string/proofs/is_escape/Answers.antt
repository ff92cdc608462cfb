-- Eight bytes may stand behind a backslash.
use Rattle.std.proofs.Common.{rules}
use Rattle.json_string.proofs.Bytes.{escape_one, escape_none}
use Rattle.json_string.proofs.is_escape.Goals as goal

pub returns-in-34 : goal.returns-in-34
returns-in-34 c = escape_one c.args.c c.in-34.is

pub returns-in_default : goal.returns-in_default
returns-in_default c = escape_none c.args.c (search rules)
