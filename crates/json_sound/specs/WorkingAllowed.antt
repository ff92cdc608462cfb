-- The other half of "Say yes exactly for those": what is read to its end the grammar allows, no deeper than there were levels.
use Rattle.std.specs.Prelude.{Result, Ok, Err}
use Rattle.std.specs.Prelude.{◌≡◌, List, [], ℕ}
use Rattle.json_grammar.specs.Json.{payload_to}
use Rattle.json_scan.specs.declared.Fault.TheVariants.{NotJson, TooDeep}
use Rattle.json_scan.specs.Scan.{outer, between, scan}

abbrev pub Allowed : Type 0
Allowed = (most : ℕ) (payload : List ℕ) → scan most (between outer) [] 0 payload ≡ Ok tt → payload_to most payload
