-- One half of "Say yes exactly for those": what the grammar allows, of whatever depth, is read to its end with as many levels.
use Rattle.std.specs.Prelude.{Result, Ok, Err}
use Rattle.std.specs.Prelude.{◌≡◌, List, [], ℕ}
use Rattle.json_grammar.specs.Json.{payload_to}
use Rattle.json_scan.specs.declared.Fault.TheVariants.{NotJson, TooDeep}
use Rattle.json_scan.specs.Scan.{outer, between, scan}

abbrev pub Taken : Type 0
Taken = (depth : ℕ) (payload : List ℕ) → payload_to depth payload → scan depth (between outer) [] 0 payload ≡ Ok tt
