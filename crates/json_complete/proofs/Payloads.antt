-- A payload that the grammar allows is read to its end, and no level too many is opened.
use mathlib.Core.Path.{◌≡◌, sym, ap, ◌∙◌}
use mathlib.Core.List.{List, [], append-nil}
use Prim.Native.Nat.{ℕ, zero, suc}
use native.Mathlib.Omega.{arith}
use Rattle.json_grammar.specs.Language.{byte, ◌then◌}
use Rattle.json_grammar.specs.Json.{ws, value_to, object, payload_to}
use Rattle.json_scan.specs.Scan.{outer, between, ended, to}
use Rattle.json_sound.proofs.Reach.{reach}
use Rattle.json_sound.proofs.Verdicts.{reached_scan}
use Rattle.json_complete.specs.WorkingTaken.{Taken}
use Rattle.json_complete.proofs.Goes.{Any, Goes, goes_byte, goes_then}
use Rattle.json_complete.proofs.White.{goes_white}
use Rattle.json_complete.proofs.Begins.{value_due, outer_begins, zero_ends}
use Rattle.json_complete.proofs.Values.{goes_value, goes_object}

-- the outer object with white space around it, and the zero byte
goes_payload : (depth : ℕ) → Goes (suc depth) Any (ws then object (value_to depth) then ws then byte 0) (between outer) [] ended []
goes_payload depth =
    goes_then (goes_white (omega arith))
    (goes_then (goes_object outer_begins (omega arith) (goes_value depth value_due (omega arith)))
    (goes_then (goes_white (omega arith))
    (goes_byte zero_ends (omega arith))))

-- every word of the grammar, for any depth
pub payload_reached : (depth : ℕ) (payload : List ℕ) → payload_to depth payload → reach depth (between outer) [] payload ≡ to ended []
unfolding payload_to reach
payload_reached zero payload w = absurd w.second.first
payload_reached (suc depth) payload w =
    ap (reach (suc depth) (between outer) []) (sym (append-nil payload)) ∙ (goes_payload depth).go payload [] w (record {})

pub taken : Taken
taken depth payload w = reached_scan depth payload (between outer) [] [] 0 (payload_reached depth payload w)
