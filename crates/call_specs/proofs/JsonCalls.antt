-- The JSON call: one law for each way that it ends.
use Rattle.std.specs.Prelude.{Result, Ok, Err}
use mathlib.Core.Path.{◌≡◌, refl, subst, ◌∙◌}
use Prim.Native.Nat.{ℕ, ◌<◌, ◌≤◌}
use mathlib.Core.List.{List}
use native.Mathlib.Omega.{arith}
use lib.ListN.{length}
use Rattle.bytes_number.specs.Number.{row_bytes}
use Rattle.bytes_number.specs.WorkingLays.{laid_if_room}
use Rattle.bytes_number.proofs.Buffers.{laid_room}
use Rattle.refusal.specs.declared.Refusal.TheVariants.{OutputShort}
use Rattle.refusal.specs.Refusals.{number_of}
use Rattle.json_scan.specs.Scan.{Verdict}
use Rattle.json_scan.specs.declared.Fault.TheVariants.{NotJson, TooDeep}
use Rattle.json_scan.specs.Scan.{verdict_of}
use Rattle.call_specs.specs.JsonCalls.{json_return, json_numbers, TellsJson, ChecksJson}

-- a short record
pub json_short : {payload row : List ℕ} {r : ℕ} → length row < 8 → r ≡ number_of OutputShort → ChecksJson payload row r row
json_short h e = record { short = λ l. (e, refl); checks = λ l. absurd (omega arith) }

-- a record with room
pub json_told : {payload row listed : List ℕ} {r : ℕ} (v : Verdict) → 8 ≤ length row → v ≡ verdict_of payload → r ≡ json_return v → listed ≡ laid_if_room (row_bytes (json_numbers v)) row → ChecksJson payload row r listed
json_told {payload} {row} {listed} {r} v h says returns lists =
    record {
      short = λ l. absurd (omega arith);
      checks = λ l. subst (λ (w : Verdict). TellsJson w row r listed) says (record { returns = returns; lists = lists ∙ laid_room (row_bytes (json_numbers v)) row (room v) });
    }
  where
    room : (w : Verdict) → length (row_bytes (json_numbers w)) ≤ length row
    room (Ok tt) = h
    room (Err (NotJson byte)) = h
    room (Err (TooDeep byte)) = h
