-- The call that tells a fault: one law for each way that it ends.
use mathlib.Core.Path.{◌≡◌, refl, subst, ◌∙◌}
use Prim.Native.Nat.{ℕ, ◌<◌, ◌≤◌}
use mathlib.Core.List.{List}
use native.Mathlib.Omega.{arith}
use lib.ListN.{length}
use Rattle.bytes_number.specs.Number.{row_bytes}
use Rattle.bytes_number.specs.WorkingLays.{laid_if_room}
use Rattle.bytes_number.proofs.Buffers.{laid_room}
use Rattle.refusal.specs.declared.Refusal.TheVariants.{OutputShort}
use Rattle.refusal.specs.Refusals.{number_of}
use Rattle.frame_fault.specs.declared.Fault.{Fault}
use Rattle.frame_fault.specs.Fault.{fault_of}
use Rattle.call_specs.specs.FaultCalls.{fault_numbers, TellsFault, ReadsFault}

-- a short record
pub fault_short : {bytes row : List ℕ} {r : ℕ} → length row < 8 → r ≡ number_of OutputShort → ReadsFault bytes row r row
fault_short h e = record { short = λ l. (e, refl); tells = λ l. absurd (omega arith) }

-- a record with room
pub fault_told : {bytes row listed : List ℕ} {r : ℕ} (f : Fault) → 8 ≤ length row → f ≡ fault_of bytes → r ≡ f.number → listed ≡ laid_if_room (row_bytes (fault_numbers f)) row → ReadsFault bytes row r listed
fault_told {row = row} {listed} {r} f h is returns lists =
    record {
      short = λ l. absurd (omega arith);
      tells = λ l. subst (λ (g : Fault). TellsFault g row r listed) is (record { returns = returns; lists = lists ∙ laid_room (row_bytes (fault_numbers f)) row h });
    }
