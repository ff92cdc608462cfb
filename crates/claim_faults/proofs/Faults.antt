-- The claim of specs/Faults.antt: the fault is the row's, and the record tells it.
use Prim.Native.Nat.{ℕ}
use mathlib.Core.List.{List}
use Rattle.bytes_number.specs.Number.{Bytes}
use Rattle.claim_faults.specs.Faults.{FaultIsTold}
use Rattle.claim_faults.proofs.Told.{fault_told}

pub fault_is_told : (b : List ℕ) → Bytes b → FaultIsTold b
fault_is_told b bytes lent r row room does = fault_told b lent r row bytes (does.tells room)
