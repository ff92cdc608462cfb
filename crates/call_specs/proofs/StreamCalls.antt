-- The stream call: one law for each way that it ends.
use mathlib.Core.Path.{◌≡◌, refl, ap, ◌∙◌}
use Prim.Native.Nat.{ℕ, ◌<◌, ◌≤◌}
use mathlib.Core.List.{List, [], ◌∷◌}
use native.Mathlib.Omega.{arith}
use lib.ListN.{length}
use Rattle.bytes_number.specs.Number.{row_bytes}
use Rattle.bytes_number.specs.WorkingLays.{laid_if_room}
use Rattle.bytes_number.proofs.Buffers.{laid_room}
use Rattle.refusal.specs.declared.Refusal.TheVariants.{OutputShort}
use Rattle.refusal.specs.Refusals.{number_of}
use Rattle.frame_stream.specs.declared.Stopped.{Stopped}
use Rattle.frame_stream.specs.Stream.{stream_of}
use Rattle.frame_stream.specs.WorkingStream.{Streams}
use Rattle.call_specs.specs.Calls.{stream_numbers, ReadsStream}

-- a short record
pub stream_short : {bytes list row : List ℕ} {r : ℕ} → length row < 12 → r ≡ number_of OutputShort → ReadsStream bytes list row r list row
stream_short h e = record { short = λ l. (e, refl, refl); streams = λ l. absurd (omega arith) }

-- a record with room
pub stream_told : {bytes list row filled listed : List ℕ} {stopped : Stopped} {n : ℕ} → 12 ≤ length row → Streams (stream_of (length list) bytes) list stopped filled → n ≡ number_of stopped.refusal → listed ≡ laid_if_room (row_bytes (stopped.entries ∷ n ∷ stopped.start ∷ [])) row → ReadsStream bytes list row 0 filled listed
stream_told {bytes} {list} {row} {filled} {listed} {stopped} {n} h does number lists =
    let s = stream_of (length list) bytes in
    let numbers : ◌≡◌ {A = List ℕ} (stopped.entries ∷ n ∷ stopped.start ∷ []) (stream_numbers s) =
    ap (λ (k : ℕ). stopped.entries ∷ k ∷ stopped.start ∷ []) number ∙ ap (λ (x : Stopped). x.entries ∷ number_of x.refusal ∷ x.start ∷ []) does.told in
    record {
      short = λ l. absurd (omega arith);
      streams = λ l. record {
        returns = refl;
        fills = does.fills;
        lists = lists ∙ ap (λ (ns : List ℕ). laid_if_room (row_bytes ns) row) numbers ∙ laid_room (row_bytes (stream_numbers s)) row (omega arith);
      };
    }
