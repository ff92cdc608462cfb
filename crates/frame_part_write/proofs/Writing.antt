-- A part that is written: a law for each of the ways through `write_part`.
use mathlib.Core.Path.{◌≡◌, sym, ap, subst}
use Prim.Native.Nat.{ℕ, ◌+◌, ◌-◌, ◌<◌, ◌≤◌}
use mathlib.Core.List.{List, [], ◌∷◌, ◌++◌}
use native.Mathlib.Omega.{arith}
use lib.ListN.{length, set}
use borrow.Author.Tests.{lt-ltb, le-ltb}
use borrow.Rule.Slice.PartMut.{mid_of, put_mid}
use Rattle.bytes_number.specs.Number.{four}
use Rattle.bytes_number.specs.WorkingLays.{laid_if_room, laid_count, Lays}
use Rattle.bytes_number.proofs.Buffers.{laid_none, count_none}
use Rattle.bytes_number.proofs.Laying.{lays_none, lays_byte, lays_leaf, lays_counted, counted_lays}
use Rattle.frame_message.specs.Frame.{part_bytes}

-- what is told and what is left
abbrev pub Written : List ℕ → List ℕ → List ℕ → ℕ → Type 0
Written p out left n = (n ≡ laid_count (part_bytes p) out) × (left ≡ laid_if_room (part_bytes p) out)

-- an output whose rest behind a place was lent on
abbrev behind : ℕ → List ℕ → List ℕ → List ℕ
behind at out last = put_mid at (length out - at) out last

abbrev from : ℕ → List ℕ → List ℕ
from at out = mid_of at (length out - at) out

-- where there is room, the part of these bytes is laid
pub part_laid : {p q lent left : List ℕ} {n : ℕ} → q ≡ p → length (part_bytes p) ≤ length lent → Written q lent left n → Lays (part_bytes p) lent left n
part_laid {p} {q} {lent} {left} {n} e h told = let same = subst (λ (xs : List ℕ). Written xs lent left n) e told in
    lays_counted h same.0 same.1

-- all that is laid is the part
all_laid : (p : List ℕ) {w out left : List ℕ} {m n : ℕ} → w ≡ part_bytes p → length w ≤ length out → n ≡ m → Lays w out left n → Written p out left m
all_laid p e h k l = rw (← e, ← k) (counted_lays h l)

no_room : (p out : List ℕ) → length out < length (part_bytes p) → Written p out out 0
no_room p out h = (sym (count_none (part_bytes p) out h), sym (laid_none (part_bytes p) out h))

module _ (p out : List ℕ) where
  module _ (short : length p < 255) where
    short_bytes : (length p ∷ []) ++ p ≡ part_bytes p
    short_bytes = rw (lt-ltb (length p) 255 short)

    pub short_no_room : length out < length p + 1 → Written p out out 0
    short_no_room h = no_room p out (omega (arith, ap length short_bytes))

    -- a byte is stored, and the data laid behind it
    pub short_written : length p + 1 ≤ length out → {last : List ℕ} → last ≡ laid_if_room p (from 1 (set out 0 (length p))) → {n : ℕ} → n ≡ length p + 1 → Written p out (behind 1 (set out 0 (length p)) last) n
    short_written h e k = all_laid p short_bytes (omega arith) (omega (arith, k)) (lays_leaf (lays_byte (lays_none out) (length p) (omega arith)) p (omega arith) e)

  module _ (long : 255 ≤ length p) where
    long_bytes : (255 ∷ four (length p)) ++ p ≡ part_bytes p
    long_bytes = rw (le-ltb (length p) 255 long)

    pub long_no_room : length out < length p + 5 → Written p out out 0
    long_no_room h = no_room p out (omega (arith, ap length long_bytes))

    -- a byte is stored, four bytes laid behind it, and the data behind those
    pub long_written : length p + 5 ≤ length out → {first last : List ℕ} → first ≡ laid_if_room (four (length p)) (from 1 (set out 0 255)) → last ≡ laid_if_room p (from 5 (behind 1 (set out 0 255) first)) → {n : ℕ} → n ≡ length p + 5 → Written p out (behind 5 (behind 1 (set out 0 255) first) last) n
    long_written h e f k =
        all_laid p long_bytes (omega arith) (omega (arith, k))
        (lays_leaf (lays_leaf (lays_byte (lays_none out) 255 (omega arith)) (four (length p)) (omega arith) e) p (omega arith) f)
