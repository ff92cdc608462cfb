-- The size in front of a part, by its first byte.
use mathlib.Core.Path.{◌≡◌, refl, sym, ap, ◌∙◌}
use Prim.Native.Nat.{ℕ, ◌<◌, ◌≤◌}
use native.Mathlib.Nat.{add-zero}
use mathlib.Core.Bool.{Bool, true, false}
use mathlib.Core.List.{List, ◌++◌}
use borrow.Author.Tests.{lt-ltb, le-ltb, ltb-true, ltb-false}
use lib.Dec.{ltb}
use lib.ListN.{length, get_or, drop}
use lib.Seq.{get_or-drop}
use Rattle.frame_message.specs.Frame.{size_bytes, part_bytes}
use Rattle.frame_message.proofs.Parts.{part_short, part_long}
use Rattle.frame_fault.specs.WorkingFaults.{size_length}

pub short_size : (first : ℕ) → first < 255 → size_length first ≡ 1
short_size first h = rw (lt-ltb first 255 h)

pub long_size : (first : ℕ) → 255 ≤ first → size_length first ≡ 5
long_size first h = rw (le-ltb first 255 h)

-- the first byte of a part tells how long its size is
pub part_size : (p rest : List ℕ) → size_length (get_or (part_bytes p ++ rest) 0 0) ≡ length (size_bytes (length p))
part_size p rest = go (ltb (length p) 255) refl
  where
    go : (t : Bool) → ltb (length p) 255 ≡ t → size_length (get_or (part_bytes p ++ rest) 0 0) ≡ length (size_bytes (length p))
    go true t = rw (part_short p (ltb-true _ _ t), t)
    go false t = rw (part_long p (ltb-false _ _ t), t)

-- at a place of a body
pub byte_there : (body : List ℕ) (at : ℕ) {s : List ℕ} → drop at body ≡ s → get_or body at 0 ≡ get_or s 0 0
byte_there body at e = ap (λ (k : ℕ). get_or body k 0) (sym (add-zero at)) ∙ sym (get_or-drop at body 0 0) ∙ ap (λ (s : List ℕ). get_or s 0 0) e

pub size_there : (body : List ℕ) (at : ℕ) (p rest : List ℕ) → drop at body ≡ part_bytes p ++ rest → size_length (get_or body at 0) ≡ length (size_bytes (length p))
size_there body at p rest e = ap size_length (byte_there body at e) ∙ part_size p rest
