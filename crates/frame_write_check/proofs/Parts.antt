-- Laws on the parts of a frame: a size, parts one after another, and how many bytes a part takes that is there only where its flag is set.
use mathlib.Core.Path.{◌≡◌, refl}
use mathlib.Core.Bool.{Bool, true, false}
use Prim.Native.Nat.{ℕ, ◌+◌, ◌%◌, ◌<◌, ◌≤◌}
use mathlib.Core.List.{List, [], ◌∷◌, append-nil}
use native.Mathlib.Omega.{arith}
use native.Mathlib.Decide.{dec_le}
use native.Mathlib.Nat.{lt_of_not-le}
use lib.ListN.{length, length-append}
use borrow.Author.Tests.{lt-ltb, le-ltb}
use Rattle.frame_message.proofs.Parts.{joined-append}
use Rattle.bytes_number.specs.Number.{four}
use Rattle.frame_message.specs.Frame.{size_bytes, part_bytes, joined, part_if, group_if}
use Rattle.frame_message.specs.Writing.{cut}
use Rattle.frame_write_check.specs.Working.{group_length, part_length}
use Rattle.frame_write_given.proofs.Cuts.{cut-length}

pub size_one : (n : ℕ) → n < 255 → size_bytes n ≡ n ∷ []
size_one n h = rw (lt-ltb n 255 h)

pub size_five : (n : ℕ) → 255 ≤ n → size_bytes n ≡ 255 ∷ four n
size_five n h = rw (le-ltb n 255 h)

-- how many bytes they take
pub part_takes : (given : Bool) (p : List ℕ) → length (joined (part_if given p)) ≡ part_length given (length p)
part_takes true p = rw (append-nil (part_bytes p), length-append)
part_takes false p = refl

pub group_takes : (given : Bool) (routes : List ℕ) → length routes % 37 ≡ 0 → length (joined (group_if given (cut routes))) ≡ group_length given (length routes)
group_takes true routes e = rw (joined-append, length-append, cut-length routes e)
group_takes false routes e = refl

pub part_one : {given : Bool} {n : ℕ} → given ≡ true → n < 255 → part_length given n ≡ n + 1
part_one {n = n} e h = rw (e, size_one n h) (omega arith)

pub part_five : {given : Bool} {n : ℕ} → given ≡ true → 255 ≤ n → part_length given n ≡ n + 5
part_five {n = n} e h = rw (e, size_five n h) (omega arith)

-- a part is at most five bytes longer than its data
pub part_most : (given : Bool) (n : ℕ) → part_length given n ≤ n + 5
part_most true n = go (dec_le 255 n)
  where
    go : Dec (255 ≤ n) → part_length true n ≤ n + 5
    go (yes h) = rw (part_five {given = true} refl h) (omega arith)
    go (no k) = rw (part_one {given = true} refl (lt_of_not-le k)) (omega arith)
part_most false n = omega arith

pub group_most : (given : Bool) (n : ℕ) → group_length given n ≤ n + n + 1
group_most true n = omega arith
group_most false n = omega arith
