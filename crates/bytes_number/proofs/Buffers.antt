-- Laws on bytes laid over the front of a buffer.
use mathlib.Core.Path.{◌≡◌, refl, ap}
use Prim.Native.Nat.{ℕ, ◌+◌, ◌-◌, ◌<◌, ◌≤◌}
use mathlib.Core.List.{List, [], ◌∷◌, ◌++◌, append_assoc}
use native.Mathlib.Omega.{arith}
use native.Mathlib.Decide.{dec_le}
use native.Mathlib.Nat.{lt_of_not-le}
use borrow.Author.Tests.{le-leb, lt-leb}
use lib.ListN.{length, take, drop, set, length-append, length-drop}
use lib.Seq.{take_at, drop_at, drop-drop}
use borrow.Author.Rules.{part_to_end}
use borrow.Rule.Slice.PartMut.{mid_of, put_mid, same_len_mid}
use Rattle.bytes_number.specs.Laid.{laid}
use Rattle.bytes_number.specs.WorkingLays.{laid_if_room, laid_count}

pub laid_room : (xs out : List ℕ) → length xs ≤ length out → laid_if_room xs out ≡ laid xs out
laid_room xs out h = simp (le-leb _ _ h)

pub laid_none : (xs out : List ℕ) → length out < length xs → laid_if_room xs out ≡ out
laid_none xs out h = simp (lt-leb _ _ h)

-- how many bytes are laid
pub count_room : (xs out : List ℕ) → length xs ≤ length out → laid_count xs out ≡ length xs
count_room xs out h = simp (le-leb _ _ h)

pub count_none : (xs out : List ℕ) → length out < length xs → laid_count xs out ≡ 0
count_none xs out h = simp (lt-leb _ _ h)

pub count_most : (xs out : List ℕ) → laid_count xs out ≤ length out
count_most xs out = go (dec_le (length xs) (length out))
  where
    go : Dec (length xs ≤ length out) → laid_count xs out ≤ length out
    go (yes h) = rw (count_room xs out h) h
    go (no h) = rw (count_none xs out (lt_of_not-le h)) (omega arith)

pub length-laid : (xs out : List ℕ) → length xs ≤ length out → length (laid xs out) ≡ length out
length-laid xs out h = simp (length-append, length-drop) (omega arith)

-- a buffer whose rest behind a place was lent is as long as it was, whatever was done there
pub length_lent : (at : ℕ) (out last : List ℕ) → length last ≡ length (mid_of at (length out - at) out) → length (put_mid at (length out - at) out last) ≡ length out
length_lent at out last h = same_len_mid at (length out - at) out last h

-- it has room there for what fits behind the place
pub room_lent : (at : ℕ) (out : List ℕ) {n : ℕ} → at + n ≤ length out → n ≤ length (mid_of at (length out - at) out)
room_lent at out h = omega (arith, ap length (part_to_end out at), length-drop at out)

-- and what was laid there, however much, ends in the buffer
pub count_within : (xs : List ℕ) (at : ℕ) (out : List ℕ) {n : ℕ} → at ≤ length out → n ≡ laid_count xs (mid_of at (length out - at) out) → at + n ≤ length out
count_within xs at out h e = omega (arith, count_most xs (mid_of at (length out - at) out), ap length (part_to_end out at), length-drop at out)

-- what lies behind bytes that were laid over a buffer, lent on and laid over in its turn
pub laid_more : (w x out : List ℕ) → take (length w) (laid w out) ++ laid x (drop (length w) (laid w out)) ≡ laid (w ++ x) out
laid_more w x out =
    rw (take_at w (drop (length w) out) (length w) refl, drop_at w (drop (length w) out) (length w) refl, drop-drop, length-append, append_assoc)

-- four stores at the front
pub four_stores : (out : List ℕ) (a b c d : ℕ) → 4 ≤ length out → set (set (set (set out 0 a) 1 b) 2 c) 3 d ≡ laid (a ∷ b ∷ c ∷ d ∷ []) out
four_stores [] a b c d h = absurd (omega arith)
four_stores (p ∷ []) a b c d h = absurd (omega arith)
four_stores (p ∷ q ∷ []) a b c d h = absurd (omega arith)
four_stores (p ∷ q ∷ r ∷ []) a b c d h = absurd (omega arith)
four_stores (p ∷ q ∷ r ∷ s ∷ rest) a b c d h = refl
