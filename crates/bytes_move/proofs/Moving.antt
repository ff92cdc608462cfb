-- Laws on a buffer that is cleared byte by byte, and on bytes that are moved within it.
use mathlib.Core.Path.{◌≡◌, refl, sym, ap, ◌∙◌}
use Prim.Native.Nat.{ℕ, zero, suc, ◌+◌, ◌<◌, ◌≤◌}
use native.Mathlib.Numerals.{add-one}
use mathlib.Core.List.{List, [], ◌∷◌, ◌++◌}
use borrow.Author.Tests.{le-leb, lt-leb}
use lib.Dec.{leb}
use lib.ListN.{length, get_or, drop, set, replicate}
use lib.Seq.{drop-cons, drop-length, set_at}
use Rattle.bytes_number.proofs.Truth.{and_right_fails}
use Rattle.bytes_move.specs.WorkingMoved.{moved, moved_if_room, zeros}

-- ---- clearing

length-zeros : (i : ℕ) → length {A = ℕ} (replicate i 0) ≡ i
length-zeros zero = refl
length-zeros (suc i) = ap suc (length-zeros i)

zeros_more : (i : ℕ) (ys : List ℕ) → replicate i 0 ++ (0 ∷ ys) ≡ replicate (suc i) 0 ++ ys
zeros_more zero ys = refl
zeros_more (suc i) ys = ap (λ (l : List ℕ). 0 ∷ l) (zeros_more i ys)

-- the bytes in front of i are cleared
pub clear_more : (xs : List ℕ) (i : ℕ) → i < length xs → set (replicate i 0 ++ drop i xs) i 0 ≡ replicate (i + 1) 0 ++ drop (i + 1) xs
clear_more xs i h =
    ap (λ (l : List ℕ). set (replicate i 0 ++ l) i 0) (drop-cons xs i 0 h) ∙ set_at (replicate i 0) (get_or xs i 0) (drop (suc i) xs) 0 i (length-zeros i)
    ∙ zeros_more i (drop (suc i) xs) ∙ ap (λ (k : ℕ). replicate k 0 ++ drop k xs) (sym (add-one i))

pub clear_all : (xs : List ℕ) (i : ℕ) → i ≡ length xs → replicate i 0 ++ drop i xs ≡ zeros xs
clear_all xs i e = ap (λ (k : ℕ). replicate k 0 ++ drop k xs) e ∙ ap (λ (l : List ℕ). zeros xs ++ l) (drop-length xs) ∙ append-none (zeros xs)
  where
    append-none : (l : List ℕ) → l ++ [] ≡ l
    append-none [] = refl
    append-none (x ∷ l) = ap (λ (t : List ℕ). x ∷ t) (append-none l)

-- ---- moving, by the tests in front of it

pub moved_room : (from to n : ℕ) (buffer : List ℕ) → n ≤ 32768 → from + n ≤ length buffer → to + n ≤ length buffer → moved_if_room from to n buffer ≡ moved from to n buffer
moved_room from to n buffer few f t = rw (le-leb n 32768 few, le-leb (from + n) (length buffer) f, le-leb (to + n) (length buffer) t)

module _ (from to n : ℕ) (buffer : List ℕ) where
  pub moved-many : 32768 < n → moved_if_room from to n buffer ≡ buffer
  moved-many h = rw (lt-leb n 32768 h)

  pub moved_from : length buffer < from + n → moved_if_room from to n buffer ≡ buffer
  moved_from h = rw (lt-leb (from + n) (length buffer) h, and_right_fails (leb n 32768) refl)

  pub moved_to : length buffer < to + n → moved_if_room from to n buffer ≡ buffer
  moved_to h = rw (lt-leb (to + n) (length buffer) h, and_right_fails (leb (from + n) (length buffer)) refl, and_right_fails (leb n 32768) refl)
