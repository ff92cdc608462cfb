-- The hex digits of a route, counted in three stretches of 16 bytes.
use mathlib.Core.Path.{◌≡◌, refl, sym, ap, ◌∙◌}
use mathlib.Core.Bool.{Bool, true, false, ◌&&◌, ◌||◌, and-false}
use Prim.Native.Nat.{ℕ, ◌+◌, ◌<◌, ◌≤◌}
use mathlib.Core.List.{List}
use native.Mathlib.Omega.{arith}
use native.Mathlib.Nat.{zero-add, add-zero}
use lib.Dec.{eqb, leb}
use lib.ListN.{length, get_or, take, drop, length-drop}
use lib.Seq.{take-add, drop-drop, get_or-drop, take-length}
use borrow.Author.Tests.{lt-leb, leb-true}
use Rattle.frame_forms.specs.Count.{one}
use Rattle.frame_forms.specs.Working.{count, hex_in}
use Rattle.frame_forms.specs.Forms.{is_hex}
use Rattle.frame_forms.proofs.Counts.{same_test, count-append, count_more, count-take_le}

-- a byte is no digit and letter both
pub digit_or_letter : (x : ℕ) → one (leb 48 x && leb x 57) + one (leb 97 x && leb x 102) ≡ one (is_hex x)
digit_or_letter x = by_letter (leb 97 x) refl
  where
    by_letter : (t : Bool) → leb 97 x ≡ t → one (leb 48 x && leb x 57) + one (leb 97 x && leb x 102) ≡ one (is_hex x)
    by_letter true e = rw (lt-leb x 57 (omega (arith, leb-true 97 x e)), and-false) (zero-add (one (leb 97 x && leb x 102)))
    by_letter false e = rw e (by_digit (leb 48 x && leb x 57))
      where
        by_digit : (t : Bool) → one t + 0 ≡ one (t || false)
        by_digit true = refl
        by_digit false = refl

module _ (xs : List ℕ) where
  -- a stretch in two
  hex_in_split : (at m n : ℕ) → hex_in at (m + n) xs ≡ hex_in at m xs + hex_in (at + m) n xs
  hex_in_split at m n =
      ap (count is_hex) (take-add m n (drop at xs))
      ∙ count-append is_hex (take m (drop at xs)) (take n (drop m (drop at xs)))
      ∙ ap (λ (rest : List ℕ). hex_in at m xs + count is_hex (take n rest)) (drop-drop m at xs)

  -- one byte more
  pub hex_in_more : (at i : ℕ) → at + i < length xs → hex_in at (i + 1) xs ≡ hex_in at i xs + one (is_hex (get_or xs (at + i) 0))
  hex_in_more at i h =
      count_more is_hex (drop at xs) i (rw (length-drop at xs) (omega arith))
      ∙ ap (λ (x : ℕ). hex_in at i xs + one (is_hex x)) (get_or-drop at xs i 0)

  pub hex_in_le : (at n : ℕ) → hex_in at n xs ≤ n
  hex_in_le at n = count-take_le is_hex (drop at xs) n

  -- up to a byte that is no hex digit, and the rest
  hex_in_pass : (at p n : ℕ) → at + p < length xs → is_hex (get_or xs (at + p) 0) ≡ false → hex_in at (p + (1 + n)) xs ≤ p + hex_in (at + p + 1) n xs
  hex_in_pass at p n h e =
      let one-there : hex_in (at + p) 1 xs ≡ 0 = hex_in_more (at + p) 0 (omega arith) ∙ rw (add-zero (at + p), e) refl in
      omega (arith, one-there, hex_in_split at p (1 + n), hex_in_split (at + p) 1 n, hex_in_le at p)

  -- The whole, cut in front of byte 20 and behind byte 31. The middle is in two of the three stretches. With the hyphens in place there are
  -- at most 17, 11 and 4 digits, so that 43 are counted exactly if all are there.
  pub in_stretches :
      length xs ≡ 37
      → get_or xs 8 0 ≡ 45
      → get_or xs 13 0 ≡ 45
      → get_or xs 18 0 ≡ 45
      → get_or xs 23 0 ≡ 45
      → get_or xs 36 0 ≡ 0
      → eqb (hex_in 0 16 xs + hex_in 16 16 xs + hex_in 20 16 xs) 43 ≡ eqb (count is_hex xs) 32
  in_stretches h e₈ e₁₃ e₁₈ e₂₃ e₃₆ =
      same_test {a = hex_in 0 16 xs + hex_in 16 16 xs + hex_in 20 16 xs} {b = 43} {c = count is_hex xs} {d = 32} (λ e. omega (arith, cuts, whole, left, middle, right)) (λ e. omega (arith, cuts, whole, left, middle, right))
    where
      cuts : hex_in 0 16 xs + hex_in 16 16 xs + hex_in 20 16 xs ≡ hex_in 0 20 xs + hex_in 20 12 xs + (hex_in 20 12 xs + hex_in 32 4 xs)
      cuts = omega (arith, hex_in_split 0 16 16, hex_in_split 0 20 12, hex_in_split 20 12 4)

      whole : count is_hex xs ≡ hex_in 0 20 xs + hex_in 20 12 xs + hex_in 32 5 xs
      whole = ap (count is_hex) (sym (take-length xs) ∙ ap (λ (n : ℕ). take n xs) h) ∙ omega (arith, hex_in_split 0 32 5, hex_in_split 0 20 12)

      left : hex_in 0 20 xs ≤ 17
      left =
          omega
          (arith, hex_in_pass 0 8 11 (omega arith) (ap is_hex e₈), hex_in_pass 9 4 6 (omega arith) (ap is_hex e₁₃), hex_in_pass 14 4 1 (omega arith) (ap is_hex e₁₈), hex_in_le 19 1)

      middle : hex_in 20 12 xs ≤ 11
      middle = omega (arith, hex_in_pass 20 3 8 (omega arith) (ap is_hex e₂₃), hex_in_le 24 8)

      right : (hex_in 32 5 xs ≤ 4) × (hex_in 32 4 xs ≤ hex_in 32 5 xs) × (hex_in 32 5 xs ≤ hex_in 32 4 xs)
      right =
          let end = hex_in_pass 36 0 0 (omega arith) (ap is_hex e₃₆) in
          let none = hex_in_le 37 0 in
          (omega (arith, hex_in_split 32 4 1, hex_in_le 32 4, end, none), omega (arith, hex_in_split 32 4 1), omega (arith, hex_in_split 32 4 1, end, none))
