-- The marks on a word, byte by byte: as long as bytes stand for themselves nothing is borrowed from those above them, and the first that does not is
-- marked, whatever is marked above it.
use Rattle.std.specs.List.{prefix_len}
use Rattle.std.proofs.Common.{◌≡◌, ℕ, zero, suc, ◌+◌, ◌*◌, ◌/◌, ◌%◌, ◌<◌, ◌≤◌, Bool, true, false, cond, ◌&&◌, eqb, leb, List, [], ◌∷◌, length, sym, refl, ap, ◌∙◌, subst, ap₂, ⊎_elim, le_of_suc-le-suc, not-suc-le-zero, eq-or-lt_of_le, arith, eqb-true, leb-true}
use lib.Bits.{bit_and, bit_or, bit_xor, and_mod, or_mod, xor_mod, and_shr, or_shr, xor_shr}
use lib.Count.{count_trailing_zeros}
use Rattle.bytes_number.specs.Number.{Bytes}
use Rattle.bytes_number.proofs.Truth.{and_left, and_right}
use Rattle.json_scan.specs.Scan.{is_within}
use Rattle.json_plain.specs.WorkingPlain.{is_plain}
use Rattle.json_plain.specs.WorkingWords.{word_of, lowest_mark, Marks}
use Rattle.json_plain.proofs.Words.{each, each_low, each_high, Less, less_low, less_high, byte_past, byte_here}

-- the marks on a word by its three differences
abbrev pub gathered : ℕ → ℕ → ℕ → ℕ → ℕ
gathered control quote backslash high = bit_and (bit_or (bit_or control quote) backslash) high

-- ---- one byte

abbrev mark : ℕ → ℕ
mark c = gathered ((c + 224) % 256) ((bit_xor c 34 + 255) % 256) ((bit_xor c 92 + 255) % 256) 128

-- one that stands for itself has no mark and borrows nothing, and any other has one: computed for each
abbrev clear : ℕ → Bool
clear c = eqb (mark c) 0 && (leb 32 c && (leb 1 (bit_xor c 34) && leb 1 (bit_xor c 92)))

abbrev right : ℕ → Bool
right c = cond (is_plain c) (clear c) (eqb (mark c) 128)

right_below : ℕ → Bool
right_below zero = true
right_below (suc n) = right_below n && right n

all_right : right_below 256 ≡ true
unfolding right_below is_plain is_within
all_right = refl

right_at : (n c : ℕ) → c < n → right_below n ≡ true → right c ≡ true
unfolding right_below
right_at zero c l a = absurd (not-suc-le-zero l)
right_at (suc n) c l a =
    ⊎_elim (λ e. rw e (and_right (right_below n) (right n) a)) (λ m. right_at n c m (and_left (right_below n) (right n) a)) (eq-or-lt_of_le (le_of_suc-le-suc l))

record Clear (c : ℕ) : Type 0 where
  none : mark c ≡ 0
  text : 32 ≤ c
  quote : 1 ≤ bit_xor c 34
  backslash : 1 ≤ bit_xor c 92

plain_clear : (c : ℕ) → c < 256 → is_plain c ≡ true → Clear c
plain_clear c l e =
    let q = leb 1 (bit_xor c 34) in
    let b = leb 1 (bit_xor c 92) in
    let h : clear c ≡ true = ap (λ (p : Bool). cond p (clear c) (eqb (mark c) 128)) (sym e) ∙ right_at 256 c l all_right in
    let h₁ = and_right (eqb (mark c) 0) (leb 32 c && (q && b)) h in
    let h₂ = and_right (leb 32 c) (q && b) h₁ in
    record {
      none = eqb-true (mark c) 0 (and_left (eqb (mark c) 0) (leb 32 c && (q && b)) h);
      text = leb-true 32 c (and_left (leb 32 c) (q && b) h₁);
      quote = leb-true 1 (bit_xor c 34) (and_left q b h₂);
      backslash = leb-true 1 (bit_xor c 92) (and_right q b h₂);
    }

other_marked : (c : ℕ) → c < 256 → is_plain c ≡ false → mark c ≡ 128
other_marked c l e = eqb-true (mark c) 128 (ap (λ (p : Bool). cond p (clear c) (eqb (mark c) 128)) (sym e) ∙ right_at 256 c l all_right)

-- ---- the lowest byte of a word, and the others

gathered_low : (p q r m : ℕ) → gathered p q r m % 256 ≡ gathered (p % 256) (q % 256) (r % 256) (m % 256)
gathered_low p q r m =
    and_mod (bit_or (bit_or p q) r) m 8
    ∙ ap (λ (t : ℕ). bit_and t (m % 256)) (or_mod (bit_or p q) r 8 ∙ ap (λ (t : ℕ). bit_or t (r % 256)) (or_mod p q 8))

gathered_high : (p q r m : ℕ) → gathered p q r m / 256 ≡ gathered (p / 256) (q / 256) (r / 256) (m / 256)
gathered_high p q r m =
    and_shr (bit_or (bit_or p q) r) m 8
    ∙ ap (λ (t : ℕ). bit_and t (m / 256)) (or_shr (bit_or p q) r 8 ∙ ap (λ (t : ℕ). bit_or t (r / 256)) (or_shr p q 8))

-- the difference by which the byte c is found: only where it stands is there less than 1
abbrev pub Found : ℕ → ℕ → ℕ → ℕ → Type 0
Found c k w d = Less 1 k (bit_xor w (each c k)) d

module _ (c k w d : ℕ) (lc : c < 256) (e : Found c (suc k) w d) where
  xor_low : bit_xor w (each c (suc k)) % 256 ≡ bit_xor (w % 256) c
  xor_low = xor_mod w (each c (suc k)) 8 ∙ ap (bit_xor (w % 256)) (each_low c k lc)

  found_low : d % 256 ≡ (bit_xor (w % 256) c + 255) % 256
  found_low = less_low 1 k _ d (omega arith) e ∙ ap (λ (n : ℕ). (n + 255) % 256) xor_low

  found_high : 1 ≤ bit_xor (w % 256) c → Found c k (w / 256) (d / 256)
  found_high l =
      less_high 1 k _ d (omega arith) e (omega (arith, xor_low)) ∙ xor_shr w (each c (suc k)) 8 ∙ ap (bit_xor (w / 256)) (each_high c k lc)

module _ (k w p q r : ℕ) (dp : Less 32 (suc k) w p) (dq : Found 34 (suc k) w q) (dr : Found 92 (suc k) w r) where
  marks_low : gathered p q r (each 128 (suc k)) % 256 ≡ mark (w % 256)
  marks_low =
      gathered_low p q r (each 128 (suc k))
      ∙ ap₂ (λ (x y : ℕ). gathered x y (r % 256) (each 128 (suc k) % 256)) (less_low 32 k w p (omega arith) dp) (found_low 34 k w q (omega arith) dq)
      ∙ ap₂ (λ (x y : ℕ). gathered ((w % 256 + 224) % 256) ((bit_xor (w % 256) 34 + 255) % 256) x y) (found_low 92 k w r (omega arith) dr) (each_low 128 k (omega arith))

  marks_high : gathered p q r (each 128 (suc k)) / 256 ≡ gathered (p / 256) (q / 256) (r / 256) (each 128 k)
  marks_high = gathered_high p q r (each 128 (suc k)) ∙ ap (gathered (p / 256) (q / 256) (r / 256)) (each_high 128 k (omega arith))

-- ---- the whole word

abbrev lowest_in : ℕ → ℕ → ℕ
lowest_in k marks = count_trailing_zeros (k * 8) marks / 8

one_more : {a b : ℕ} → a ≡ b → suc a ≡ 1 + b
one_more e = omega (arith, e)

marks_in :
    (xs : List ℕ) (w p q r : ℕ) → Bytes xs → w ≡ word_of xs → Less 32 (length xs) w p → Found 34 (length xs) w q → Found 92 (length xs) w r →
    lowest_in (length xs) (gathered p q r (each 128 (length xs))) ≡ prefix_len is_plain xs
unfolding word_of count_trailing_zeros
marks_in [] w p q r b is dp dq dr = refl
marks_in (x ∷ xs) w p q r b is dp dq dr =
    go (marks_in xs (w / 256) (p / 256) (q / 256) (r / 256) b.1 (omega (arith, b.0))) (is_plain (w % 256)) refl
    ∙ ap (λ (c : ℕ). cond (is_plain c) (1 + prefix_len is_plain xs) 0) (omega (arith, b.0))
  where
    k : ℕ
    k = length xs

    go :
        (Less 32 k (w / 256) (p / 256) → Found 34 k (w / 256) (q / 256) → Found 92 k (w / 256) (r / 256) →
        lowest_in k (gathered (p / 256) (q / 256) (r / 256) (each 128 k)) ≡ prefix_len is_plain xs) →
        (t : Bool) → is_plain (w % 256) ≡ t → lowest_in (suc k) (gathered p q r (each 128 (suc k))) ≡ cond t (1 + prefix_len is_plain xs) 0
    go again true e =
        let u = plain_clear (w % 256) (omega arith) e in
        byte_past k _ (marks_low k w p q r dp dq dr ∙ u.none)
        ∙ ap (λ (n : ℕ). suc (lowest_in k n)) (marks_high k w p q r dp dq dr)
        ∙ one_more (again (less_high 32 k w p (omega arith) dp u.text) (found_high 34 k w q (omega arith) dq u.quote) (found_high 92 k w r (omega arith) dr u.backslash))
    go again false e = byte_here k _ (marks_low k w p q r dp dq dr ∙ other_marked (w % 256) (omega arith) e)

pub marks_of : (w p q r : ℕ) → Less 32 8 w p → Found 34 8 w q → Found 92 8 w r → Marks w (gathered p q r (each 128 8))
unfolding lowest_mark
marks_of w p q r dp dq dr xs b l is =
    subst (λ (k : ℕ). Less 32 k w p → Found 34 k w q → Found 92 k w r → lowest_in k (gathered p q r (each 128 k)) ≡ prefix_len is_plain xs) l (marks_in xs w p q r b is) dp dq dr
