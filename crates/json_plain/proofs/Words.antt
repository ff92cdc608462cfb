-- Words: the one at a place, a word less the same byte at each of its places, and the zeros below a number's lowest digit.
use Rattle.std.proofs.Common.{◌≡◌, ℕ, zero, suc, ◌+◌, ◌-◌, ◌*◌, ◌/◌, ◌%◌, ◌^◌, ◌<◌, ◌≤◌, List, length, get_or, take, drop, sym, refl, ap, ◌∙◌, ap₂, suc-le-suc, add-zero, add-suc, suc-add, pow-suc, zero-add, div-one, add-one, one-add, arith, drop-cons, shr-shr}
use native.Mathlib.Nat.{one-le-pow}
use lib.Arith.{lt-one, mod-mul}
use lib.Count.{count_trailing_zeros, under}
use lib.Pow.{mod-pow-add}
use Rattle.json_plain.specs.WorkingWords.{word_of}

-- ---- the word at a place

word_more : (bytes : List ℕ) (at j k : ℕ) → at + j < length bytes → word_of (take (suc k) (drop (at + j) bytes)) ≡ word_of (take k (drop (at + suc j) bytes)) * 256 + get_or bytes (at + j) 0
unfolding word_of
word_more bytes at j k l =
    ap (λ (xs : List ℕ). word_of (take (suc k) xs)) (drop-cons bytes (at + j) 0 l)
    ∙ ap (λ (n : ℕ). word_of (take k (drop n bytes)) * 256 + get_or bytes (at + j) 0) (sym (add-suc at j))

pub word_from :
    (bytes : List ℕ) (at : ℕ) → at + 8 ≤ length bytes → {a b c d e f g h : ℕ} →
    a ≡ get_or bytes at 0 → b ≡ get_or bytes (at + 1) 0 → c ≡ get_or bytes (at + 2) 0 → d ≡ get_or bytes (at + 3) 0 →
    e ≡ get_or bytes (at + 4) 0 → f ≡ get_or bytes (at + 5) 0 → g ≡ get_or bytes (at + 6) 0 → h ≡ get_or bytes (at + 7) 0 →
    a + b * 256 + c * 65536 + d * 16777216 + e * 4294967296 + f * 1099511627776 + g * 281474976710656 + h * 72057594037927936 ≡ word_of (take 8 (drop at bytes))
unfolding word_of
word_from bytes at l is-a is_b is_c is-d is-e is_f is-g is-h =
    let more = word_more bytes at in
    let first : word_of (take 8 (drop at bytes)) ≡ word_of (take 7 (drop (at + 1) bytes)) * 256 + get_or bytes at 0 = rw add-zero at (more 0 7 (omega arith)) in
    let none : word_of (take 0 (drop (at + 8) bytes)) ≡ 0 = refl in
    omega (arith, more 1 6 (omega arith), more 2 5 (omega arith), more 3 4 (omega arith), more 4 3 (omega arith), more 5 2 (omega arith), more 6 1 (omega arith), more 7 0 (omega arith))

-- ---- a word of k bytes less the byte c at each of its places

abbrev pub each : ℕ → ℕ → ℕ
each c zero = 0
each c (suc k) = each c k * 256 + c

pub each_low : (c k : ℕ) → c < 256 → each c (suc k) % 256 ≡ c
each_low c k l = omega arith

pub each_high : (c k : ℕ) → c < 256 → each c (suc k) / 256 ≡ each c k
each_high c k l = omega arith

-- modulo the word's width
abbrev pub Less : ℕ → ℕ → ℕ → ℕ → Type 0
Less c k a d = (d + each c k) % 256 ^ k ≡ a

byte_less : (s c a : ℕ) → s < 256 → c < 256 → (s + c) % 256 ≡ a → s ≡ (a + (256 - c)) % 256
byte_less s c a ls lc e = omega arith

module _ (c k a d : ℕ) (lc : c < 256) (e : Less c (suc k) a d) where
  split : (d + each c (suc k)) / 256 % 256 ^ k * 256 + (d + each c (suc k)) % 256 ≡ a
  split =
      sym (mod-mul (d + each c (suc k)) (one-le-pow k 256 (omega arith)) (omega arith))
      ∙ ap (λ (n : ℕ). (d + each c (suc k)) % n) (sym (pow-suc 256 k))
      ∙ e

  -- the lowest byte
  pub less_low : d % 256 ≡ (a % 256 + (256 - c)) % 256
  less_low = byte_less (d % 256) c (a % 256) (omega arith) lc (omega (arith, split))

  -- the others, where nothing is borrowed from them
  pub less_high : c ≤ a % 256 → Less c k (a / 256) (d / 256)
  less_high l =
      let s = split in
      let sum : d / 256 + each c k ≡ (d + each c (suc k)) / 256 = omega arith in
      ap (λ (n : ℕ). n % 256 ^ k) sum ∙ omega arith

-- ---- the zeros below a number's lowest digit

trailing_past : (j k n : ℕ) → n % 2 ^ j ≡ 0 → count_trailing_zeros (j + k) n ≡ j + count_trailing_zeros k (n / 2 ^ j)
unfolding count_trailing_zeros
trailing_past zero k n e = ap₂ count_trailing_zeros (zero-add k) (sym (div-one n)) ∙ sym (zero-add _)
trailing_past (suc j) k n e =
    let s : n / 2 % 2 ^ j * 2 + n % 2 ≡ 0 = sym (mod-pow-add n j 1) ∙ ap (λ (i : ℕ). n % 2 ^ i) (add-one j) ∙ e in
    let even : n % 2 ≡ 0 = omega arith in
    let on : count_trailing_zeros k (n / 2 / 2 ^ j) ≡ count_trailing_zeros k (n / 2 ^ suc j) = ap (count_trailing_zeros k) (shr-shr n 1 j ∙ ap (λ (i : ℕ). n / 2 ^ i) (one-add j)) in
    let again = trailing_past j k (n / 2) (omega arith) in
    ap (λ (i : ℕ). count_trailing_zeros i n) (suc-add j k) ∙ ap (λ (d : ℕ). under d (count_trailing_zeros (j + k) (n / 2))) even ∙ omega arith

trailing_none : (k n : ℕ) → n % 2 ≡ 1 → count_trailing_zeros (suc k) n ≡ 0
unfolding count_trailing_zeros
trailing_none k n e = ap (λ (d : ℕ). under d (count_trailing_zeros k (n / 2))) e

-- the lowest byte is 0, or has its highest digit only
pub byte_past : (k n : ℕ) → n % 256 ≡ 0 → count_trailing_zeros (suc k * 8) n / 8 ≡ suc (count_trailing_zeros (k * 8) (n / 256) / 8)
byte_past k n e =
    let s : count_trailing_zeros (suc k * 8) n ≡ count_trailing_zeros (8 + k * 8) n = ap (λ (i : ℕ). count_trailing_zeros i n) (omega arith) in
    omega (arith, trailing_past 8 (k * 8) n e)

pub byte_here : (k n : ℕ) → n % 256 ≡ 128 → count_trailing_zeros (suc k * 8) n / 8 ≡ 0
byte_here k n e =
    let s : count_trailing_zeros (suc k * 8) n ≡ count_trailing_zeros (7 + suc (k * 8)) n = ap (λ (i : ℕ). count_trailing_zeros i n) (omega arith) in
    omega (arith, trailing_past 7 (suc (k * 8)) n (omega arith), trailing_none (k * 8) (n / 128) (omega arith))

-- a number that is not 0 has a digit
pub trailing_lt : (k n : ℕ) → n < 2 ^ k → (n ≡ 0 → ⊥) → count_trailing_zeros k n < k
unfolding count_trailing_zeros
trailing_lt zero n l some = absurd (some (lt-one l))
trailing_lt (suc k) n l some = go (trailing_lt k (n / 2) (omega (arith, pow-suc 2 k))) (n % 2) refl
  where
    go : ((n / 2 ≡ 0 → ⊥) → count_trailing_zeros k (n / 2) < k) → (d : ℕ) → n % 2 ≡ d → under d (count_trailing_zeros k (n / 2)) < suc k
    go again zero e = suc-le-suc (again (λ z. some (omega arith)))
    go again (suc d) e = omega arith
