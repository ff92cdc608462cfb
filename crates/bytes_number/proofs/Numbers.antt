-- Laws on bytes and on numbers of four bytes.
use mathlib.Core.Path.{◌≡◌, refl}
use Prim.Native.Nat.{ℕ, zero, suc, ◌+◌, ◌*◌, ◌/◌, ◌%◌, ◌<◌, ◌≤◌}
use mathlib.Core.List.{List, [], ◌∷◌, ◌++◌}
use native.Mathlib.Omega.{arith}
use native.Mathlib.Nat.{add-zero, not-suc-le-zero, div-div-eq-div-mul, div-add-mod'}
use lib.ListN.{length, get_or, take, drop}
use lib.Seq.{get_or-drop}
use Rattle.bytes_number.specs.Number.{number, four, Bytes}

-- a list whose every place holds a byte, as the rule for a slice of bytes has it
pub bytes_of_lem : (xs : List ℕ) → ((i : ℕ) → get_or xs i 0 < 256) → Bytes xs
bytes_of_lem [] h = tt
bytes_of_lem (x ∷ xs) h = (h 0, bytes_of_lem xs (λ i. h (suc i)))

pub bytes_at : (xs : List ℕ) (i : ℕ) → Bytes xs → get_or xs i 0 < 256
bytes_at [] i b = omega arith
bytes_at (x ∷ xs) zero b = b.0
bytes_at (x ∷ xs) (suc i) b = bytes_at xs i b.1

pub bytes_take : (n : ℕ) (xs : List ℕ) → Bytes xs → Bytes (take n xs)
bytes_take zero xs b = tt
bytes_take (suc n) [] b = tt
bytes_take (suc n) (x ∷ xs) b = (b.0, bytes_take n xs b.1)

pub bytes_drop : (n : ℕ) (xs : List ℕ) → Bytes xs → Bytes (drop n xs)
bytes_drop zero xs b = b
bytes_drop (suc n) [] b = tt
bytes_drop (suc n) (x ∷ xs) b = bytes_drop n xs b.1

pub number_lt : (xs : List ℕ) → Bytes xs → number xs < 4294967296
number_lt xs b = omega (arith, bytes_at xs 0 b, bytes_at xs 1 b, bytes_at xs 2 b, bytes_at xs 3 b)

-- a number from its digits to the base 256
from_digits : (n q₁ q₂ q₃ r₀ r₁ r₂ : ℕ) → q₁ * 256 + r₀ ≡ n → q₂ * 256 + r₁ ≡ q₁ → q₃ * 256 + r₂ ≡ q₂ → q₃ * 16777216 + r₂ * 65536 + r₁ * 256 + r₀ ≡ n
from_digits n q₁ q₂ q₃ r₀ r₁ r₂ e₀ e₁ e₂ = omega arith

-- the four bytes of a number that fits them are that number
pub number-four : (n : ℕ) (rest : List ℕ) → n < 4294967296 → number (four n ++ rest) ≡ n
number-four n rest h =
    let third : n / 256 / 256 ≡ n / 65536 = div-div-eq-div-mul n 256 256 in
    let fourth : n / 65536 / 256 ≡ n / 16777216 = div-div-eq-div-mul n 65536 256 in
    let top : n / 16777216 % 256 ≡ n / 16777216 = omega arith in
    rw top
    (from_digits n (n / 256) (n / 65536) (n / 16777216) (n % 256) (n / 256 % 256) (n / 65536 % 256) (div-add-mod' n 256)
    (rw third at (div-add-mod' (n / 256) 256))
    (rw fourth at (div-add-mod' (n / 65536) 256)))

-- four bytes are the bytes of their number
pub four-number : (xs : List ℕ) → 4 ≤ length xs → Bytes xs → four (number xs) ≡ take 4 xs
four-number [] h b = absurd (not-suc-le-zero h)
four-number (p ∷ []) h b = absurd (omega arith)
four-number (p ∷ q ∷ []) h b = absurd (omega arith)
four-number (p ∷ q ∷ r ∷ []) h b = absurd (omega arith)
four-number (p ∷ q ∷ r ∷ s ∷ rest) h (bp, (bq, (br, (bs, _)))) =
    let n = p * 16777216 + q * 65536 + r * 256 + s in
    let e₁ : n / 16777216 % 256 ≡ p = omega arith in
    let e₂ : n / 65536 % 256 ≡ q = omega arith in
    let e₃ : n / 256 % 256 ≡ r = omega arith in
    let e₄ : n % 256 ≡ s = omega arith in
    cc

-- the number that four bytes at a place are
pub number_at : (xs : List ℕ) (at : ℕ) → number (get_or xs at 0 ∷ get_or xs (at + 1) 0 ∷ get_or xs (at + 2) 0 ∷ get_or xs (at + 3) 0 ∷ []) ≡ number (drop at xs)
number_at xs at = rw (get_or-drop at xs 0 0, get_or-drop at xs 1 0, get_or-drop at xs 2 0, get_or-drop at xs 3 0, add-zero) refl
