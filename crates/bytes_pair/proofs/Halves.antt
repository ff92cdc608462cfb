-- The two halves of a number of eight bytes.
use mathlib.Core.Path.{◌≡◌, sym, ap, ◌∙◌}
use Prim.Native.Nat.{ℕ, ◌+◌, ◌*◌, ◌/◌, ◌%◌}
use mathlib.Core.List.{List, ◌++◌}
use native.Mathlib.Omega.{arith}
use Rattle.bytes_number.specs.Number.{four}

high : (m n : ℕ) → (m % 4294967296 * 4294967296 + n % 4294967296) / 4294967296 ≡ m % 4294967296
high m n = omega arith

low : (m n : ℕ) → (m % 4294967296 * 4294967296 + n % 4294967296) % 4294967296 ≡ n % 4294967296
low m n = omega arith

byte_3 : (k : ℕ) → k % 4294967296 / 16777216 % 256 ≡ k / 16777216 % 256
byte_3 k = omega arith

byte_2 : (k : ℕ) → k % 4294967296 / 65536 % 256 ≡ k / 65536 % 256
byte_2 k = omega arith

byte_1 : (k : ℕ) → k % 4294967296 / 256 % 256 ≡ k / 256 % 256
byte_1 k = omega arith

byte_0 : (k : ℕ) → k % 4294967296 % 256 ≡ k % 256
byte_0 k = omega arith

four_same : (k : ℕ) → four (k % 4294967296) ≡ four k
four_same k = rw (byte_3 k, byte_2 k, byte_1 k, byte_0 k)

pub pair_of : (w m n : ℕ) → w ≡ m % 4294967296 * 4294967296 + n % 4294967296 → four (w / 4294967296) ++ four w ≡ four m ++ four n
pair_of w m n e =
    let one : four (w / 4294967296) ≡ four m = ap (λ (k : ℕ). four (k / 4294967296)) e ∙ ap four (high m n) ∙ four_same m in
    let two : four w ≡ four n = sym (four_same w) ∙ ap (λ (k : ℕ). four (k % 4294967296)) e ∙ ap four (low m n) ∙ four_same n in
    ap (λ (xs : List ℕ). xs ++ four w) one ∙ ap (λ (xs : List ℕ). four m ++ xs) two
