-- Numbers of four bytes. "All integers are big endian." (paper 01, A frame)
use Rattle.std.specs.Prelude.{ℕ, ◌+◌, ◌*◌, ◌/◌, ◌%◌, ◌<◌, List, [], ◌∷◌, ◌++◌, get_or, drop}

-- the number in the first four bytes of xs
abbrev pub number : List ℕ → ℕ
number xs = get_or xs 0 0 * 16777216 + get_or xs 1 0 * 65536 + get_or xs 2 0 * 256 + get_or xs 3 0

-- the four bytes of n
abbrev pub four : ℕ → List ℕ
four n = (n / 16777216 % 256) ∷ (n / 65536 % 256) ∷ (n / 256 % 256) ∷ (n % 256) ∷ []

-- a row of numbers: "four big-endian numbers" (paper 01), one after another
abbrev pub row_bytes : List ℕ → List ℕ
row_bytes [] = []
row_bytes (n ∷ ns) = four n ++ row_bytes ns

-- and the number with the index i in such a row
abbrev pub number_in : List ℕ → ℕ → ℕ
number_in row i = number (drop (4 * i) row)

-- each element is a byte: true of whatever stands in a slice of bytes
abbrev pub Bytes : List ℕ → Type 0
Bytes [] = Unit {0}
Bytes (x ∷ xs) = (x < 256) × Bytes xs
