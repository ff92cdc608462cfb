-- Bytes taken together as one number, and marks on them.
use Rattle.std.specs.List.{prefix_len}
use Rattle.std.specs.Prelude.{◌≡◌, ℕ, ◌+◌, ◌*◌, ◌/◌, List, [], ◌∷◌, length}
use Rattle.std.specs.Int.Count.{count_trailing_zeros}
use Rattle.bytes_number.specs.Number.{Bytes}
use Rattle.json_plain.specs.WorkingPlain.{is_plain}

-- the first byte is the lowest
unfoldable pub word_of : List ℕ → ℕ
word_of [] = 0
word_of (x ∷ xs) = word_of xs * 256 + x

-- which of eight bytes has the lowest mark: 8 if none has one
unfoldable pub lowest_mark : ℕ → ℕ
lowest_mark marks = count_trailing_zeros 64 marks / 8

-- the lowest mark is on the first of a word's bytes that does not stand for itself
abbrev pub Marks : ℕ → ℕ → Type 0
Marks word marks = (xs : List ℕ) → Bytes xs → length xs ≡ 8 → word ≡ word_of xs → lowest_mark marks ≡ prefix_len is_plain xs
