-- The counting that the code does in place of looking at each byte: no promise of a public call speaks of it, and no reader has to believe it.
use Rattle.std.specs.Prelude.{ℕ, ◌+◌, Bool, List, [], ◌∷◌, take, drop}
use Rattle.frame_forms.specs.Count.{one}
use Rattle.frame_forms.specs.Forms.{is_hex}

-- how many bytes pass a test
abbrev pub count : (ℕ → Bool) → List ℕ → ℕ
count test [] = 0
count test (x ∷ xs) = one (test x) + count test xs

-- how many of the n bytes behind the first so many are hex digits
abbrev pub hex_in : ℕ → ℕ → List ℕ → ℕ
hex_in at n xs = count is_hex (take n (drop at xs))
