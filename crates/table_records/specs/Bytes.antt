-- Bytes compared, one by one and to the end of both: what `==` says of two slices.
use Rattle.std.specs.Prelude.{ℕ, Bool, List, eqb}
use Rattle.std.specs.Cmp.Lexicographic.{pointwise}

unfoldable pub same_bytes : List ℕ → List ℕ → Bool
same_bytes xs ys = pointwise eqb xs ys
