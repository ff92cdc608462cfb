-- Where a reader of a token comes to.
use Rattle.std.specs.List.{prefix_len}
use Rattle.std.specs.Prelude.{Bool, cond, List, [], ◌∷◌, ℕ, ◌+◌, eqb, take, drop, get_or, Result, Ok, Err}
use Rattle.json_scan.specs.declared.Token.{Token}
use Rattle.json_scan.specs.Scan.{is_white, Class, holds}

-- where the bytes end that begin at a place and pass a test
abbrev pub end_of : (ℕ → Bool) → List ℕ → ℕ → ℕ
end_of test bytes at = at + prefix_len test (drop at bytes)

-- behind white space, with the byte there: 0 behind the end
unfoldable pub token_at : List ℕ → ℕ → Token
token_at bytes from = record { at = end_of is_white bytes from; byte = get_or bytes (end_of is_white bytes from) 0 }

-- how far the reader of a token came: behind what it read, or to a byte that cannot stand there, or the end
abbrev pub Reached : Type 0
Reached = Result ℕ ℕ

-- where the rest of a token ends, if these bytes are still to come: behind the last of them, or where another stands or none
unfoldable pub rest_end : List Class → ℕ → List ℕ → Reached
rest_end [] at xs = Ok at
rest_end (k ∷ ks) at [] = Err at
rest_end (k ∷ ks) at (x ∷ xs) = cond (holds k x) (rest_end ks (at + 1) xs) (Err at)

-- where so many bytes end that pass a test: behind the last of them, or where another stands or none
abbrev pub run_of : (ℕ → Bool) → ℕ → ℕ → List ℕ → Reached
run_of test count at xs = let m = prefix_len test (take count xs) in cond (eqb m count) (Ok (at + m)) (Err (at + m))

-- one reader behind another, as long as none stops
abbrev pub followed : Reached → (ℕ → Reached) → Reached
followed (Ok i) next = next i
followed (Err i) next = Err i
