-- Where a name with its colon ends, and what stands behind a value within an object or an array.
use Rattle.std.specs.Prelude.{Result, Ok, Err}
use Rattle.std.specs.Prelude.{cond, List, [], ◌∷◌, ℕ, ◌+◌, eqb, drop}
use Rattle.json_scan.specs.WorkingEnds.{Reached}
use Rattle.json_scan.specs.Scan.{is_white}
use Rattle.json_scan.specs.WorkingEnds.{end_of, token_at, followed}
use Rattle.json_string.specs.WorkingText.{text_end}
use Rattle.json_separators.specs.declared.Next.{Next}
use Rattle.json_separators.specs.declared.Next.TheVariants.{More, Closed}

-- this byte, behind white space
unfoldable pub mark_end : ℕ → List ℕ → ℕ → Reached
mark_end mark bytes at = let t = token_at bytes at in cond (eqb t.byte mark) (Ok (t.at + 1)) (Err t.at)

-- a quotation mark, what stands up to the closing one, and a colon
unfoldable pub name_end : List ℕ → ℕ → Reached
name_end bytes at = followed (mark_end 34 bytes at) (λ i. followed (text_end i (drop i bytes)) (λ j. mark_end 58 bytes j))

-- at a byte that is no white space, by the byte that closes what the value stands in
unfoldable pub next_at : ℕ → ℕ → List ℕ → Result Next ℕ
next_at close at [] = Err at
next_at close at (c ∷ cs) = cond (eqb c close) (Ok (Closed (at + 1))) (cond (eqb c 44) (Ok (More (at + 1))) (Err at))

unfoldable pub next_of : ℕ → List ℕ → ℕ → Result Next ℕ
next_of close bytes at = let i = end_of is_white bytes at in next_at close i (drop i bytes)
