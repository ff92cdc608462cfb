-- The forms of a route and of a topic.
use Rattle.std.specs.Prelude.{ℕ, Bool, true, false, ◌&&◌, ◌||◌, not, List, [], ◌∷◌, ◌++◌, eqb, leb, length, replicate}

-- what may stand at a place of a route
pub data Place : Type 0 where
  hex : Place
  hyphen : Place
  nul : Place

-- "lower-case hex": 0 to 9 and a to f
abbrev pub is_hex : ℕ → Bool
is_hex x = (leb 48 x && leb x 57) || (leb 97 x && leb x 102)

abbrev pub stands : Place → ℕ → Bool
stands hex x = is_hex x
stands hyphen x = eqb x 45
stands nul x = eqb x 0

-- "36 characters, lower-case hex in groups 8-4-4-4-12 with hyphens, then a zero byte"
abbrev pub route_places : List Place
route_places = replicate 8 hex ++ (hyphen ∷ replicate 4 hex) ++ (hyphen ∷ replicate 4 hex) ++ (hyphen ∷ replicate 4 hex) ++ (hyphen ∷ replicate 12 hex) ++ (nul ∷ [])

-- "one 37-byte route": as many as its places
abbrev pub route_length : ℕ
route_length = 37

-- as many bytes as places, and each as its place says
abbrev pub matches : List Place → List ℕ → Bool
matches [] [] = true
matches [] (x ∷ xs) = false
matches (p ∷ ps) [] = false
matches (p ∷ ps) (x ∷ xs) = stands p x && matches ps xs

unfoldable pub is_route : List ℕ → Bool
is_route xs = matches route_places xs

-- "non-zero bytes"
abbrev pub no_zero : List ℕ → Bool
no_zero [] = true
no_zero (x ∷ xs) = not (eqb x 0) && no_zero xs

-- "Topic: 1 to 255 non-zero bytes, then a zero byte; the reader shows it without the zero"
unfoldable pub is_topic : List ℕ → Bool
is_topic xs = leb 1 (length xs) && leb (length xs) 255 && no_zero xs
