-- One byte between two values.
use mathlib.Core.Path.{◌≡◌, refl, ap, ◌∙◌}
use mathlib.Core.Bool.{false}
use mathlib.Core.List.{List, ◌∷◌}
use Prim.Native.Nat.{ℕ}
use native.Mathlib.Omega.{arith}
use borrow.Author.Tests.{ne_eqb}
use Rattle.json_scan.specs.Scan.{is_white, Kind, in_object, in_array, Due, name, colon, value, behind, between, text, nowhere, to, behind_step, token_move, between_move, move_of}
use Rattle.json_scan.proofs.White.{token_begins}

-- ---- a name and its colon

pub name_begins : (around : List Kind) (c : ℕ) → c ≡ 34 → move_of (between name) around c ≡ to (text colon) around
unfolding move_of between_move token_move is_white
name_begins around c e = ap (move_of (between name) around) e

pub no_name : (around : List Kind) (c : ℕ) → is_white c ≡ false → (c ≡ 34 → ⊥) → move_of (between name) around c ≡ nowhere
unfolding token_move
no_name around c d f = token_begins name around c d ∙ rw (ne_eqb c 34 f) refl

pub colon_stands : (around : List Kind) (c : ℕ) → c ≡ 58 → move_of (between colon) around c ≡ to (between value) around
unfolding move_of between_move token_move is_white
colon_stands around c e = ap (move_of (between colon) around) e

pub no_colon : (around : List Kind) (c : ℕ) → is_white c ≡ false → (c ≡ 58 → ⊥) → move_of (between colon) around c ≡ nowhere
unfolding token_move
no_colon around c d f = token_begins colon around c d ∙ rw (ne_eqb c 58 f) refl

-- ---- behind a value

-- the byte that closes what it stands in
abbrev pub closing : Kind → ℕ
closing in_object = 125
closing in_array = 93

-- what is due behind a comma
abbrev pub again : Kind → Due
again in_object = name
again in_array = value

pub comma : (kind : Kind) (around : List Kind) (c : ℕ) → c ≡ 44 → move_of (between behind) (kind ∷ around) c ≡ to (between (again kind)) (kind ∷ around)
unfolding move_of between_move token_move behind_step is_white
comma in_object around c e = ap (move_of (between behind) (in_object ∷ around)) e
comma in_array around c e = ap (move_of (between behind) (in_array ∷ around)) e

pub closes : (kind : Kind) (around : List Kind) (c : ℕ) → c ≡ closing kind → move_of (between behind) (kind ∷ around) c ≡ to (between behind) around
unfolding move_of between_move token_move behind_step is_white
closes in_object around c e = ap (move_of (between behind) (in_object ∷ around)) e
closes in_array around c e = ap (move_of (between behind) (in_array ∷ around)) e

pub neither : (kind : Kind) (around : List Kind) (c : ℕ) → is_white c ≡ false → (c ≡ 44 → ⊥) → (c ≡ closing kind → ⊥) → move_of (between behind) (kind ∷ around) c ≡ nowhere
unfolding token_move behind_step
neither in_object around c d f g = token_begins behind (in_object ∷ around) c d ∙ rw (ne_eqb c 44 f, ne_eqb c 125 g) refl
neither in_array around c d f g = token_begins behind (in_array ∷ around) c d ∙ rw (ne_eqb c 44 f, ne_eqb c 93 g) refl

-- a zero closes nothing
pub no_zero_closes : (kind : Kind) {c : ℕ} → c ≡ 0 → c ≡ closing kind → ⊥
no_zero_closes in_object z e = omega (arith, z, e)
no_zero_closes in_array z e = omega (arith, z, e)
