-- A route by counting: with the hyphens and the zero byte in place, 32 hex digits are a route.
use mathlib.Core.Path.{◌≡◌, refl, sym, ap, ◌∙◌}
use mathlib.Core.Bool.{Bool, true, false, ◌&&◌, and-false}
use Prim.Native.Nat.{ℕ, zero, suc, ◌+◌, ◌<◌, ◌≤◌}
use mathlib.Core.List.{List, [], ◌∷◌, ◌++◌}
use native.Mathlib.Omega.{arith}
use native.Mathlib.Nat.{zero-add, add-zero, le_of_suc-le-suc, not-suc-le-zero}
use native.Mathlib.Numerals.{one-add, add-one}
use lib.Dec.{eqb, eqb-suc-suc}
use lib.ListN.{length, get_or, drop, replicate, drop_of_length-le}
use lib.Seq.{drop-cons}
use borrow.Author.Tests.{ne_eqb}
use Rattle.frame_forms.specs.Count.{one}
use Rattle.frame_forms.specs.Working.{count}
use Rattle.frame_forms.specs.Forms.{Place, hex, hyphen, nul, is_hex, stands, matches, route_places, is_route}

-- a byte that its place refuses
pub missed : (ps : List Place) (xs : List ℕ) (i : ℕ) → i < length ps → stands (get_or ps i hex) (get_or xs i 0) ≡ false → matches ps xs ≡ false
missed [] xs i h e = absurd (not-suc-le-zero h)
missed (p ∷ ps) [] i h e = refl
missed (p ∷ ps) (x ∷ xs) zero h e = rw e
missed (p ∷ ps) (x ∷ xs) (suc i) h e = rw (missed ps xs i (le_of_suc-le-suc h) e) (and-false (stands p x))

-- too many bytes, or too few
pub wrong_length : (ps : List Place) (xs : List ℕ) → (length xs ≡ length ps → ⊥) → matches ps xs ≡ false
wrong_length [] [] n = absurd (n refl)
wrong_length [] (x ∷ xs) n = refl
wrong_length (p ∷ ps) [] n = refl
wrong_length (p ∷ ps) (x ∷ xs) n = rw (wrong_length ps xs (λ e. n (ap suc e))) (and-false (stands p x))

-- how many hex digits the places ask for
abbrev hex_places : List Place → ℕ
hex_places [] = 0
hex_places (hex ∷ ps) = 1 + hex_places ps
hex_places (hyphen ∷ ps) = hex_places ps
hex_places (nul ∷ ps) = hex_places ps

-- a hyphen or a zero byte where the place asks for one
abbrev FixedAt : Place → ℕ → Type 0
FixedAt hex x = Unit {0}
FixedAt hyphen x = x ≡ 45
FixedAt nul x = x ≡ 0

-- as many bytes as places, and the hyphens and zero bytes in place
abbrev Fixed : List Place → List ℕ → Type 0
Fixed [] [] = Unit {0}
Fixed [] (x ∷ xs) = ⊥
Fixed (p ∷ ps) [] = ⊥
Fixed (p ∷ ps) (x ∷ xs) = FixedAt p x × Fixed ps xs

-- what counting shows of the places and the bytes at them
record Counted (ps : List Place) (xs : List ℕ) : Type 0 where
  most : count is_hex xs ≤ hex_places ps
  shows : matches ps xs ≡ eqb (count is_hex xs) (hex_places ps)

at_hex : (ps : List Place) (xs : List ℕ) (t : Bool) → Counted ps xs → (one t + count is_hex xs ≤ 1 + hex_places ps) × ((t && matches ps xs) ≡ eqb (one t + count is_hex xs) (1 + hex_places ps))
at_hex ps xs true c = (omega arith, c.shows ∙ sym (eqb_add_one (count is_hex xs) (hex_places ps)))
  where
    eqb_add_one : (a b : ℕ) → eqb (1 + a) (1 + b) ≡ eqb a b
    eqb_add_one a b = rw (one-add a, one-add b) (eqb-suc-suc a b)
at_hex ps xs false c = (omega arith, sym (ne_eqb (0 + count is_hex xs) (1 + hex_places ps) (λ (e : 0 + count is_hex xs ≡ 1 + hex_places ps). omega arith)))

-- b is the byte that the place p asks for, and no hex digit
at_fixed : (p : Place) (b : ℕ) (ps : List Place) (xs : List ℕ) (x : ℕ) → is_hex b ≡ false → stands p b ≡ true → hex_places (p ∷ ps) ≡ hex_places ps → x ≡ b → Counted ps xs → Counted (p ∷ ps) (x ∷ xs)
at_fixed p b ps xs x n y k e c =
    let none : is_hex x ≡ false = ap is_hex e ∙ n in
    let fits : stands p x ≡ true = ap (stands p) e ∙ y in
    record { most = rw (none, k) (omega arith); shows = rw (none, fits, k, zero-add) c.shows }

by_count : (ps : List Place) (xs : List ℕ) → Fixed ps xs → Counted ps xs
by_count [] [] f = record { most = omega arith; shows = refl }
by_count [] (x ∷ xs) f = absurd f
by_count (p ∷ ps) [] f = absurd f
by_count (hex ∷ ps) (x ∷ xs) f =
    let c = at_hex ps xs (is_hex x) (by_count ps xs f.1) in
    record { most = c.0; shows = c.1 }
by_count (hyphen ∷ ps) (x ∷ xs) f = at_fixed hyphen 45 ps xs x refl refl refl f.0 (by_count ps xs f.1)
by_count (nul ∷ ps) (x ∷ xs) f = at_fixed nul 0 ps xs x refl refl refl f.0 (by_count ps xs f.1)

-- a group of hex digits and the hyphen or zero byte behind it
group : (n : ℕ) (p : Place) (ps : List Place) (at : ℕ) (xs : List ℕ) → at + n < length xs → FixedAt p (get_or xs (at + n) 0) → Fixed ps (drop (at + n + 1) xs) → Fixed (replicate n hex ++ (p ∷ ps)) (drop at xs)
group zero p ps at xs h e f = rw (drop-cons xs at 0 (omega arith)) (rw add-zero at e, rw (add-zero, add-one) at f)
group (suc n) p ps at xs h e f =
    let there : at + suc n ≡ suc at + n = omega arith in
    rw (drop-cons xs at 0 (omega arith)) (tt, group n p ps (suc at) xs (omega arith) (rw there at e) (rw there at f))

module _ (xs : List ℕ) where
  pub route_length_lem : (length xs ≡ 37 → ⊥) → is_route xs ≡ false
  unfolding is_route
  route_length_lem n = wrong_length route_places xs n

  -- a place of a route that holds something else
  pub route_missed : (i : ℕ) → i < 37 → stands (get_or route_places i hex) (get_or xs i 0) ≡ false → is_route xs ≡ false
  unfolding is_route
  route_missed i h e = missed route_places xs i h e

  pub route_counted : length xs ≡ 37 → get_or xs 8 0 ≡ 45 → get_or xs 13 0 ≡ 45 → get_or xs 18 0 ≡ 45 → get_or xs 23 0 ≡ 45 → get_or xs 36 0 ≡ 0 → is_route xs ≡ eqb (count is_hex xs) 32
  unfolding is_route
  route_counted h e₈ e₁₃ e₁₈ e₂₃ e₃₆ = (by_count route_places xs in_place).shows
    where
      in_place : Fixed route_places xs
      in_place =
          group 8 hyphen (drop 9 route_places) 0 xs (omega arith) e₈
          (group 4 hyphen (drop 14 route_places) 9 xs (omega arith) e₁₃
          (group 4 hyphen (drop 19 route_places) 14 xs (omega arith) e₁₈
          (group 4 hyphen (drop 24 route_places) 19 xs (omega arith) e₂₃
          (group 12 nul [] 24 xs (omega arith) e₃₆
          (rw (drop_of_length-le xs {i = 37} (omega arith)) tt)))))
