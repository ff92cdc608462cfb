-- Laws on the bytes given as routes, cut into routes of 37 bytes: one route at a time, from the front.
use mathlib.Core.Path.{◌≡◌, refl, sym, ap, ◌∙◌}
use mathlib.Core.Bool.{Bool, true, false, ◌&&◌, and-false, true≢false}
use Prim.Native.Nat.{ℕ, zero, suc, ◌+◌, ◌-◌, ◌*◌, ◌/◌, ◌%◌, ◌<◌, ◌≤◌}
use mathlib.Core.List.{List, [], ◌∷◌}
use native.Mathlib.Omega.{arith}
use native.Mathlib.Decide.{dec_le, ℕ_discrete}
use native.Mathlib.Nat.{not-suc-le-zero, lt_of_not-le}
use lib.Dec.{leb}
use lib.ListN.{length, take, drop, length-append, length-take, length-drop}
use lib.Seq.{length-take-le, drop-drop}
use borrow.Author.Tests.{le-leb, lt-leb}
use Rattle.frame_forms.specs.Forms.{is_route}
use Rattle.frame_message.specs.Frame.{part_bytes, joined}
use Rattle.frame_message.specs.Writing.{cut_routes, cut, all_routes, routes_good, is_empty}
use Rattle.frame_forms.proofs.Routes.{route_length_lem}

-- how often cutting may go on does not matter, if it is often enough
cut_enough : (k j : ℕ) (xs : List ℕ) → length xs ≤ k → length xs ≤ j → cut_routes k xs ≡ cut_routes j xs
cut_enough zero zero xs h g = refl
cut_enough zero (suc j) [] h g = refl
cut_enough zero (suc j) (x ∷ xs) h g = absurd (not-suc-le-zero h)
cut_enough (suc k) zero [] h g = refl
cut_enough (suc k) zero (x ∷ xs) h g = absurd (not-suc-le-zero g)
cut_enough (suc k) (suc j) [] h g = refl
cut_enough (suc k) (suc j) (x ∷ xs) h g =
    ap (λ (rs : List (List ℕ)). take 37 (x ∷ xs) ∷ rs)
    (cut_enough k j (drop 37 (x ∷ xs)) (omega (arith, length-drop 37 (x ∷ xs))) (omega (arith, length-drop 37 (x ∷ xs))))

-- one route more
pub cut_more : (xs : List ℕ) → 0 < length xs → cut xs ≡ take 37 xs ∷ cut (drop 37 xs)
cut_more [] h = absurd (not-suc-le-zero h)
cut_more (x ∷ xs) h =
    ap (λ (rs : List (List ℕ)). take 37 (x ∷ xs) ∷ rs)
    (cut_enough (length xs) (length (drop 37 (x ∷ xs))) (drop 37 (x ∷ xs)) (omega (arith, length-drop 37 (x ∷ xs))) (omega arith))

-- how long the stretch of a route is
pub route_width : (i : ℕ) → i + 37 - i ≡ 37
route_width i = omega arith

-- whether each route from i on is of the form, of which the code looks at the stretch from i to i + 37
pub all_next : (xs : List ℕ) (i : ℕ) {good : Bool} → i < length xs → good ≡ is_route (take (i + 37 - i) (drop i xs)) → all_routes (cut (drop i xs)) ≡ (good && all_routes (cut (drop (i + 37) xs)))
all_next xs i h e = rw (cut_more (drop i xs) (simp length-drop (omega arith)), drop-drop, e, route_width i)

pub cut_empty : (xs : List ℕ) → is_empty (cut xs) ≡ is_empty xs
cut_empty [] = refl
cut_empty (x ∷ xs) = refl

-- what holds of the bytes cut so often holds of the bytes cut: a route at a time
by_routes : (P : List ℕ → Type 0) → P [] → ((xs : List ℕ) → 0 < length xs → P (drop 37 xs) → P xs) → (k : ℕ) (xs : List ℕ) → length xs ≤ k → P xs
by_routes P none more zero [] h = none
by_routes P none more zero (x ∷ xs) h = absurd (not-suc-le-zero h)
by_routes P none more (suc k) [] h = none
by_routes P none more (suc k) (x ∷ xs) h =
    more (x ∷ xs) (omega arith) (by_routes P none more k (drop 37 (x ∷ xs)) (omega (arith, length-drop 37 (x ∷ xs))))

-- how many routes there are, the last of which may be short
pub cut-count : (xs : List ℕ) → (length xs ≤ 37 * length (cut xs)) × (37 * length (cut xs) < length xs + 37)
cut-count xs = by_routes P (omega arith) more (length xs) xs (omega arith)
  where
    P : List ℕ → Type 0
    P xs = (length xs ≤ 37 * length (cut xs)) × (37 * length (cut xs) < length xs + 37)

    more : (xs : List ℕ) → 0 < length xs → P (drop 37 xs) → P xs
    more xs h p = omega (arith, length-drop 37 xs, ap length (cut_more xs h))

-- a route with its size in front has 38 bytes
pub route_part_lem : (p : List ℕ) → length p ≡ 37 → length (part_bytes p) ≡ 38
route_part_lem p h = rw h (omega (arith, h))

-- how many bytes whole routes have with their sizes
pub cut-length : (xs : List ℕ) → length xs % 37 ≡ 0 → length (joined (cut xs)) ≡ length xs / 37 * 38
cut-length xs = by_routes P (λ e. refl) more (length xs) xs (omega arith)
  where
    P : List ℕ → Type 0
    P xs = length xs % 37 ≡ 0 → length (joined (cut xs)) ≡ length xs / 37 * 38

    more : (xs : List ℕ) → 0 < length xs → P (drop 37 xs) → P xs
    more xs h p e =
        let rest : length (joined (cut (drop 37 xs))) ≡ length (drop 37 xs) / 37 * 38 = p (rw length-drop (omega arith)) in
        let first : length (part_bytes (take 37 xs)) ≡ 38 = route_part_lem (take 37 xs) (length-take-le 37 xs (omega arith)) in
        rw (cut_more xs h, length-append, first, rest, length-drop) (omega arith)

-- bytes that are no whole routes have a route that is not of the form
pub cut_uneven : (xs : List ℕ) → (length xs % 37 ≡ 0 → ⊥) → all_routes (cut xs) ≡ false
cut_uneven xs = by_routes P (λ n. absurd (n refl)) more (length xs) xs (omega arith)
  where
    P : List ℕ → Type 0
    P xs = (length xs % 37 ≡ 0 → ⊥) → all_routes (cut xs) ≡ false

    more : (xs : List ℕ) → 0 < length xs → P (drop 37 xs) → P xs
    more xs h p n = rw (cut_more xs h) (go (dec_le 37 (length xs)))
      where
        whole : (m : ℕ) → 37 ≤ m → (m - 37) % 37 ≡ 0 → m % 37 ≡ 0
        whole m h e = omega arith

        go : Dec (37 ≤ length xs) → (is_route (take 37 xs) && all_routes (cut (drop 37 xs))) ≡ false
        go (yes long) = rw (p (λ (e : length (drop 37 xs) % 37 ≡ 0). n (whole (length xs) long (rw length-drop at e)))) (and-false (is_route (take 37 xs)))
        go (no short) = rw (route_length_lem (take 37 xs) (λ (e : length (take 37 xs) ≡ 37). omega (arith, lt_of_not-le short, length-take 37 xs)))

-- 64 routes have 2,368 bytes
module _ (xs : List ℕ) where
  pub routes_few : length xs ≤ 2368 → routes_good (cut xs) ≡ all_routes (cut xs)
  unfolding routes_good
  routes_few h = rw (le-leb (length (cut xs)) 64 (omega (arith, cut-count xs)))

  pub routes_many : 2368 < length xs → routes_good (cut xs) ≡ false
  unfolding routes_good
  routes_many h = rw (lt-leb (length (cut xs)) 64 (omega (arith, cut-count xs)))

  pub routes_uneven : (length xs % 37 ≡ 0 → ⊥) → routes_good (cut xs) ≡ false
  unfolding routes_good
  routes_uneven n = rw (cut_uneven xs n) (and-false (leb (length (cut xs)) 64))

  -- good routes are few, and whole
  pub good_few : routes_good (cut xs) ≡ true → length xs ≤ 2368
  good_few g = go (dec_le (length xs) 2368)
    where
      go : Dec (length xs ≤ 2368) → length xs ≤ 2368
      go (yes h) = h
      go (no n) = absurd (true≢false (sym g ∙ routes_many (lt_of_not-le n)))

  pub good_whole : routes_good (cut xs) ≡ true → length xs % 37 ≡ 0
  good_whole g = go (ℕ_discrete (length xs % 37) 0)
    where
      go : Dec (length xs % 37 ≡ 0) → length xs % 37 ≡ 0
      go (yes h) = h
      go (no n) = absurd (true≢false (sym g ∙ routes_uneven n))
