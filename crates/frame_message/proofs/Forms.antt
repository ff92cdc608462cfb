-- What the forms of a route and of a topic tell of their lengths.
use mathlib.Core.Path.{◌≡◌, refl, sym, ap}
use Prim.Native.Nat.{ℕ, suc, ◌<◌, ◌≤◌}
use mathlib.Core.Bool.{true}
use mathlib.Core.List.{List, [], ◌∷◌, ◌++◌}
use native.Mathlib.Omega.{arith}
use borrow.Author.Tests.{eqb-true, leb-true}
use lib.Dec.{eqb, leb}
use lib.ListN.{length}
use Rattle.frame_forms.specs.Forms.{Place, route_places, stands, matches, is_route, is_topic}
use Rattle.frame_message.specs.Writing.{all_routes, routes_good}
use Rattle.frame_message.specs.Reading.{front, final, is_topic_part}
use Rattle.bytes_number.proofs.Truth.{true_false, and_left, and_right}
use Rattle.frame_message.proofs.Lists.{Each, front_snoc, final_snoc, front-final}

matches-length : (ps : List Place) (xs : List ℕ) → matches ps xs ≡ true → length xs ≡ length ps
matches-length [] [] e = refl
matches-length [] (x ∷ xs) e = absurd (true_false (sym e))
matches-length (p ∷ ps) [] e = absurd (true_false (sym e))
matches-length (p ∷ ps) (x ∷ xs) e = ap suc (matches-length ps xs (and_right (stands p x) (matches ps xs) e))

-- "36 characters .. then a zero byte"
pub route_length_lem : (r : List ℕ) → is_route r ≡ true → length r ≡ 37
unfolding is_route
route_length_lem r e = matches-length route_places r e

pub routes_lengths : (rs : List (List ℕ)) → all_routes rs ≡ true → Each (λ r. length r ≡ 37) rs
routes_lengths [] e = tt
routes_lengths (r ∷ rs) e = (route_length_lem r (and_left (is_route r) (all_routes rs) e), routes_lengths rs (and_right (is_route r) (all_routes rs) e))

pub routes_few : (rs : List (List ℕ)) → routes_good rs ≡ true → length rs ≤ 64
unfolding routes_good
routes_few rs e = leb-true (length rs) 64 (and_left (leb (length rs) 64) (all_routes rs) e)

pub routes_each : (rs : List (List ℕ)) → routes_good rs ≡ true → Each (λ r. length r ≡ 37) rs
unfolding routes_good
routes_each rs e = routes_lengths rs (and_right (leb (length rs) 64) (all_routes rs) e)

-- so none is empty
pub routes_filled : (rs : List (List ℕ)) → Each (λ r. length r ≡ 37) rs → Each (λ r. 0 < length r) rs
routes_filled [] h = tt
routes_filled (r ∷ rs) h = (omega (arith, h.0), routes_filled rs h.1)

-- a topic and its zero byte, as a part
pub topic_part_lem : (t : List ℕ) → is_topic t ≡ true → is_topic_part (t ++ (0 ∷ [])) ≡ true
unfolding is_topic_part
topic_part_lem t e = rw (final_snoc 1 t 0, front_snoc t 0) e

-- the other way
pub topic_parted : (p : List ℕ) → is_topic_part p ≡ true → front p ++ (0 ∷ []) ≡ p
unfolding is_topic_part
topic_parted [] e = absurd (true_false (sym e))
topic_parted (x ∷ p) e =
    let last : final 1 (x ∷ p) ≡ 0 = eqb-true _ 0 (and_left (eqb (final 1 (x ∷ p)) 0) (is_topic (front (x ∷ p))) e) in
    rw last at (front-final 1 (x ∷ p) (omega arith))

pub topic_form : (p : List ℕ) → is_topic_part p ≡ true → is_topic (front p) ≡ true
unfolding is_topic_part
topic_form p e = and_right (eqb (final 1 p) 0) (is_topic (front p)) e
