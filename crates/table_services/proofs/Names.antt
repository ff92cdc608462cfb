-- Laws on names and padding, by their bytes and by the places of a record.
use mathlib.Core.Path.{◌≡◌, refl, sym, ◌∙◌}
use mathlib.Core.Bool.{Bool, true, false, cond, ◌&&◌, not, and-true, and-false}
use mathlib.Core.List.{List, [], ◌∷◌}
use mathlib.Core.Logic.{◌⊎◌, inl, inr}
use Prim.Native.Nat.{ℕ, zero, suc, ◌+◌, ◌-◌, ◌<◌, ◌≤◌}
use native.Mathlib.Nat.{add-zero, le_of_suc-le-suc, not-suc-le-zero}
use native.Mathlib.Omega.{arith}
use borrow.Author.Tests.{ne_eqb, eqb-true, lt-ltb, le-ltb, ltb-true, ltb-false}
use lib.Dec.{eqb, ltb}
use lib.ListN.{length, get_or, drop, replicate, length-take, length-drop}
use lib.Seq.{get_or-take, get_or-drop}
use Rattle.bytes_number.proofs.Truth.{outcome, same_test, and_left as left, and_right as right, and_both as both}
use Rattle.table_records.specs.Below.{all_below}
use Rattle.table_records.proofs.Below.{all_none, all_more, all_at, all_of}
use Rattle.table_services.specs.Services.{name_length, name_in, padding_in, is_name, is_padding}
use Rattle.table_services.specs.Working.{name_byte, may_stand}

-- ---- a name and padding, by their bytes

pub name_of : (s : List ℕ) → ((k : ℕ) → k < length s → name_byte (get_or s k 0) ≡ true) → is_name s ≡ true
unfolding is_name
name_of [] f = refl
name_of (x ∷ xs) f =
    let here : name_byte x ≡ true = f 0 (omega arith) in
    both (left (not (eqb x 0)) (not (eqb x 46)) here)
    (both (right (not (eqb x 0)) (not (eqb x 46)) here) (name_of xs (λ k h. f (suc k) (omega arith))))

pub name_at_lem : (s : List ℕ) → is_name s ≡ true → (k : ℕ) → k < length s → name_byte (get_or s k 0) ≡ true
unfolding is_name
name_at_lem [] e k h = absurd (not-suc-le-zero h)
name_at_lem (x ∷ xs) e zero h =
    let rest = right (not (eqb x 0)) (not (eqb x 46) && is_name xs) e in
    both (left (not (eqb x 0)) (not (eqb x 46) && is_name xs) e) (left (not (eqb x 46)) (is_name xs) rest)
name_at_lem (x ∷ xs) e (suc k) h =
    let rest = right (not (eqb x 0)) (not (eqb x 46) && is_name xs) e in
    name_at_lem xs (right (not (eqb x 46)) (is_name xs) rest) k (le_of_suc-le-suc h)

pub padding_of : (s : List ℕ) → ((k : ℕ) → k < length s → eqb (get_or s k 0) 0 ≡ true) → is_padding s ≡ true
unfolding is_padding
padding_of [] f = refl
padding_of (x ∷ xs) f = both (f 0 (omega arith)) (padding_of xs (λ k h. f (suc k) (omega arith)))

pub padding_at : (s : List ℕ) → is_padding s ≡ true → (k : ℕ) → k < length s → eqb (get_or s k 0) 0 ≡ true
unfolding is_padding
padding_at [] e k h = absurd (not-suc-le-zero h)
padding_at (x ∷ xs) e zero h = left (eqb x 0) (is_padding xs) e
padding_at (x ∷ xs) e (suc k) h = padding_at xs (right (eqb x 0) (is_padding xs) e) k (le_of_suc-le-suc h)

-- ---- a record's places, by where they lie

module _ (end at x : ℕ) where
  pub stand_front : at < 5 → may_stand end at x ≡ true
  unfolding may_stand
  stand_front h = rw (lt-ltb at 5 h) refl

  pub stand_name : 5 ≤ at → at < end → may_stand end at x ≡ name_byte x
  unfolding may_stand
  stand_name h l = rw (le-ltb at 5 h, lt-ltb at end l) refl

  pub stand_padding : 5 ≤ at → end ≤ at → may_stand end at x ≡ eqb x 0
  unfolding may_stand
  stand_padding h l = rw (le-ltb at 5 h, le-ltb at end l) refl

-- ---- counting the bytes that may not stand where they do

pub strays_none : (p : ℕ → Bool) → eqb 0 0 ≡ all_below 0 p
strays_none p = sym (all_none p)

pub strays_more : (p : ℕ → Bool) (n i r : ℕ) → r ≡ cond (p i) 0 1 → eqb n 0 ≡ all_below i p → eqb (n + r) 0 ≡ all_below (i + 1) p
strays_more p n i r is e = rw is (by_test (p i) refl)
  where
    by_test : (t : Bool) → p i ≡ t → eqb (n + cond t 0 1) 0 ≡ all_below (i + 1) p
    by_test true q = rw (add-zero, all_more p i, q, ← e) (sym (and-true (eqb n 0)))
    by_test false q = rw (all_more p i, q, and-false (all_below i p)) (ne_eqb (n + 1) 0 (λ z. omega arith))

pub few_more : (t : Bool) (n i r : ℕ) → r ≡ cond t 0 1 → n ≤ i → n + r ≤ i + 1
few_more true n i r is h = omega arith
few_more false n i r is h = omega arith

-- ---- all bytes of a record may stand where they do exactly if its name is one and its padding is zero

module _ (row : List ℕ) (whole : length row ≡ 32) (few : name_length row ≤ 27) where
  abbrev stands : ℕ → Bool
  stands at = may_stand (5 + name_length row) at (get_or row at 0)

  in_name : (k : ℕ) → k < name_length row → get_or (name_in row) k 0 ≡ get_or row (5 + k) 0
  in_name k h = get_or-take (name_length row) (drop 5 row) k 0 h ∙ get_or-drop 5 row k 0

  in_padding : (k : ℕ) → get_or (padding_in row) k 0 ≡ get_or row (5 + name_length row + k) 0
  in_padding k = get_or-drop (5 + name_length row) row k 0

  long_name : length (name_in row) ≡ name_length row
  long_name = simp (length-take, length-drop) (omega arith)

  long_padding : length (padding_in row) ≡ 27 - name_length row
  long_padding = simp length-drop (omega arith)

  stands_of : is_name (name_in row) ≡ true → is_padding (padding_in row) ≡ true → (at : ℕ) → at < 32 → stands at ≡ true
  stands_of n p at h = in_front (outcome (ltb at 5))
    where
      behind : (ltb at (5 + name_length row) ≡ true) ⊎ (ltb at (5 + name_length row) ≡ false) → 5 ≤ at → stands at ≡ true
      behind (inl t) l =
          let l₂ = ltb-true at (5 + name_length row) t in
          let there : 5 + (at - 5) ≡ at = omega arith in
          stand_name (5 + name_length row) at (get_or row at 0) l l₂
          ∙ rw (← there) (rw (← in_name (at - 5) (omega arith)) (name_at_lem (name_in row) n (at - 5) (omega (arith, long_name))))
      behind (inr f) l =
          let l₂ = ltb-false at (5 + name_length row) f in
          let there : 5 + name_length row + (at - (5 + name_length row)) ≡ at = omega arith in
          stand_padding (5 + name_length row) at (get_or row at 0) l l₂
          ∙ rw (← there) (rw (← in_padding (at - (5 + name_length row))) (padding_at (padding_in row) p (at - (5 + name_length row)) (omega (arith, long_padding))))

      in_front : (ltb at 5 ≡ true) ⊎ (ltb at 5 ≡ false) → stands at ≡ true
      in_front (inl t) = stand_front (5 + name_length row) at (get_or row at 0) (ltb-true at 5 t)
      in_front (inr f) = behind (outcome (ltb at (5 + name_length row))) (ltb-false at 5 f)

  name_stands : all_below 32 stands ≡ true → is_name (name_in row) ≡ true
  name_stands a =
      name_of (name_in row)
      (λ k h.
      let l : k < name_length row = omega (arith, long_name) in
      rw (in_name k l) (sym (stand_name (5 + name_length row) (5 + k) (get_or row (5 + k) 0) (omega arith) (omega arith)) ∙ all_at stands 32 (5 + k) (omega arith) a))

  padding_stands : all_below 32 stands ≡ true → is_padding (padding_in row) ≡ true
  padding_stands a =
      padding_of (padding_in row)
      (λ k h.
      let l : k < 27 - name_length row = omega (arith, long_padding) in
      let at = 5 + name_length row + k in
      rw (in_padding k) (sym (stand_padding (5 + name_length row) at (get_or row at 0) (omega arith) (omega arith)) ∙ all_at stands 32 at (omega arith) a))

  pub stands_all : all_below 32 stands ≡ (is_name (name_in row) && is_padding (padding_in row))
  stands_all =
      same_test
      (λ a. both (name_stands a) (padding_stands a))
      (λ b.
      all_of stands 32
      (stands_of (left (is_name (name_in row)) (is_padding (padding_in row)) b) (right (is_name (name_in row)) (is_padding (padding_in row)) b)))

-- padding is known by its length
pub padding_is : (s : List ℕ) → is_padding s ≡ true → s ≡ replicate (length s) 0
unfolding is_padding
padding_is [] h = refl
padding_is (x ∷ xs) h =
    let here : x ≡ 0 = eqb-true x 0 (left (eqb x 0) (is_padding xs) h) in
    let rest : xs ≡ replicate (length xs) 0 = padding_is xs (right (eqb x 0) (is_padding xs) h) in
    cc
