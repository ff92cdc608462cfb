-- Laws on the lists of a message.
use mathlib.Core.Path.{◌≡◌, refl, sym, ap, ◌∙◌}
use Prim.Native.Nat.{ℕ, zero, suc, ◌-◌, ◌<◌}
use mathlib.Core.List.{List, [], ◌∷◌, ◌++◌}
use native.Mathlib.Omega.{arith}
use native.Mathlib.Nat.{le_of_suc-le-suc}
use lib.ListN.{length, get_or, take, drop, length-append}
use lib.Seq.{take_at, get_or_at, take-suc, take-length}
use Rattle.bytes_number.specs.Number.{Bytes}
use Rattle.frame_message.specs.Reading.{front, final, before_empty}

-- ---- what holds of each element

abbrev pub Each : {A : Type 0} → (A → Type 0) → List A → Type 0
Each P [] = Unit {0}
Each P (x ∷ xs) = P x × Each P xs

pub each_at : {A : Type 0} (P : A → Type 0) (xs : List A) (i : ℕ) (d : A) → Each P xs → i < length xs → P (get_or xs i d)
each_at P [] i d e h = absurd (omega arith)
each_at P (x ∷ xs) zero d e h = e.0
each_at P (x ∷ xs) (suc i) d e h = each_at P xs i d e.1 (le_of_suc-le-suc h)

pub each_take : {A : Type 0} (P : A → Type 0) (xs : List A) (n : ℕ) → Each P xs → Each P (take n xs)
each_take P xs zero e = tt
each_take P [] (suc n) e = tt
each_take P (x ∷ xs) (suc n) e = (e.0, each_take P xs n e.1)

pub bytes-front : (xs ys : List ℕ) → Bytes (xs ++ ys) → Bytes xs
bytes-front [] ys h = tt
bytes-front (x ∷ xs) ys h = (h.0, bytes-front xs ys h.1)

pub bytes_back : (xs ys : List ℕ) → Bytes (xs ++ ys) → Bytes ys
bytes_back [] ys h = h
bytes_back (x ∷ xs) ys h = bytes_back xs ys h.1

-- a place past the end has no bytes
pub bytes_part : (ps : List (List ℕ)) (i : ℕ) → Each Bytes ps → Bytes (get_or ps i [])
bytes_part [] i h = tt
bytes_part (p ∷ ps) zero h = h.0
bytes_part (p ∷ ps) (suc i) h = bytes_part ps i h.1

-- ---- all but the last, and the last

module _ {A : Type 0} where
  length_snoc : (xs : List A) (x : A) → length (xs ++ (x ∷ [])) - 1 ≡ length xs
  length_snoc xs x = simp length-append (omega arith)

  pub front_snoc : (xs : List A) (x : A) → front (xs ++ (x ∷ [])) ≡ xs
  front_snoc xs x = take_at xs (x ∷ []) _ (sym (length_snoc xs x))

  pub final_snoc : (d : A) (xs : List A) (x : A) → final d (xs ++ (x ∷ [])) ≡ x
  final_snoc d xs x = get_or_at xs x [] d _ (sym (length_snoc xs x))

  -- a list that is not empty
  pub front-final : (d : A) (xs : List A) → 0 < length xs → front xs ++ (final d xs ∷ []) ≡ xs
  front-final d xs h =
      let whole : suc (length xs - 1) ≡ length xs = omega arith in
      sym (take-suc xs (length xs - 1) d (omega arith)) ∙ ap (λ (n : ℕ). take n xs) whole ∙ take-length xs

-- ---- the parts in front of the first empty one

pub before_empty_lem : (rs qs : List (List ℕ)) → Each (λ r. 0 < length r) rs → before_empty (rs ++ [] ∷ qs) ≡ rs
before_empty_lem [] qs h = refl
before_empty_lem ([] ∷ rs) qs h = absurd (omega (arith, h.0))
before_empty_lem ((x ∷ r) ∷ rs) qs h = ap (λ (t : List (List ℕ)). (x ∷ r) ∷ t) (before_empty_lem rs qs h.1)

-- where they are not all, an empty part comes behind them
pub before_split : (ps : List (List ℕ)) → length (before_empty ps) < length ps → before_empty ps ++ [] ∷ drop (suc (length (before_empty ps))) ps ≡ ps
before_split [] h = absurd (omega arith)
before_split ([] ∷ ps) h = refl
before_split ((x ∷ r) ∷ ps) h = ap (λ (t : List (List ℕ)). (x ∷ r) ∷ t) (before_split ps (omega arith))
