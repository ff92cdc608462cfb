-- The first byte of a number or a literal name, and where such a value ends then.
use Rattle.std.specs.Prelude.{Ok, Err}
use mathlib.Core.Path.{◌≡◌, refl, sym, ap, ◌∙◌}
use mathlib.Core.Bool.{Bool, true, false, cond, ◌||◌}
use mathlib.Core.List.{List, [], ◌∷◌}
use Prim.Native.Nat.{ℕ, suc, ◌+◌, ◌<◌, ◌≤◌}
use native.Mathlib.Omega.{arith}
use borrow.Author.Tests.{eqb-true, eqb-false, eq-eqb, ne_eqb}
use lib.Dec.{eqb}
use lib.ListN.{length, drop, get_or, drop_of_length-le}
use mathlib.Core.Logic.{⊎_elim}
use Rattle.std.specs.List.{prefix_len, zip}
use Rattle.bytes_number.proofs.Truth.{outcome}
use Rattle.json_scan.specs.Scan.{is_within, is_digit, exactly, holds, in_object, in_array, first_name, first_value, behind, minus, leading_zero, whole, between, number, text, nowhere, to, value_step}
use Rattle.json_scan.specs.WorkingEnds.{rest_end}
use Rattle.json_scan.proofs.Bytes.{within, is_within_lem, no_zero_lem}
use Rattle.json_scan.proofs.Scanning.{drop_at}
use Rattle.json_number.specs.WorkingFigures.{number_end}
use Rattle.json_number.proofs.Steps.{minus_zero, minus_digit}
use Rattle.json_number.proofs.Figures.{number_on}
use Rattle.json_scalar.specs.WorkingScalars.{spelling, scalar_on, scalar_end}

-- ---- the bytes of a name

pub is_exactly : (x c : ℕ) → c ≡ x → holds (exactly x) c ≡ true
unfolding holds
is_exactly x c e = eq-eqb c x e

pub not_exactly : (x c : ℕ) → (c ≡ x → ⊥) → holds (exactly x) c ≡ false
unfolding holds
not_exactly x c f = ne_eqb c x f

-- of two bytes that they are the same
abbrev pub same : ℕ × ℕ → Bool
same p = eqb p.0 p.1

-- how far they go is how many of them are the same from the front on
spelled_by : (word : List ℕ) (at : ℕ) (xs : List ℕ) → let m = prefix_len same (zip xs word) in rest_end (spelling word) at xs ≡ cond (eqb m (length word)) (Ok (at + m)) (Err (at + m))
unfolding rest_end holds
spelled_by [] at [] = ap Ok (omega arith)
spelled_by [] at (x ∷ xs) = ap Ok (omega arith)
spelled_by (w ∷ word) at [] = rw (ne_eqb 0 (suc (length word)) (λ e. omega (arith, e))) (ap Err (omega arith))
spelled_by (w ∷ word) at (x ∷ xs) = go (spelled_by word (at + 1) xs) (eqb x w)
  where
    n : ℕ
    n = length word

    m : ℕ
    m = prefix_len same (zip xs word)

    alike : eqb m n ≡ eqb (1 + m) (suc n)
    alike = ⊎_elim (λ t. t ∙ sym (eq-eqb (1 + m) (suc n) (omega (arith, eqb-true m n t)))) (λ t. t ∙ sym (ne_eqb (1 + m) (suc n) (λ e. eqb-false m n t (omega (arith, e))))) (outcome (eqb m n))

    far : at + 1 + m ≡ at + (1 + m)
    far = omega arith

    go :
        rest_end (spelling word) (at + 1) xs ≡ cond (eqb m n) (Ok (at + 1 + m)) (Err (at + 1 + m)) → (t : Bool) →
        let o = cond t (1 + m) 0 in cond t (rest_end (spelling word) (at + 1) xs) (Err at) ≡ cond (eqb o (suc n)) (Ok (at + o)) (Err (at + o))
    go again true = again ∙ ap (λ (i : ℕ). cond (eqb m n) (Ok i) (Err i)) far ∙ ap (λ (t : Bool). cond t (Ok (at + (1 + m))) (Err (at + (1 + m)))) alike
    go again false = rw (ne_eqb 0 (suc n) (λ e. omega (arith, e))) (ap Err (omega arith))

module _ (word : List ℕ) (at : ℕ) (xs : List ℕ) {m : ℕ} (is : m ≡ prefix_len same (zip xs word)) where
  by_count : rest_end (spelling word) at xs ≡ cond (eqb m (length word)) (Ok (at + m)) (Err (at + m))
  by_count = spelled_by word at xs ∙ ap (λ (i : ℕ). cond (eqb i (length word)) (Ok (at + i)) (Err (at + i))) (sym is)

  pub spelled : m ≡ length word → Ok (at + m) ≡ rest_end (spelling word) at xs
  spelled e = sym (by_count ∙ ap (λ (t : Bool). cond t (Ok (at + m)) (Err (at + m))) (eq-eqb m (length word) e))

  pub broken : (m ≡ length word → ⊥) → Err (at + m) ≡ rest_end (spelling word) at xs
  broken f = sym (by_count ∙ ap (λ (t : Bool). cond t (Ok (at + m)) (Err (at + m))) (ne_eqb m (length word) f))

-- ---- the first byte

pub scalar_over : (bytes : List ℕ) (at : ℕ) → length bytes ≤ at → scalar_end at (drop at bytes) ≡ Err at
unfolding scalar_end
scalar_over bytes at l = ap (scalar_end at) (drop_of_length-le bytes l)

module _ (bytes : List ℕ) (at : ℕ) (l : at < length bytes) where
  abbrev x : ℕ
  x = get_or bytes at 0

  pub scalar_at : scalar_end at (drop at bytes) ≡ scalar_on at (drop (at + 1) bytes) (value_step [] x)
  unfolding scalar_end
  scalar_at = ap (scalar_end at) (drop_at bytes at l)

  -- a literal name
  pub scalar_false : x ≡ 102 → scalar_end at (drop at bytes) ≡ rest_end (spelling (97 ∷ 108 ∷ 115 ∷ 101 ∷ [])) (at + 1) (drop (at + 1) bytes)
  unfolding value_step is_within
  scalar_false e = scalar_at ∙ ap (λ (c : ℕ). scalar_on at (drop (at + 1) bytes) (value_step [] c)) e

  pub scalar_null : x ≡ 110 → scalar_end at (drop at bytes) ≡ rest_end (spelling (117 ∷ 108 ∷ 108 ∷ [])) (at + 1) (drop (at + 1) bytes)
  unfolding value_step is_within
  scalar_null e = scalar_at ∙ ap (λ (c : ℕ). scalar_on at (drop (at + 1) bytes) (value_step [] c)) e

  pub scalar_true : x ≡ 116 → scalar_end at (drop at bytes) ≡ rest_end (spelling (114 ∷ 117 ∷ 101 ∷ [])) (at + 1) (drop (at + 1) bytes)
  unfolding value_step is_within
  scalar_true e = scalar_at ∙ ap (λ (c : ℕ). scalar_on at (drop (at + 1) bytes) (value_step [] c)) e

  -- a number, behind its minus or without one: a digit leads into it as it does behind a minus
  pub scalar_minus : x ≡ 45 → scalar_end at (drop at bytes) ≡ number_end minus (at + 1) (drop (at + 1) bytes)
  unfolding value_step is_within
  scalar_minus e = scalar_at ∙ ap (λ (c : ℕ). scalar_on at (drop (at + 1) bytes) (value_step [] c)) e

  scalar_zero : x ≡ 48 → scalar_end at (drop at bytes) ≡ number_end minus at (drop at bytes)
  unfolding value_step is_within
  scalar_zero e =
      scalar_at ∙ ap (λ (c : ℕ). scalar_on at (drop (at + 1) bytes) (value_step [] c)) e ∙ sym (number_on minus bytes at leading_zero l (minus_zero [] _ e))

  scalar_digit : is_digit x ≡ true → (x ≡ 48 → ⊥) → scalar_end at (drop at bytes) ≡ number_end minus at (drop at bytes)
  unfolding value_step
  scalar_digit e z =
      let w = is_within_lem 48 57 x e in
      let leads : value_step [] x ≡ to (number whole) [] =
      rw (ne_eqb x 34 (λ q. omega (arith, w.0, q)), ne_eqb x 123 (λ q. omega (arith, w.1, q)), ne_eqb x 91 (λ q. omega (arith, w.1, q)), ne_eqb x 45 (λ q. omega (arith, w.0, q)), ne_eqb x 48 z, e) refl in
      scalar_at ∙ ap (scalar_on at (drop (at + 1) bytes)) leads ∙ sym (number_on minus bytes at whole l (minus_digit [] _ z e))

  pub scalar_number : 48 ≤ x → x ≤ 57 → scalar_end at (drop at bytes) ≡ number_end minus at (drop at bytes)
  scalar_number l m = ⊎_elim (λ t. scalar_zero (eqb-true x 48 t)) (λ t. scalar_digit (within 48 57 x l m) (eqb-false x 48 t)) (outcome (eqb x 48))

  pub scalar_numeral : {j : ℕ} → (eqb x 45 || is_digit x) ≡ true → j ≡ cond (eqb x 45) (at + 1) at → scalar_end at (drop at bytes) ≡ number_end minus j (drop j bytes)
  scalar_numeral is place = go (eqb x 45) (eqb x 48) refl refl is ∙ ap (λ (i : ℕ). number_end minus i (drop i bytes)) (sym place)
    where
      go : (t z : Bool) → eqb x 45 ≡ t → eqb x 48 ≡ z → (t || is_digit x) ≡ true → scalar_end at (drop at bytes) ≡ number_end minus (cond t (at + 1) at) (drop (cond t (at + 1) at) bytes)
      go true z e f is = scalar_minus (eqb-true x 45 e)
      go false true e f is = scalar_zero (eqb-true x 48 f)
      go false false e f is = scalar_digit is (eqb-false x 48 f)

  -- neither of them
  pub scalar_none : (x ≡ 45 → ⊥) → is_digit x ≡ false → (x ≡ 102 → ⊥) → (x ≡ 110 → ⊥) → (x ≡ 116 → ⊥) → scalar_end at (drop at bytes) ≡ Err at
  unfolding value_step
  scalar_none m e f n t =
      scalar_at ∙ rw (ne_eqb x 45 m, ne_eqb x 48 (no_zero_lem x e), e, ne_eqb x 102 f, ne_eqb x 110 n, ne_eqb x 116 t) (go (eqb x 34) (eqb x 123) (eqb x 91))
    where
      go : (a b c : Bool) → scalar_on at (drop (at + 1) bytes) (cond a (to (text behind) []) (cond b (to (between first_name) (in_object ∷ [])) (cond c (to (between first_value) (in_array ∷ [])) nowhere))) ≡ Err at
      go true b c = refl
      go false true c = refl
      go false false true = refl
      go false false false = refl
