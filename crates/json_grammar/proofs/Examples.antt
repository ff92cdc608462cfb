-- Words that the rules allow, and words that they do not: what the RFCs say of each can be read off.
use mathlib.Core.Path.{◌≡◌, refl, ap, ◌∙◌}
use mathlib.Core.List.{List, [], ◌∷◌, ◌++◌}
use mathlib.Core.Logic.{inl, inr}
use Prim.Native.Nat.{ℕ, ◌≤◌}
use native.Mathlib.Omega.{arith}
use lib.ListN.{length, get_or}
use Rattle.json_grammar.specs.Language.{Range, byte, Then}
use Rattle.json_grammar.specs.Utf8.{two_bytes, three_bytes, four_bytes}
use Rattle.json_grammar.specs.Json.{ws, int, unescaped, payload_to}

-- ---- allowed

-- white space is 20, 09, 0A and 0D
white : ws (32 ∷ 9 ∷ 10 ∷ 13 ∷ [])
white =
    record {
      count = 4;
      all =
          record {
            front = 32 ∷ [];
            rest = 9 ∷ 10 ∷ 13 ∷ [];
            whole = refl;
            first = inl refl;
            second =
                record {
                  front = 9 ∷ [];
                  rest = 10 ∷ 13 ∷ [];
                  whole = refl;
                  first = inr (inl refl);
                  second =
                      record {
                        front = 10 ∷ [];
                        rest = 13 ∷ [];
                        whole = refl;
                        first = inr (inr (inl refl));
                        second = record { front = 13 ∷ []; rest = []; whole = refl; first = inr (inr (inr refl)); second = refl };
                      };
                };
          };
    }

no_white : ws []
no_white = record { count = 0; all = refl }

-- a byte with no white space around it
alone : (x : ℕ) → Then ws (Then (byte x) ws) (x ∷ [])
alone x = record { front = []; rest = x ∷ []; whole = refl; first = no_white; second = record { front = x ∷ []; rest = []; whole = refl; first = refl; second = no_white } }

-- the shortest payload: an empty object and the zero byte
shortest : payload_to 1 (123 ∷ 125 ∷ 0 ∷ [])
unfolding payload_to
shortest =
    record {
      front = [];
      rest = 123 ∷ 125 ∷ 0 ∷ [];
      whole = refl;
      first = no_white;
      second =
          record {
            front = 123 ∷ 125 ∷ [];
            rest = 0 ∷ [];
            whole = refl;
            first =
                record {
                  front = 123 ∷ [];
                  rest = 125 ∷ [];
                  whole = refl;
                  first = alone 123;
                  second = record { front = []; rest = 125 ∷ []; whole = refl; first = inl refl; second = alone 125 };
                };
            second = record { front = []; rest = 0 ∷ []; whole = refl; first = no_white; second = refl };
          };
    }

-- ---- not allowed

-- a word whose first byte is one of a range, or this one
module _ {word front : List ℕ} (rest : List ℕ) (whole : word ≡ front ++ rest) where
  begins_in : {least most : ℕ} → Range least most front → (least ≤ get_or word 0 0) × (get_or word 0 0 ≤ most)
  begins_in r =
      let is : get_or word 0 0 ≡ r.value = ap (λ (xs : List ℕ). get_or xs 0 0) (whole ∙ ap (λ (xs : List ℕ). xs ++ rest) r.whole) in
      (omega (arith, is, r.least), omega (arith, is, r.most))

  begins_with : {x : ℕ} → byte x front → get_or word 0 0 ≡ x
  begins_with e = ap (λ (xs : List ℕ). get_or xs 0 0) (whole ∙ ap (λ (xs : List ℕ). xs ++ rest) e)

-- a leading zero with a digit behind it
no_leading_zero : int (48 ∷ 49 ∷ []) → ⊥
no_leading_zero (inl e) = omega (arith, ap length e)
no_leading_zero (inr t) = omega (arith, (begins_in t.rest t.whole t.first).0)

-- C0 80, which says in two bytes what one says
no_overlong : two_bytes (192 ∷ 128 ∷ []) → ⊥
no_overlong t = omega (arith, (begins_in t.rest t.whole t.first).0)

-- a character of three or four bytes begins with E0 to F4
three_from : (word : List ℕ) → three_bytes word → 224 ≤ get_or word 0 0
three_from word (inl t) = omega (arith, begins_with t.rest t.whole t.first)
three_from word (inr (inl t)) = omega (arith, (begins_in t.rest t.whole t.first).0)
three_from word (inr (inr (inl t))) = omega (arith, begins_with t.rest t.whole t.first)
three_from word (inr (inr (inr t))) = omega (arith, (begins_in t.rest t.whole t.first).0)

four_from : (word : List ℕ) → four_bytes word → 240 ≤ get_or word 0 0
four_from word (inl t) = omega (arith, begins_with t.rest t.whole t.first)
four_from word (inr (inl t)) = omega (arith, (begins_in t.rest t.whole t.first).0)
four_from word (inr (inr t)) = omega (arith, begins_with t.rest t.whole t.first)

only_byte : {x least most : ℕ} → Range least most (x ∷ []) → least ≤ x
only_byte {x} r = let is : x ≡ r.value = ap (λ (xs : List ℕ). get_or xs 0 0) r.whole in omega (arith, is, r.least)

-- a raw control byte
no_control : unescaped (31 ∷ []) → ⊥
no_control (inl r) = omega (arith, only_byte r)
no_control (inr (inl r)) = omega (arith, only_byte r)
no_control (inr (inr (inl r))) = omega (arith, only_byte r)
no_control (inr (inr (inr (inl t)))) = omega (arith, (begins_in t.rest t.whole t.first).0)
no_control (inr (inr (inr (inr (inl w))))) = omega (arith, three_from (31 ∷ []) w)
no_control (inr (inr (inr (inr (inr w))))) = omega (arith, four_from (31 ∷ []) w)
