-- Rules put together: one behind another, with a byte more in front, and any number of times.
use mathlib.Core.Path.{refl, sym, ap, subst, ◌∙◌}
use mathlib.Core.List.{List, [], ◌∷◌, ◌++◌, append_assoc, append-nil}
use Prim.Native.Nat.{ℕ, suc}
use Rattle.json_grammar.specs.Language.{Language, nothing, ◌then◌, many}

module _ {one two : Language} {c : ℕ} {ys : List ℕ} where
  -- a byte that begins the first part
  pub in_front : {more : Language} → ((word : List ℕ) → one word → more (c ∷ word)) → (one then two) ys → (more then two) (c ∷ ys)
  in_front f t = record { front = c ∷ t.front; rest = t.rest; whole = ap (λ (xs : List ℕ). c ∷ xs) t.whole; first = f t.front t.first; second = t.second }

  -- a byte that is the first part
  pub begin_with : one (c ∷ []) → two ys → (one then two) (c ∷ ys)
  begin_with p q = record { front = c ∷ []; rest = ys; whole = refl; first = p; second = q }

module _ {one two : Language} {word : List ℕ} where
  -- nothing in the first part, or in the second
  pub leave_out : one [] → two word → (one then two) word
  leave_out p q = record { front = []; rest = word; whole = refl; first = p; second = q }

  pub onto_first : {other : Language} → ((w : List ℕ) → one w → other w) → (one then two) word → (other then two) word
  onto_first f t = record { front = t.front; rest = t.rest; whole = t.whole; first = f t.front t.first; second = t.second }

  pub onto_second : {other : Language} → ((w : List ℕ) → two w → other w) → (one then two) word → (one then other) word
  onto_second f t = record { front = t.front; rest = t.rest; whole = t.whole; first = t.first; second = f t.rest t.second }

pub end_here : {one : Language} {word : List ℕ} → (one then nothing) word → one word
end_here {one} t = subst one (sym (t.whole ∙ ap (λ (xs : List ℕ). t.front ++ xs) t.second ∙ append-nil t.front)) t.first

module _ {one two three : Language} {word : List ℕ} where
  pub regroup : ((one then two) then three) word → (one then (two then three)) word
  regroup t =
      let s = t.first in
      record {
        front = s.front;
        rest = s.rest ++ t.rest;
        whole = t.whole ∙ ap (λ (xs : List ℕ). xs ++ t.rest) s.whole ∙ append_assoc s.front s.rest t.rest;
        first = s.first;
        second = record { front = s.rest; rest = t.rest; whole = refl; first = s.second; second = t.second };
      }

  pub ungroup : (one then (two then three)) word → ((one then two) then three) word
  ungroup t =
      let s = t.second in
      record {
        front = t.front ++ s.front;
        rest = s.rest;
        whole = t.whole ∙ ap (λ (xs : List ℕ). t.front ++ xs) s.whole ∙ sym (append_assoc t.front s.front s.rest);
        first = record { front = t.front; rest = s.front; whole = refl; first = t.first; second = s.first };
        second = s.second;
      }

-- ---- any number of times

pub many-none : {one : Language} → many one []
many-none = record { count = 0; all = refl }

pub many_more : {one : Language} {word : List ℕ} → (one then many one) word → many one word
many_more t = record { count = suc t.second.count; all = record { front = t.front; rest = t.rest; whole = t.whole; first = t.first; second = t.second.all } }

-- once more, in front of what comes behind
pub once_more : {one two : Language} {word : List ℕ} → (one then (many one then two)) word → (many one then two) word
once_more t = onto_first (λ w m. many_more m) (ungroup t)
