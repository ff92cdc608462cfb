-- White space in front of a rule, and the bytes with white space around them.
use mathlib.Core.Path.{◌≡◌, refl, sym, ap, subst, ◌∙◌}
use mathlib.Core.Bool.{Bool, true, false, ◌||◌}
use mathlib.Core.List.{List, [], ◌∷◌, ◌++◌}
use mathlib.Core.Logic.{inl, inr}
use Prim.Native.Nat.{ℕ, zero, suc}
use borrow.Author.Tests.{eqb-true}
use lib.Dec.{eqb}
use Rattle.json_grammar.specs.Language.{Language, byte, ◌then◌, ◌or◌, many, times}
use Rattle.json_grammar.specs.Json as json
use Rattle.json_scan.specs.Scan.{is_white, Kind, in_object, in_array, Due, outer, first_name, first_value, name, colon, value, behind}
use Rattle.json_sound.proofs.Parts.{in_front, begin_with, leave_out, many-none, many_more}
use Rattle.json_sound.proofs.After.{closing, closing_now, after_due}

-- a test that is one of two
pub one_of : (a b : Bool) {A : Type 0} → (a ≡ true → A) → (b ≡ true → A) → (a || b) ≡ true → A
one_of true b f g e = f refl
one_of false b f g e = g e

-- ---- white space

abbrev white : Language
white = byte 32 or byte 9 or byte 10 or byte 13

is : (x c : ℕ) → eqb c x ≡ true → byte x (c ∷ [])
is x c t = ap (λ (n : ℕ). n ∷ []) (eqb-true c x t)

white_byte : (c : ℕ) → is_white c ≡ true → white (c ∷ [])
unfolding is_white
white_byte c =
    one_of (eqb c 32 || eqb c 9 || eqb c 10) (eqb c 13)
    (one_of (eqb c 32 || eqb c 9) (eqb c 10)
    (one_of (eqb c 32) (eqb c 9) (λ t. inl (is 32 c t)) (λ t. inr (inl (is 9 c t))))
    (λ t. inr (inr (inl (is 10 c t)))))
    (λ t. inr (inr (inr (is 13 c t))))

pub ws-none : json.ws []
ws-none = many-none

module _ (c : ℕ) (e : is_white c ≡ true) where
  ws_more : (word : List ℕ) → json.ws word → json.ws (c ∷ word)
  ws_more word w = many_more (begin_with (white_byte c e) w)

  pub spaced : {two : Language} {ys : List ℕ} → (json.ws then two) ys → (json.ws then two) (c ∷ ys)
  spaced = in_front ws_more

-- ---- a byte with white space around it

abbrev pub mark : ℕ → Language
mark x = json.ws then (byte x then json.ws)

-- the byte itself, with white space behind it or none
pub mark_here : {x : ℕ} {two : Language} {ys : List ℕ} → two ys → (mark x then two) (x ∷ ys)
mark_here q = begin_with (leave_out ws-none (begin_with refl ws-none)) q

pub mark_spaced : {x : ℕ} {two : Language} {ys : List ℕ} → (json.ws then two) ys → (mark x then two) (x ∷ ys)
mark_spaced t = in_front (λ word w. leave_out ws-none (begin_with refl w)) t

-- ---- white space in front of whatever is due

module _ (c : ℕ) (e : is_white c ≡ true) where
  mark_white : {x : ℕ} (word : List ℕ) → mark x word → mark x (c ∷ word)
  mark_white word t = spaced c e t

  marked : {x : ℕ} {two : Language} {ys : List ℕ} → (mark x then two) ys → (mark x then two) (c ∷ ys)
  marked = in_front mark_white

  many_white :
      {one two : Language} (ys : List ℕ) → ((word : List ℕ) → one word → one (c ∷ word)) → ((word : List ℕ) → two word → two (c ∷ word)) →
      (many one then two) ys → (many one then two) (c ∷ ys)
  many_white {one} {two} ys f g t = go t.first.count t.first.all
    where
      go : (n : ℕ) → times n one t.front → (many one then two) (c ∷ ys)
      go zero none = leave_out many-none (g ys (subst two (sym (t.whole ∙ ap (λ (xs : List ℕ). xs ++ t.rest) none)) t.second))
      go (suc n) some =
          record {
            front = c ∷ t.front;
            rest = t.rest;
            whole = ap (λ (xs : List ℕ). c ∷ xs) t.whole;
            first = record { count = suc n; all = in_front f some };
            second = t.second;
          }

  pub closing_white : (most : ℕ) (around : List Kind) (ys : List ℕ) → closing most around ys → closing most around (c ∷ ys)
  unfolding closing
  closing_white most [] ys t = spaced c e t
  closing_white most (in_object ∷ around) ys t = many_white ys (λ w. in_front mark_white) (λ w. marked) t
  closing_white most (in_array ∷ around) ys t = many_white ys (λ w. in_front mark_white) (λ w. marked) t

  now_white : (most : ℕ) (kind : Kind) (around : List Kind) (ys : List ℕ) → closing_now most kind around ys → closing_now most kind around (c ∷ ys)
  now_white most in_object [] ys t = t
  now_white most in_array [] ys t = t
  now_white most in_object (in_object ∷ around) ys t = marked t
  now_white most in_object (in_array ∷ around) ys t = t
  now_white most in_array (in_object ∷ around) ys t = t
  now_white most in_array (in_array ∷ around) ys t = marked t

  pub due_white : (most : ℕ) (due : Due) (around : List Kind) (ys : List ℕ) → after_due most due around ys → after_due most due around (c ∷ ys)
  unfolding after_due json.payload_to
  due_white most outer around ys t = spaced c e t
  due_white most first_name around ys (inl t) = inl (now_white most in_object around ys t)
  due_white most first_name around ys (inr t) = inr (spaced c e t)
  due_white most first_value around ys (inl t) = inl (now_white most in_array around ys t)
  due_white most first_value around ys (inr t) = inr (spaced c e t)
  due_white most name around ys t = spaced c e t
  due_white most colon around ys t = marked t
  due_white most value around ys t = spaced c e t
  due_white most behind around ys t = closing_white most around ys t
