-- A byte of a number, or one between tokens, put in front of what may follow it.
use mathlib.Core.Path.{◌≡◌, refl, sym, ap, subst, ◌∙◌}
use mathlib.Core.Bool.{true, cond}
use mathlib.Core.List.{List, [], ◌∷◌, ◌++◌}
use mathlib.Core.Logic.{inl, inr}
use Prim.Native.Nat.{ℕ, zero, suc, ◌-◌, ◌≤◌}
use native.Mathlib.Omega.{arith}
use borrow.Author.Tests.{eqb-true, eqb-false}
use lib.Dec.{eqb}
use lib.ListN.{length}
use Rattle.json_grammar.specs.Language.{Language, range, ◌then◌, perhaps, many, some}
use Rattle.json_grammar.specs.Json as json
use Rattle.json_scan.specs.Scan.{is_digit, is_e, is_sign, Class, exactly, Kind, in_object, in_array, behind, Figure, minus, leading_zero, whole, point, fraction, exponent, sign, power, number, nowhere, to, between_move, number_move}
use Rattle.json_scan.proofs.Bytes.{within, is_within_lem}
use Rattle.json_sound.proofs.Parts.{in_front, begin_with, leave_out, many-none, many_more, once_more}
use Rattle.json_sound.proofs.After.{inside, closing, figures, classes, after, Led}
use Rattle.json_sound.proofs.Spaces.{one_of}
use Rattle.json_sound.proofs.Tokens.{by_test, in_range, is_byte}

-- ---- what a value may be, at whatever depth

pub number_value : (n : ℕ) (word : List ℕ) → json.number word → json.value_to n word
number_value zero word w = inr (inr (inr (inl w)))
number_value (suc n) word w = inr (inr (inr (inr (inr (inl w)))))

pub string_value : (n : ℕ) (word : List ℕ) → json.string word → json.value_to n word
string_value zero word w = inr (inr (inr (inr w)))
string_value (suc n) word w = inr (inr (inr (inr (inr (inr w)))))

pub false_value : (n : ℕ) (word : List ℕ) → json.false_name word → json.value_to n word
false_value zero word w = inl w
false_value (suc n) word w = inl w

pub null_value : (n : ℕ) (word : List ℕ) → json.null_name word → json.value_to n word
null_value zero word w = inr (inl w)
null_value (suc n) word w = inr (inl w)

pub true_value : (n : ℕ) (word : List ℕ) → json.true_name word → json.value_to n word
true_value zero word w = inr (inr (inl w))
true_value (suc n) word w = inr (inr (inl w))

-- an object or an array takes a level
level : (most l : ℕ) → suc l ≤ most → most - l ≡ suc (most - suc l)
level most l h = omega (arith, h)

pub object_value : (most : ℕ) (around : List Kind) → length (in_object ∷ around) ≤ most → (word : List ℕ) → json.object (inside most (in_object ∷ around)) word → inside most around word
object_value most around l word w = subst (λ (n : ℕ). json.value_to n word) (sym (level most (length around) l)) (inr (inr (inr (inl w))))

pub array_value : (most : ℕ) (around : List Kind) → length (in_array ∷ around) ≤ most → (word : List ℕ) → json.array (inside most (in_array ∷ around)) word → inside most around word
array_value most around l word w = subst (λ (n : ℕ). json.value_to n word) (sym (level most (length around) l)) (inr (inr (inr (inr (inl w)))))

-- ---- literal names

-- bytes one after another are the word that they spell
abbrev spelling : List ℕ → List Class
spelling [] = []
spelling (x ∷ xs) = exactly x ∷ spelling xs

pub spells : (xs word : List ℕ) → classes (spelling xs) word → word ≡ xs
spells [] word w = w
spells (x ∷ xs) word w =
    w.whole ∙ ap (λ (ys : List ℕ). ys ++ w.rest) w.first ∙ ap (λ (ys : List ℕ). x ∷ ys) (spells xs w.rest w.second)

-- ---- numbers

ends : perhaps json.exp []
ends = inl refl

no_more : (perhaps json.frac then perhaps json.exp) []
no_more = leave_out (inl refl) ends

-- a minus, or none
pub signed : (word : List ℕ) → figures minus word → json.number (45 ∷ word)
signed word w = begin_with (inr refl) w

pub unsigned : (word : List ℕ) → figures minus word → json.number word
unsigned word w = leave_out (inl refl) w

pub digit-byte : (c : ℕ) → is_digit c ≡ true → json.digit (c ∷ [])
digit-byte c e = in_range 48 57 c e

first-digit : (c : ℕ) → is_digit c ≡ true → (c ≡ 48 → ⊥) → range 49 57 (c ∷ [])
first-digit c e z = let l = is_within_lem 48 57 c e in in_range 49 57 c (within 49 57 c (omega (arith, l.0, z)) l.1)

-- int begins
pub zero_int : (word : List ℕ) → figures leading_zero word → figures minus (48 ∷ word)
zero_int word w = begin_with (inl refl) w

pub digit-int : (c : ℕ) → is_digit c ≡ true → (c ≡ 48 → ⊥) → (word : List ℕ) → figures whole word → figures minus (c ∷ word)
digit-int c e z word w = in_front (λ v m. inr (begin_with (first-digit c e z) m)) w

-- a digit more
more_digits : {two : Language} (c : ℕ) → is_digit c ≡ true → (word : List ℕ) → (many json.digit then two) word → (many json.digit then two) (c ∷ word)
more_digits c e word w = once_more (begin_with (digit-byte c e) w)

first_of : {two : Language} (c : ℕ) → is_digit c ≡ true → (word : List ℕ) → (many json.digit then two) word → (some json.digit then two) (c ∷ word)
first_of c e word w = in_front (λ v m. begin_with (digit-byte c e) m) w

-- a point, an e and its sign
fraction_begins : (word : List ℕ) → figures point word → figures leading_zero (46 ∷ word)
fraction_begins word w = in_front (λ v s. inr (begin_with refl s)) w

exp_begins : (c : ℕ) → is_e c ≡ true → (word : List ℕ) → figures exponent word → perhaps json.exp (c ∷ word)
exp_begins c e word w = inr (begin_with (one_of (eqb c 101) (eqb c 69) (λ t. inl (is_byte 101 c t)) (λ t. inr (is_byte 69 c t)) e) w)

sign_stands : (c : ℕ) → is_sign c ≡ true → (word : List ℕ) → figures sign word → figures exponent (c ∷ word)
sign_stands c e word w = begin_with (inr (one_of (eqb c 45) (eqb c 43) (λ t. inl (is_byte 45 c t)) (λ t. inr (is_byte 43 c t)) e)) w

-- in front of what follows the number
put : (most : ℕ) (around : List Kind) (one two : Language) (c : ℕ) (ys : List ℕ) → ((word : List ℕ) → one word → two (c ∷ word)) → (one then closing most around) ys → (two then closing most around) (c ∷ ys)
put most around one two c ys f t = in_front f t

-- where it may end, what follows is what follows a value
module _ (most : ℕ) (around : List Kind) (c : ℕ) (ys : List ℕ) (back : Led most ys (between_move behind around c) → closing most around (c ∷ ys)) where
  exp_or_end : (f : Figure) → ((word : List ℕ) → perhaps json.exp word → figures f word) → Led most ys (cond (is_e c) (to (number exponent) around) (between_move behind around c)) → after most (number f) around (c ∷ ys)
  unfolding after
  exp_or_end f g =
      by_test most ys (is_e c) (to (number exponent) around) (between_move behind around c)
      (λ t led. put most around (figures exponent) (figures f) c ys (λ word w. g (c ∷ word) (exp_begins c t word w)) led.1)
      (λ t led. leave_out (g [] ends) (back led))

  int_over : (f : Figure) → ((word : List ℕ) → figures leading_zero word → figures f word) → Led most ys (cond (eqb c 46) (to (number point) around) (cond (is_e c) (to (number exponent) around) (between_move behind around c))) → after most (number f) around (c ∷ ys)
  unfolding after
  int_over f g =
      by_test most ys (eqb c 46) (to (number point) around) (cond (is_e c) (to (number exponent) around) (between_move behind around c))
      (λ t led. put most around (figures point) (figures f) c ys (λ word w. g (c ∷ word) (subst (λ (x : ℕ). figures leading_zero (x ∷ word)) (sym (eqb-true c 46 t)) (fraction_begins word w))) led.1)
      (λ t. exp_or_end f (λ word w. g word (leave_out (inl refl) w)))

  pub number_back : (f : Figure) → Led most ys (number_move f around c) → after most (number f) around (c ∷ ys)
  unfolding number_move after
  number_back minus =
      by_test most ys (eqb c 48) (to (number leading_zero) around) _
      (λ t led. put most around (figures leading_zero) (figures minus) c ys (λ word w. subst (λ (x : ℕ). figures minus (x ∷ word)) (sym (eqb-true c 48 t)) (zero_int word w)) led.1)
      (λ z. by_test most ys (is_digit c) (to (number whole) around) nowhere
      (λ t led. put most around (figures whole) (figures minus) c ys (digit-int c t (eqb-false c 48 z)) led.1)
      (λ t led. absurd led))
  number_back leading_zero = int_over leading_zero (λ word w. w)
  number_back whole =
      by_test most ys (is_digit c) (to (number whole) around) _
      (λ t led. put most around (figures whole) (figures whole) c ys (more_digits c t) led.1)
      (λ t. int_over whole (λ word w. leave_out many-none w))
  number_back point =
      by_test most ys (is_digit c) (to (number fraction) around) nowhere
      (λ t led. put most around (figures fraction) (figures point) c ys (first_of c t) led.1)
      (λ t led. absurd led)
  number_back fraction =
      by_test most ys (is_digit c) (to (number fraction) around) _
      (λ t led. put most around (figures fraction) (figures fraction) c ys (more_digits c t) led.1)
      (λ t. exp_or_end fraction (λ word w. leave_out many-none w))
  number_back exponent =
      by_test most ys (is_sign c) (to (number sign) around) _
      (λ t led. put most around (figures sign) (figures exponent) c ys (sign_stands c t) led.1)
      (λ s. by_test most ys (is_digit c) (to (number power) around) nowhere
      (λ t led. put most around (figures power) (figures exponent) c ys (λ word w. leave_out (inl refl) (begin_with (digit-byte c t) w)) led.1)
      (λ t led. absurd led))
  number_back sign =
      by_test most ys (is_digit c) (to (number power) around) nowhere
      (λ t led. put most around (figures power) (figures sign) c ys (λ word w. begin_with (digit-byte c t) w) led.1)
      (λ t led. absurd led)
  number_back power =
      by_test most ys (is_digit c) (to (number power) around) (between_move behind around c)
      (λ t led. put most around (figures power) (figures power) c ys (λ word w. many_more (begin_with (digit-byte c t) w)) led.1)
      (λ t led. leave_out many-none (back led))
