-- One byte put in front of what may follow it, wherever the reading stands; and so a payload that was read to its end is one by the grammar.
use mathlib.Core.Path.{◌≡◌, refl, sym, ap, subst, ◌∙◌}
use mathlib.Core.Bool.{Bool, true, false, cond}
use mathlib.Core.List.{List, [], ◌∷◌}
use mathlib.Core.Logic.{inl, inr}
use Prim.Native.Nat.{ℕ, suc, ◌-◌, ◌≤◌}
use native.Mathlib.Omega.{arith}
use borrow.Author.Tests.{eqb-true, eqb-false, ltb-false}
use lib.Dec.{eqb, ltb}
use lib.ListN.{length}
use Rattle.json_grammar.specs.Language.{Language, byte, ◌then◌, perhaps, many}
use Rattle.json_grammar.specs.Json as json
use Rattle.json_scan.specs.Scan.{is_white, is_digit, exactly, Kind, in_object, in_array, Due, outer, first_name, first_value, name, colon, value, behind, leading_zero, minus, whole, State, between, number, text, escape, rest, ended, Move, nowhere, to, value_step, name_step, behind_step, token_move, between_move, move_of}
use Rattle.json_sound.proofs.Reach.{goes, reach, nowhere_else, same_state}
use Rattle.json_sound.proofs.Parts.{in_front, begin_with, leave_out, onto_first, onto_second, ungroup, many-none, once_more}
use Rattle.json_sound.proofs.After.{inside, closing, closing_now, with_value, with_name, after_due, in_text, after, Led}
use Rattle.json_sound.proofs.Spaces.{ws-none, mark_here, mark_spaced, due_white}
use Rattle.json_sound.proofs.Tokens.{by_test, is_byte, rest_back, escape_back, text_back}
use Rattle.json_sound.proofs.Values.{number_value, string_value, false_value, null_value, true_value, object_value, array_value, spells, signed, unsigned, zero_int, digit-int, number_back}

-- ---- parts put together

-- a name, its colon and its value are a member
member_group :
    {v two : Language} {word : List ℕ} → (json.string then (json.name_separator then (v then two))) word → (json.member v then two) word
member_group t = ungroup (onto_second (λ w. ungroup) t)

-- a mark, the characters and the closing mark are a string
string_group : {two : Language} {word : List ℕ} → (byte 34 then (many json.char then (byte 34 then two))) word → (json.string then two) word
string_group t = ungroup (onto_second (λ w. ungroup) t)

-- the opening byte, what is in it and the closing byte
object_group :
    {v two : Language} {word : List ℕ} → (json.string then (json.name_separator then (v then (many (json.value_separator then json.member v) then (json.end_object then two))))) word →
    ((perhaps (json.member v then many (json.value_separator then json.member v)) then json.end_object) then two) word
object_group t = ungroup (onto_first (λ w m. inr m) (ungroup (member_group t)))

array_group :
    {v two : Language} {word : List ℕ} → (v then (many (json.value_separator then v) then (json.end_array then two))) word →
    ((perhaps (v then many (json.value_separator then v)) then json.end_array) then two) word
array_group t = ungroup (onto_first (λ w m. inr m) (ungroup t))

-- a byte that is this one
this : (x : ℕ) (one : Language) (c : ℕ) (ys : List ℕ) → eqb c x ≡ true → one (x ∷ ys) → one (c ∷ ys)
this x one c ys t = subst (λ (y : ℕ). one (y ∷ ys)) (sym (eqb-true c x t))

-- ---- objects and arrays

module _ (most : ℕ) (around : List Kind) (ys : List ℕ) where
  pub object_back : after_due most first_name (in_object ∷ around) ys → (json.object (inside most (in_object ∷ around)) then closing most around) (123 ∷ ys)
  unfolding after_due closing
  object_back (inl t) = ungroup (mark_here (ungroup (leave_out (inl refl) t)))
  object_back (inr t) = ungroup (mark_spaced (onto_second (λ w. object_group) t))

  array_back : after_due most first_value (in_array ∷ around) ys → (json.array (inside most (in_array ∷ around)) then closing most around) (91 ∷ ys)
  unfolding after_due closing
  array_back (inl t) = ungroup (mark_here (ungroup (leave_out (inl refl) t)))
  array_back (inr t) = ungroup (mark_spaced (onto_second (λ w. array_group) t))

-- ---- a value begins

module _ (most : ℕ) (around : List Kind) (c : ℕ) (ys : List ℕ) where
  text_value : eqb c 34 ≡ true → in_text most behind around ys → with_value most around (c ∷ ys)
  unfolding after_due
  text_value t led = onto_first (string_value (most - length around)) (string_group (begin_with (is_byte 34 c t) led))

  object_begins : eqb c 123 ≡ true → Led most ys (to (between first_name) (in_object ∷ around)) → with_value most around (c ∷ ys)
  unfolding after
  object_begins t led = this 123 (with_value most around) c ys t (onto_first (object_value most around led.0) (object_back most around ys led.1))

  array_begins : eqb c 91 ≡ true → Led most ys (to (between first_value) (in_array ∷ around)) → with_value most around (c ∷ ys)
  unfolding after
  array_begins t led = this 91 (with_value most around) c ys t (onto_first (array_value most around led.0) (array_back most around ys led.1))

  value_back : Led most ys (value_step around c) → with_value most around (c ∷ ys)
  unfolding value_step after after_due
  value_back =
      by_test most ys (eqb c 34) (to (text behind) around) _ (λ t led. text_value t led.1)
      (λ _. by_test most ys (eqb c 123) (to (between first_name) (in_object ∷ around)) _ object_begins
      (λ _. by_test most ys (eqb c 91) (to (between first_value) (in_array ∷ around)) _ array_begins
      (λ _. by_test most ys (eqb c 45) (to (number minus) around) _
      (λ t led. this 45 (with_value most around) c ys t (in_front (λ w f. number_value (most - length around) (45 ∷ w) (signed w f)) led.1))
      (λ _. by_test most ys (eqb c 48) (to (number leading_zero) around) _
      (λ t led. this 48 (with_value most around) c ys t (in_front (λ w f. number_value (most - length around) (48 ∷ w) (unsigned (48 ∷ w) (zero_int w f))) led.1))
      (λ z. by_test most ys (is_digit c) (to (number whole) around) _
      (λ t led. in_front (λ w f. number_value (most - length around) (c ∷ w) (unsigned (c ∷ w) (digit-int c t (eqb-false c 48 z) w f))) led.1)
      (λ _. by_test most ys (eqb c 102) (to (rest (exactly 97) (exactly 108 ∷ exactly 115 ∷ exactly 101 ∷ []) (between behind)) around) _
      (λ t led. this 102 (with_value most around) c ys t (in_front (λ w s. false_value (most - length around) (102 ∷ w) (ap (λ (xs : List ℕ). 102 ∷ xs) (spells (97 ∷ 108 ∷ 115 ∷ 101 ∷ []) w s))) led.1))
      (λ _. by_test most ys (eqb c 110) (to (rest (exactly 117) (exactly 108 ∷ exactly 108 ∷ []) (between behind)) around) _
      (λ t led. this 110 (with_value most around) c ys t (in_front (λ w s. null_value (most - length around) (110 ∷ w) (ap (λ (xs : List ℕ). 110 ∷ xs) (spells (117 ∷ 108 ∷ 108 ∷ []) w s))) led.1))
      (λ _. by_test most ys (eqb c 116) (to (rest (exactly 114) (exactly 117 ∷ exactly 101 ∷ []) (between behind)) around) nowhere
      (λ t led. this 116 (with_value most around) c ys t (in_front (λ w s. true_value (most - length around) (116 ∷ w) (ap (λ (xs : List ℕ). 116 ∷ xs) (spells (114 ∷ 117 ∷ 101 ∷ []) w s))) led.1))
      (λ _ led. absurd led)))))))))

  name_back : Led most ys (name_step around c) → with_name most around (c ∷ ys)
  unfolding after after_due
  name_back = by_test most ys (eqb c 34) (to (text colon) around) nowhere (λ t led. string_group (begin_with (is_byte 34 c t) led.1)) (λ t led. absurd led)

-- ---- behind a value

-- the zero byte
over : (most : ℕ) (c : ℕ) (ys : List ℕ) → Led most ys (behind_step [] c) → closing most [] (c ∷ ys)
unfolding behind_step closing after
over most c ys = by_test most ys (eqb c 0) (to ended []) nowhere (λ t led. leave_out ws-none (ap (λ (n : ℕ). n ∷ ys) (eqb-true c 0 t) ∙ ap (λ (xs : List ℕ). 0 ∷ xs) led.1)) (λ t led. absurd led)

behind_back : (most : ℕ) (around : List Kind) (c : ℕ) (ys : List ℕ) → Led most ys (behind_step around c) → closing most around (c ∷ ys)
unfolding behind_step closing after after_due
behind_back most [] c ys = over most c ys
behind_back most (in_object ∷ around) c ys =
    by_test most ys (eqb c 44) (to (between name) (in_object ∷ around)) _
    (λ t led. this 44 (closing most (in_object ∷ around)) c ys t (once_more (ungroup (mark_spaced (onto_second (λ w. member_group) led.1)))))
    (λ _. by_test most ys (eqb c 125) (to (between behind) around) nowhere
    (λ t led. this 125 (closing most (in_object ∷ around)) c ys t (leave_out many-none (mark_here led.1)))
    (λ _ led. absurd led))
behind_back most (in_array ∷ around) c ys =
    by_test most ys (eqb c 44) (to (between value) (in_array ∷ around)) _
    (λ t led. this 44 (closing most (in_array ∷ around)) c ys t (once_more (ungroup (mark_spaced led.1))))
    (λ _. by_test most ys (eqb c 93) (to (between behind) around) nowhere
    (λ t led. this 93 (closing most (in_array ∷ around)) c ys t (leave_out many-none (mark_here led.1)))
    (λ _ led. absurd led))

-- at once behind the opening byte: only what was opened is closed
now_back : (most : ℕ) (around : List Kind) (ys : List ℕ) → (Led most ys (behind_step around 125) → closing_now most in_object around (125 ∷ ys)) × (Led most ys (behind_step around 93) → closing_now most in_array around (93 ∷ ys))
unfolding behind_step after after_due
now_back most [] ys = ((λ led. led), (λ led. led))
now_back most (in_object ∷ around) ys = ((λ led. mark_here led.1), (λ led. led))
now_back most (in_array ∷ around) ys = ((λ led. led), (λ led. mark_here led.1))

-- ---- between tokens

outer_back : (most : ℕ) (c : ℕ) (ys : List ℕ) → eqb c 123 ≡ true → Led most ys (to (between first_name) (in_object ∷ [])) → json.payload_to most (c ∷ ys)
unfolding after closing json.payload_to
outer_back most c ys t led =
    let one : most ≡ suc (most - 1) = omega (arith, led.0) in
    this 123 (json.payload_to most) c ys t
    (leave_out ws-none (onto_first (λ w o. subst (λ (n : ℕ). json.object_to n w) (sym one) o) (object_back most [] ys led.1)))

module _ (most : ℕ) (around : List Kind) (c : ℕ) (ys : List ℕ) where
  token_back : (due : Due) → Led most ys (token_move due around c) → after_due most due around (c ∷ ys)
  unfolding token_move after_due after
  token_back outer = by_test most ys (eqb c 123) (to (between first_name) (in_object ∷ [])) nowhere (outer_back most c ys) (λ _ led. absurd led)
  token_back first_name =
      by_test most ys (eqb c 125) (behind_step around c) (name_step around c)
      (λ t led. inl (this 125 (closing_now most in_object around) c ys t ((now_back most around ys).0 (subst (λ (x : ℕ). Led most ys (behind_step around x)) (eqb-true c 125 t) led))))
      (λ _ led. inr (leave_out ws-none (name_back most around c ys led)))
  token_back first_value =
      by_test most ys (eqb c 93) (behind_step around c) (value_step around c)
      (λ t led. inl (this 93 (closing_now most in_array around) c ys t ((now_back most around ys).1 (subst (λ (x : ℕ). Led most ys (behind_step around x)) (eqb-true c 93 t) led))))
      (λ _ led. inr (leave_out ws-none (value_back most around c ys led)))
  token_back name = λ led. leave_out ws-none (name_back most around c ys led)
  token_back colon = by_test most ys (eqb c 58) (to (between value) around) nowhere (λ t led. this 58 (after_due most colon around) c ys t (mark_spaced led.1)) (λ _ led. absurd led)
  token_back value = λ led. leave_out ws-none (value_back most around c ys led)
  token_back behind = λ led. behind_back most around c ys led

  between_back : (due : Due) → Led most ys (between_move due around c) → after_due most due around (c ∷ ys)
  unfolding between_move after
  between_back due = by_test most ys (is_white c) (to (between due) around) (token_move due around c) (λ t led. due_white c t most due around ys led.1) (λ _ led. token_back due led)

  -- ---- any byte

  behind_value : Led most ys (between_move behind around c) → closing most around (c ∷ ys)
  unfolding after_due
  behind_value led = between_back behind led

  pub step_back : (state : State) → Led most ys (move_of state around c) → after most state around (c ∷ ys)
  unfolding move_of after
  step_back (between due) led = between_back due led
  step_back (number figure) led = number_back most around c ys behind_value figure led
  step_back (text due) led = text_back most due around c ys led
  step_back (escape due) led = escape_back most due around c ys led
  step_back (rest k ks next) led = rest_back most k ks next around c ys led
  step_back ended led = absurd led

-- ---- a whole payload

-- it was read to its end
pub reached_after : (most : ℕ) (xs : List ℕ) (state : State) (around left : List Kind) → reach most state around xs ≡ to ended left → after most state around xs
unfolding reach after
reached_after most [] state around left e = subst (λ (s : State). after most s around []) (sym (same_state e)) refl
reached_after most (x ∷ xs) state around left e = step_back most around x xs state (by (λ state₁ around₁. reached_after most xs state₁ around₁ left) (move_of state around x) e)
  where
    by :
        ((state₁ : State) (around₁ : List Kind) → reach most state₁ around₁ xs ≡ to ended left → after most state₁ around₁ xs) → (s : Move) →
        goes most (λ state₁ around₁. reach most state₁ around₁ xs) s ≡ to ended left → Led most xs s
    by again nowhere e = nowhere_else e
    by again (to state₁ around₁) e = test (ltb most (length around₁)) refl e
      where
        test : (t : Bool) → ltb most (length around₁) ≡ t → cond t nowhere (reach most state₁ around₁ xs) ≡ to ended left → (length around₁ ≤ most) × after most state₁ around₁ xs
        test true l e = absurd (nowhere_else e)
        test false l e = (ltb-false most (length around₁) l, again state₁ around₁ e)

-- and is one
pub reached_payload : (most : ℕ) (payload : List ℕ) (left : List Kind) → reach most (between outer) [] payload ≡ to ended left → json.payload_to most payload
unfolding after after_due
reached_payload most payload left e = reached_after most payload (between outer) [] left e
