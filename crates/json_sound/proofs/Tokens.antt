-- A byte of a string or of the rest of a token, put in front of what may follow it.
use mathlib.Core.Path.{◌≡◌, refl, ap, subst, ◌∙◌}
use mathlib.Core.Bool.{Bool, true, false, cond, ◌||◌}
use mathlib.Core.List.{List, [], ◌∷◌}
use mathlib.Core.Logic.{inl, inr, ⊎_elim}
use Prim.Native.Nat.{ℕ, suc}
use native.Mathlib.Omega.{arith}
use borrow.Author.Tests.{eqb-true, eqb-false, ne_eqb, ltb-true, ltb-false}
use lib.Dec.{eqb, ltb}
use lib.ListN.{length}
use Rattle.bytes_number.proofs.Truth.{outcome}
use Rattle.json_grammar.specs.Language.{Language, byte, range, ◌then◌}
use Rattle.json_grammar.specs.Utf8 as utf8
use Rattle.json_grammar.specs.Json as json
use Rattle.json_scan.specs.Scan.{is_within, is_digit, is_hex_digit, is_escape, Class, exactly, hex, tail, tail_E0, tail_ED, tail_F0, tail_F4, holds, second_of, tails_of, Kind, Due, State, between, text, escape, rest, Move, nowhere, to, remaining, tail_move, text_move, escape_move, rest_move}
use Rattle.json_scan.proofs.Bytes.{within, is_within_lem}
use Rattle.json_sound.proofs.Parts.{in_front, begin_with, leave_out, onto_second, end_here, ungroup, many-none, once_more}
use Rattle.json_sound.proofs.After.{class, classes, in_text, after, Led}
use Rattle.json_sound.proofs.Spaces.{one_of}

-- a step by a test: whichever way it goes
pub by_test :
    (most : ℕ) (ys : List ℕ) {A : Type 0} (t : Bool) (one two : Move) → (t ≡ true → Led most ys one → A) → (t ≡ false → Led most ys two → A) → Led most ys (cond t one two) → A
by_test most ys true one two f g = f refl
by_test most ys false one two f g = g refl

pub in_range : (a b c : ℕ) → is_within a b c ≡ true → range a b (c ∷ [])
in_range a b c e = let w = is_within_lem a b c e in record { value = c; whole = refl; least = w.0; most = w.1 }

pub is_byte : (x c : ℕ) → eqb c x ≡ true → byte x (c ∷ [])
is_byte x c t = ap (λ (n : ℕ). n ∷ []) (eqb-true c x t)

-- ---- the rest of a token

hex_byte : (c : ℕ) → is_hex_digit c ≡ true → json.hex_digit (c ∷ [])
unfolding is_hex_digit
hex_byte c =
    one_of (is_digit c || is_within 65 70 c) (is_within 97 102 c)
    (one_of (is_digit c) (is_within 65 70 c) (λ t. inl (in_range 48 57 c t)) (λ t. inr (inl (in_range 65 70 c t))))
    (λ t. inr (inr (in_range 97 102 c t)))

class_byte : (k : Class) (c : ℕ) → holds k c ≡ true → class k (c ∷ [])
unfolding holds
class_byte (exactly x) c e = is_byte x c e
class_byte hex c e = hex_byte c e
class_byte tail c e = in_range 128 191 c e
class_byte tail_E0 c e = in_range 160 191 c e
class_byte tail_ED c e = in_range 128 159 c e
class_byte tail_F0 c e = in_range 144 191 c e
class_byte tail_F4 c e = in_range 128 143 c e

-- what is still to come, and then the next state
remaining_after : (most : ℕ) (ks : List Class) (next : State) (around : List Kind) (ys : List ℕ) → after most (remaining ks next) around ys → (classes ks then after most next around) ys
unfolding after
remaining_after most [] next around ys t = leave_out refl t
remaining_after most (k ∷ ks) next around ys t = t

pub rest_back : (most : ℕ) (k : Class) (ks : List Class) (next : State) (around : List Kind) (c : ℕ) (ys : List ℕ) → Led most ys (rest_move k ks next around c) → after most (rest k ks next) around (c ∷ ys)
unfolding rest_move after
rest_back most k ks next around c ys =
    by_test most ys (holds k c) (to (remaining ks next) around) nowhere
    (λ t led. ungroup (begin_with (class_byte k c t) (remaining_after most ks next around ys led.1)))
    (λ t led. absurd led)

-- ---- behind a backslash

-- an escape of one byte, and the four hex digits
one_escape : (c : ℕ) → is_escape c ≡ true → json.escaped (c ∷ [])
unfolding is_escape
one_escape c =
    one_of (eqb c 34 || eqb c 92 || eqb c 47 || eqb c 98 || eqb c 102 || eqb c 110 || eqb c 114) (eqb c 116)
    (one_of (eqb c 34 || eqb c 92 || eqb c 47 || eqb c 98 || eqb c 102 || eqb c 110) (eqb c 114)
    (one_of (eqb c 34 || eqb c 92 || eqb c 47 || eqb c 98 || eqb c 102) (eqb c 110)
    (one_of (eqb c 34 || eqb c 92 || eqb c 47 || eqb c 98) (eqb c 102)
    (one_of (eqb c 34 || eqb c 92 || eqb c 47) (eqb c 98)
    (one_of (eqb c 34 || eqb c 92) (eqb c 47)
    (one_of (eqb c 34) (eqb c 92) (λ t. inl (is_byte 34 c t)) (λ t. inr (inl (is_byte 92 c t))))
    (λ t. inr (inr (inl (is_byte 47 c t)))))
    (λ t. inr (inr (inr (inl (is_byte 98 c t))))))
    (λ t. inr (inr (inr (inr (inl (is_byte 102 c t)))))))
    (λ t. inr (inr (inr (inr (inr (inl (is_byte 110 c t))))))))
    (λ t. inr (inr (inr (inr (inr (inr (inl (is_byte 114 c t)))))))))
    (λ t. inr (inr (inr (inr (inr (inr (inr (inl (is_byte 116 c t)))))))))

pub escape_back : (most : ℕ) (due : Due) (around : List Kind) (c : ℕ) (ys : List ℕ) → Led most ys (escape_move due around c) → after most (escape due) around (c ∷ ys)
unfolding escape_move after
escape_back most due around c ys =
    by_test most ys (is_escape c) (to (text due) around) (cond (eqb c 117) (to (rest hex (hex ∷ hex ∷ hex ∷ []) (text due)) around) nowhere)
    (λ t led. begin_with (one_escape c t) led.1)
    (λ _. by_test most ys (eqb c 117) (to (rest hex (hex ∷ hex ∷ hex ∷ []) (text due)) around) nowhere
    (λ t led. in_front (λ word w. inr (inr (inr (inr (inr (inr (inr (inr (begin_with (is_byte 117 c t) w))))))))) led.1)
    (λ t led. absurd led))

-- ---- in a string

-- a character in front of the rest of a string
char_more : (most : ℕ) (due : Due) (around : List Kind) (c : ℕ) (ys : List ℕ) (one : Language) → ((word : List ℕ) → one word → json.char (c ∷ word)) → (one then in_text most due around) ys → in_text most due around (c ∷ ys)
char_more most due around c ys one f t = once_more (in_front f t)

-- ---- characters of more than one byte

second_plain : (c : ℕ) → (c ≡ 224 → ⊥) → (c ≡ 237 → ⊥) → (c ≡ 240 → ⊥) → (c ≡ 244 → ⊥) → second_of c ≡ tail
unfolding second_of
second_plain c p q r s = rw (ne_eqb c 224 p, ne_eqb c 237 q, ne_eqb c 240 r, ne_eqb c 244 s) refl

second_of_lem : (c x : ℕ) (k : Class) → second_of x ≡ k → eqb c x ≡ true → second_of c ≡ k
second_of_lem c x k e t = ap second_of (eqb-true c x t) ∙ e

-- what follows the first byte, if the second is of this class
follows : (c : ℕ) (k : Class) (ks : List Class) (word : List ℕ) → second_of c ≡ k → classes (second_of c ∷ ks) word → classes (k ∷ ks) word
follows c k ks word e = subst (λ (x : Class). classes (x ∷ ks) word) e

two_bytes_lem : (c : ℕ) (word : List ℕ) → is_within 194 223 c ≡ true → classes (second_of c ∷ []) word → utf8.two_bytes (c ∷ word)
two_bytes_lem c word t w =
    let l = is_within_lem 194 223 c t in
    let plain = second_plain c (λ e. omega (arith, l.1, e)) (λ e. omega (arith, l.1, e)) (λ e. omega (arith, l.1, e)) (λ e. omega (arith, l.1, e)) in
    begin_with (in_range 194 223 c t) (end_here (follows c tail [] word plain w))

three_bytes_lem : (c : ℕ) (word : List ℕ) → is_within 224 239 c ≡ true → classes (second_of c ∷ tail ∷ []) word → utf8.three_bytes (c ∷ word)
unfolding second_of
three_bytes_lem c word t w =
    let l = is_within_lem 224 239 c t in
    ⊎_elim
    (λ e. inl (begin_with (is_byte 224 c e) (onto_second (λ x. end_here) (follows c tail_E0 (tail ∷ []) word (second_of_lem c 224 tail_E0 refl e) w))))
    (λ ne. ⊎_elim
    (λ e. inr (inr (inl (begin_with (is_byte 237 c e) (onto_second (λ x. end_here) (follows c tail_ED (tail ∷ []) word (second_of_lem c 237 tail_ED refl e) w))))))
    (λ nd.
    let no-e0 = eqb-false c 224 ne in
    let no-ed = eqb-false c 237 nd in
    let plain = follows c tail (tail ∷ []) word (second_plain c no-e0 no-ed (λ e. omega (arith, l.1, e)) (λ e. omega (arith, l.1, e))) w in
    ⊎_elim
    (λ low. inr (inl (begin_with (in_range 225 236 c (within 225 236 c (omega (arith, l.0, no-e0)) (omega (arith, ltb-true c 237 low)))) plain)))
    (λ high. inr (inr (inr (begin_with (in_range 238 239 c (within 238 239 c (omega (arith, ltb-false c 237 high, no-ed)) l.1)) plain))))
    (outcome (ltb c 237)))
    (outcome (eqb c 237)))
    (outcome (eqb c 224))

four_bytes_lem : (c : ℕ) (word : List ℕ) → is_within 240 244 c ≡ true → classes (second_of c ∷ tail ∷ tail ∷ []) word → utf8.four_bytes (c ∷ word)
unfolding second_of
four_bytes_lem c word t w =
    let l = is_within_lem 240 244 c t in
    ⊎_elim
    (λ e. inl (begin_with (is_byte 240 c e) (follows c tail_F0 (tail ∷ tail ∷ []) word (second_of_lem c 240 tail_F0 refl e) w)))
    (λ ne. ⊎_elim
    (λ e. inr (inr (begin_with (is_byte 244 c e) (follows c tail_F4 (tail ∷ tail ∷ []) word (second_of_lem c 244 tail_F4 refl e) w))))
    (λ nd.
    let no-f0 = eqb-false c 240 ne in
    let no-f4 = eqb-false c 244 nd in
    let plain = follows c tail (tail ∷ tail ∷ []) word (second_plain c (λ e. omega (arith, l.0, e)) (λ e. omega (arith, l.0, e)) no-f0 no-f4) w in
    inr (inl (begin_with (in_range 241 243 c (within 241 243 c (omega (arith, l.0, no-f0)) (omega (arith, l.1, no-f4)))) plain)))
    (outcome (eqb c 244)))
    (outcome (eqb c 240))

-- the bytes behind a first one make a character with it; behind any other byte there is none
tails_back :
    (most : ℕ) (due : Due) (around : List Kind) (c : ℕ) (ys : List ℕ) (ks : List Class) → ((word : List ℕ) → classes ks word → (ks ≡ [] → ⊥) → json.char (c ∷ word)) →
    Led most ys (tail_move ks (text due) around) → in_text most due around (c ∷ ys)
unfolding after
tails_back most due around c ys [] f led = absurd led
tails_back most due around c ys (k ∷ ks) f led = char_more most due around c ys (classes (k ∷ ks)) (λ word w. f word w some) led.1
  where
    some : k ∷ ks ≡ [] → ⊥
    some e = let z : ◌≡◌ {A = ℕ} (suc (length ks)) 0 = ap length e in omega (arith, z)

lead_char : (c : ℕ) (word : List ℕ) → classes (tails_of c) word → (tails_of c ≡ [] → ⊥) → json.char (c ∷ word)
unfolding tails_of
lead_char c word = go (is_within 194 223 c) (is_within 224 239 c) (is_within 240 244 c) (λ t. two_bytes_lem c word t) (λ t. three_bytes_lem c word t) (λ t. four_bytes_lem c word t)
  where
    go :
        (t u v : Bool) → (t ≡ true → classes (second_of c ∷ []) word → utf8.two_bytes (c ∷ word)) → (u ≡ true → classes (second_of c ∷ tail ∷ []) word → utf8.three_bytes (c ∷ word)) →
        (v ≡ true → classes (second_of c ∷ tail ∷ tail ∷ []) word → utf8.four_bytes (c ∷ word)) →
        let ks : List Class = cond t (second_of c ∷ []) (cond u (second_of c ∷ tail ∷ []) (cond v (second_of c ∷ tail ∷ tail ∷ []) [])) in
        classes ks word → (ks ≡ [] → ⊥) → json.char (c ∷ word)
    go true u v f g h w some = inl (inr (inr (inr (inl (f refl w)))))
    go false true v f g h w some = inl (inr (inr (inr (inr (inl (g refl w))))))
    go false false true f g h w some = inl (inr (inr (inr (inr (inr (h refl w))))))
    go false false false f g h w some = absurd (some refl)

-- a byte that stands for itself
plain-char : (c : ℕ) → is_within 32 127 c ≡ true → (c ≡ 34 → ⊥) → (c ≡ 92 → ⊥) → json.char (c ∷ [])
plain-char c t q b =
    let l = is_within_lem 32 127 c t in
    ⊎_elim
    (λ low. inl (inl (in_range 32 33 c (within 32 33 c l.0 (omega (arith, ltb-true c 34 low))))))
    (λ high. ⊎_elim
    (λ mid. inl (inr (inl (in_range 35 91 c (within 35 91 c (omega (arith, ltb-false c 34 high, q)) (omega (arith, ltb-true c 92 mid)))))))
    (λ top. inl (inr (inr (inl (in_range 93 127 c (within 93 127 c (omega (arith, ltb-false c 92 top, b)) l.1))))))
    (outcome (ltb c 92)))
    (outcome (ltb c 34))

pub text_back : (most : ℕ) (due : Due) (around : List Kind) (c : ℕ) (ys : List ℕ) → Led most ys (text_move due around c) → after most (text due) around (c ∷ ys)
unfolding text_move after
text_back most due around c ys =
    by_test most ys (eqb c 34) (to (between due) around) _
    (λ t led. leave_out many-none (begin_with (is_byte 34 c t) led.1))
    (λ q. by_test most ys (eqb c 92) (to (escape due) around) _
    (λ t led. char_more most due around c ys json.escaped (λ word w. inr (begin_with (is_byte 92 c t) w)) led.1)
    (λ b. by_test most ys (is_within 32 127 c) (to (text due) around) _
    (λ t led. once_more (begin_with (plain-char c t (eqb-false c 34 q) (eqb-false c 92 b)) led.1))
    (λ t led. tails_back most due around c ys (tails_of c) (lead_char c) led)))
