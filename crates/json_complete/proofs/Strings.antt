-- Strings, character by character.
use mathlib.Core.Path.{◌≡◌, refl}
use mathlib.Core.Bool.{true}
use mathlib.Core.List.{List, [], ◌∷◌}
use Prim.Native.Nat.{ℕ, ◌≤◌}
use native.Mathlib.Omega.{arith}
use borrow.Author.Tests.{ne_eqb}
use lib.ListN.{length}
use Rattle.json_grammar.specs.Language.{range, times}
use Rattle.json_grammar.specs.Utf8 as Utf8
use Rattle.json_grammar.specs.Json.{hex_digit, escaped, unescaped, char, string}
use Rattle.json_scan.specs.Scan.{is_within, is_hex_digit, is_escape, Class, hex, tail, tail_E0, tail_ED, tail_F0, tail_F4, holds, second_of, tails_of, Kind, Due, State, between, text, escape, rest, to, remaining, text_move, escape_move, rest_move, move_of}
use Rattle.json_scan.proofs.Bytes.{within, above}
use Rattle.json_complete.proofs.Goes.{Any, Goes, goes_nothing, goes_byte, goes_range, goes_or, goes_then, goes_many}

-- ---- one byte of a string

-- a byte that stands for itself
plain : (due : Due) (around : List Kind) (c : ℕ) → (c ≡ 34 → ⊥) → (c ≡ 92 → ⊥) → 32 ≤ c → c ≤ 127 → move_of (text due) around c ≡ to (text due) around
unfolding move_of text_move
plain due around c q b l m = rw (ne_eqb c 34 q, ne_eqb c 92 b, within 32 127 c l m) refl

-- the first byte of a character of two bytes
two : (due : Due) (around : List Kind) (c : ℕ) → 194 ≤ c → c ≤ 223 → move_of (text due) around c ≡ to (rest tail [] (text due)) around
unfolding move_of text_move tails_of second_of
two due around c l m =
    rw (
      ne_eqb c 34 (λ e. omega (arith, e, l)),
      ne_eqb c 92 (λ e. omega (arith, e, l)),
      above 32 127 c (omega (arith, l)),
      within 194 223 c l m,
      ne_eqb c 224 (λ e. omega (arith, e, m)),
      ne_eqb c 237 (λ e. omega (arith, e, m)),
      ne_eqb c 240 (λ e. omega (arith, e, m)),
      ne_eqb c 244 (λ e. omega (arith, e, m)),
    ) refl

-- of three bytes, but for E0 and ED
three : (due : Due) (around : List Kind) (c : ℕ) → 225 ≤ c → c ≤ 239 → (c ≡ 237 → ⊥) → move_of (text due) around c ≡ to (rest tail (tail ∷ []) (text due)) around
unfolding move_of text_move tails_of second_of
three due around c l m no-ED =
    rw (
      ne_eqb c 34 (λ e. omega (arith, e, l)),
      ne_eqb c 92 (λ e. omega (arith, e, l)),
      above 32 127 c (omega (arith, l)),
      above 194 223 c (omega (arith, l)),
      within 224 239 c (omega (arith, l)) m,
      ne_eqb c 224 (λ e. omega (arith, e, l)),
      ne_eqb c 237 no-ED,
      ne_eqb c 240 (λ e. omega (arith, e, m)),
      ne_eqb c 244 (λ e. omega (arith, e, m)),
    ) refl

-- of four bytes, but for F0 and F4
four : (due : Due) (around : List Kind) (c : ℕ) → 241 ≤ c → c ≤ 243 → move_of (text due) around c ≡ to (rest tail (tail ∷ tail ∷ []) (text due)) around
unfolding move_of text_move tails_of second_of
four due around c l m =
    rw (
      ne_eqb c 34 (λ e. omega (arith, e, l)),
      ne_eqb c 92 (λ e. omega (arith, e, l)),
      above 32 127 c (omega (arith, l)),
      above 194 223 c (omega (arith, l)),
      above 224 239 c (omega (arith, l)),
      within 240 244 c (omega (arith, l)) (omega (arith, m)),
      ne_eqb c 224 (λ e. omega (arith, e, l)),
      ne_eqb c 237 (λ e. omega (arith, e, l)),
      ne_eqb c 240 (λ e. omega (arith, e, l)),
      ne_eqb c 244 (λ e. omega (arith, e, m)),
    ) refl

-- the first bytes that are particular about the second
behind_E0 : (due : Due) (around : List Kind) → move_of (text due) around 224 ≡ to (rest tail_E0 (tail ∷ []) (text due)) around
unfolding move_of text_move tails_of second_of is_within
behind_E0 due around = refl

behind_ED : (due : Due) (around : List Kind) → move_of (text due) around 237 ≡ to (rest tail_ED (tail ∷ []) (text due)) around
unfolding move_of text_move tails_of second_of is_within
behind_ED due around = refl

behind_F0 : (due : Due) (around : List Kind) → move_of (text due) around 240 ≡ to (rest tail_F0 (tail ∷ tail ∷ []) (text due)) around
unfolding move_of text_move tails_of second_of is_within
behind_F0 due around = refl

behind_F4 : (due : Due) (around : List Kind) → move_of (text due) around 244 ≡ to (rest tail_F4 (tail ∷ tail ∷ []) (text due)) around
unfolding move_of text_move tails_of second_of is_within
behind_F4 due around = refl

-- the backslash and the closing mark
backslash : (due : Due) (around : List Kind) → move_of (text due) around 92 ≡ to (escape due) around
unfolding move_of text_move
backslash due around = refl

quote : (due : Due) (around : List Kind) → move_of (text due) around 34 ≡ to (between due) around
unfolding move_of text_move
quote due around = refl

-- behind a backslash
escapes : (due : Due) (around : List Kind) (c : ℕ) → is_escape c ≡ true → move_of (escape due) around c ≡ to (text due) around
unfolding move_of escape_move
escapes due around c e = rw e refl

unicode : (due : Due) (around : List Kind) → move_of (escape due) around 117 ≡ to (rest hex (hex ∷ hex ∷ hex ∷ []) (text due)) around
unfolding move_of escape_move is_escape
unicode due around = refl

-- a byte that was still to come
comes : (k : Class) (ks : List Class) (next : State) (around : List Kind) (c : ℕ) → holds k c ≡ true → move_of (rest k ks next) around c ≡ to (remaining ks next) around
unfolding move_of rest_move
comes k ks next around c e = rw e refl

-- ---- the bytes that are still to come

is_tail : (c : ℕ) → 128 ≤ c → c ≤ 191 → holds tail c ≡ true
unfolding holds
is_tail c l m = within 128 191 c l m

is_tail_E0 : (c : ℕ) → 160 ≤ c → c ≤ 191 → holds tail_E0 c ≡ true
unfolding holds
is_tail_E0 c l m = within 160 191 c l m

is_tail_ED : (c : ℕ) → 128 ≤ c → c ≤ 159 → holds tail_ED c ≡ true
unfolding holds
is_tail_ED c l m = within 128 159 c l m

is_tail_F0 : (c : ℕ) → 144 ≤ c → c ≤ 191 → holds tail_F0 c ≡ true
unfolding holds
is_tail_F0 c l m = within 144 191 c l m

is_tail_F4 : (c : ℕ) → 128 ≤ c → c ≤ 143 → holds tail_F4 c ≡ true
unfolding holds
is_tail_F4 c l m = within 128 143 c l m

hex_digit_lem : (c : ℕ) → 48 ≤ c → c ≤ 57 → holds hex c ≡ true
unfolding holds is_hex_digit
hex_digit_lem c l m = rw (within 48 57 c l m) refl

hex_upper : (c : ℕ) → 65 ≤ c → c ≤ 70 → holds hex c ≡ true
unfolding holds is_hex_digit
hex_upper c l m = rw (above 48 57 c (omega (arith, l)), within 65 70 c l m) refl

hex_lower : (c : ℕ) → 97 ≤ c → c ≤ 102 → holds hex c ≡ true
unfolding holds is_hex_digit
hex_lower c l m = rw (above 48 57 c (omega (arith, l)), above 65 70 c (omega (arith, l)), within 97 102 c l m) refl

module _ {most : ℕ} {around : List Kind} (l : length around ≤ most) where
  -- a range of bytes that all may come next
  goes_next :
      (k : Class) (ks : List Class) (next : State) {first last : ℕ} → ((c : ℕ) → first ≤ c → c ≤ last → holds k c ≡ true) →
      Goes most Any (range first last) (rest k ks next) around (remaining ks next) around
  goes_next k ks next e = goes_range (λ c p q. comes k ks next around c (e c p q)) l

  -- a tail in UTF-8
  goes_tail : (ks : List Class) (next : State) → Goes most Any Utf8.tail (rest tail ks next) around (remaining ks next) around
  goes_tail ks next = goes_next tail ks next is_tail

  -- a hex digit of either case
  goes_hex : (ks : List Class) (next : State) → Goes most Any hex_digit (rest hex ks next) around (remaining ks next) around
  goes_hex ks next = goes_or (goes_next hex ks next hex_digit_lem) (goes_or (goes_next hex ks next hex_upper) (goes_next hex ks next hex_lower))

  -- ---- characters

  module _ (due : Due) where
    -- of two, three and four bytes
    goes_two_bytes : Goes most Any Utf8.two_bytes (text due) around (text due) around
    goes_two_bytes = goes_then (goes_range (two due around) l) (goes_tail [] (text due))

    goes_three_bytes : Goes most Any Utf8.three_bytes (text due) around (text due) around
    goes_three_bytes =
        let one_more = goes_tail [] (text due) in
        goes_or
        (goes_then (goes_byte (behind_E0 due around) l) (goes_then (goes_next tail_E0 (tail ∷ []) (text due) is_tail_E0) one_more))
        (goes_or
        (goes_then (goes_range (λ c p q. three due around c p (omega (arith, q)) (λ e. omega (arith, e, q))) l) (goes_then (goes_tail (tail ∷ []) (text due)) (goes_then one_more goes_nothing)))
        (goes_or
        (goes_then (goes_byte (behind_ED due around) l) (goes_then (goes_next tail_ED (tail ∷ []) (text due) is_tail_ED) one_more))
        (goes_then (goes_range (λ c p q. three due around c (omega (arith, p)) q (λ e. omega (arith, e, p))) l) (goes_then (goes_tail (tail ∷ []) (text due)) (goes_then one_more goes_nothing)))))

    goes_four-bytes : Goes most Any Utf8.four_bytes (text due) around (text due) around
    goes_four-bytes =
        let two-more : Goes most Any (times 2 Utf8.tail) (rest tail (tail ∷ []) (text due)) around (text due) around =
        goes_then (goes_tail (tail ∷ []) (text due)) (goes_then (goes_tail [] (text due)) goes_nothing) in
        goes_or
        (goes_then (goes_byte (behind_F0 due around) l) (goes_then (goes_next tail_F0 (tail ∷ tail ∷ []) (text due) is_tail_F0) two-more))
        (goes_or
        (goes_then (goes_range (four due around) l) (goes_then (goes_tail (tail ∷ tail ∷ []) (text due)) two-more))
        (goes_then (goes_byte (behind_F4 due around) l) (goes_then (goes_next tail_F4 (tail ∷ tail ∷ []) (text due) is_tail_F4) two-more)))

    -- any that is not escaped
    goes_unescaped : Goes most Any unescaped (text due) around (text due) around
    goes_unescaped =
        goes_or (goes_range (λ c p q. plain due around c (λ e. omega (arith, e, q)) (λ e. omega (arith, e, q)) p (omega (arith, q))) l)
        (goes_or (goes_range (λ c p q. plain due around c (λ e. omega (arith, e, p)) (λ e. omega (arith, e, q)) (omega (arith, p)) (omega (arith, q))) l)
        (goes_or (goes_range (λ c p q. plain due around c (λ e. omega (arith, e, p)) (λ e. omega (arith, e, p)) (omega (arith, p)) q) l)
        (goes_or goes_two_bytes
        (goes_or goes_three_bytes
        goes_four-bytes))))

    -- what stands behind a backslash
    goes_escaped : Goes most Any escaped (escape due) around (text due) around
    unfolding is_escape
    goes_escaped =
        goes_or (goes_byte (escapes due around 34 refl) l)
        (goes_or (goes_byte (escapes due around 92 refl) l)
        (goes_or (goes_byte (escapes due around 47 refl) l)
        (goes_or (goes_byte (escapes due around 98 refl) l)
        (goes_or (goes_byte (escapes due around 102 refl) l)
        (goes_or (goes_byte (escapes due around 110 refl) l)
        (goes_or (goes_byte (escapes due around 114 refl) l)
        (goes_or (goes_byte (escapes due around 116 refl) l)
        (goes_then (goes_byte (unicode due around) l)
        (goes_then (goes_hex (hex ∷ hex ∷ hex ∷ []) (text due))
        (goes_then (goes_hex (hex ∷ hex ∷ []) (text due))
        (goes_then (goes_hex (hex ∷ []) (text due))
        (goes_then (goes_hex [] (text due)) goes_nothing))))))))))))

    -- a character of a string
    goes_char : Goes most Any char (text due) around (text due) around
    goes_char = goes_or goes_unescaped (goes_then (goes_byte (backslash due around) l) goes_escaped)

    -- a string, from wherever its opening mark begins one
    pub goes_string : {state : State} → move_of state around 34 ≡ to (text due) around → Goes most Any string state around (between due) around
    goes_string e = goes_then (goes_byte e l) (goes_then (goes_many goes_char) (goes_byte (quote due around) l))
