-- What may stand behind the bytes read so far, as the grammar has it, by where the reading stands.
use mathlib.Core.List.{List, [], ◌∷◌}
use Prim.Native.Nat.{ℕ, ◌-◌, ◌≤◌}
use lib.ListN.{length}
use Rattle.json_grammar.specs.Language.{Language, byte, range, nothing, ◌then◌, ◌or◌, perhaps, many, some}
use Rattle.json_grammar.specs.Json as json
use Rattle.json_scan.specs.Scan.{Class, exactly, hex, tail, tail_E0, tail_ED, tail_F0, tail_F4, Kind, in_object, in_array, Due, outer, first_name, first_value, name, colon, value, behind, Figure, minus, leading_zero, whole, point, fraction, exponent, sign, power, State, between, number, text, escape, rest, ended, Move, nowhere, to}

-- values where so much is open, at most so deep in all
abbrev pub inside : ℕ → List Kind → Language
inside most around = json.value_to (most - length around)

-- behind a value
unfoldable pub closing : ℕ → List Kind → Language
closing most [] = json.ws then byte 0
closing most (in_object ∷ around) = many (json.value_separator then json.member (inside most (in_object ∷ around))) then (json.end_object then closing most around)
closing most (in_array ∷ around) = many (json.value_separator then inside most (in_array ∷ around)) then (json.end_array then closing most around)

-- at once the closing byte
abbrev pub closing_now : ℕ → Kind → List Kind → Language
closing_now most kind [] word = ⊥
closing_now most in_object (in_object ∷ around) word = (json.end_object then closing most around) word
closing_now most in_object (in_array ∷ around) word = ⊥
closing_now most in_array (in_object ∷ around) word = ⊥
closing_now most in_array (in_array ∷ around) word = (json.end_array then closing most around) word

abbrev pub with_value : ℕ → List Kind → Language
with_value most around = inside most around then closing most around

abbrev pub with_name : ℕ → List Kind → Language
with_name most around = json.string then (json.name_separator then with_value most around)

-- where white space may stand
unfoldable pub after_due : ℕ → Due → List Kind → Language
after_due most outer around = json.payload_to most
after_due most first_name around = closing_now most in_object around or (json.ws then with_name most around)
after_due most first_value around = closing_now most in_array around or (json.ws then with_value most around)
after_due most name around = json.ws then with_name most around
after_due most colon around = json.name_separator then with_value most around
after_due most value around = json.ws then with_value most around
after_due most behind around = closing most around

-- the rest of a number
abbrev pub figures : Figure → Language
figures minus = json.int then (perhaps json.frac then perhaps json.exp)
figures leading_zero = perhaps json.frac then perhaps json.exp
figures whole = many json.digit then (perhaps json.frac then perhaps json.exp)
figures point = some json.digit then perhaps json.exp
figures fraction = many json.digit then perhaps json.exp
figures exponent = perhaps (byte 45 or byte 43) then some json.digit
figures sign = some json.digit
figures power = many json.digit

-- the rest of a token
abbrev pub class : Class → Language
class (exactly x) = byte x
class hex = json.hex_digit
class tail = range 128 191
class tail_E0 = range 160 191
class tail_ED = range 128 159
class tail_F0 = range 144 191
class tail_F4 = range 128 143

abbrev pub classes : List Class → Language
classes [] = nothing
classes (k ∷ ks) = class k then classes ks

-- the rest of a string, its closing mark, and what is due then
abbrev pub in_text : ℕ → Due → List Kind → Language
in_text most due around = many json.char then (byte 34 then after_due most due around)

unfoldable pub after : ℕ → State → List Kind → Language
after most (between due) around = after_due most due around
after most (number figure) around = figures figure then closing most around
after most (text due) around = in_text most due around
after most (escape due) around = json.escaped then in_text most due around
after most (rest k ks next) around = classes (k ∷ ks) then after most next around
after most ended around = nothing

-- the same behind one more byte
abbrev pub Led : ℕ → List ℕ → Move → Type 0
Led most ys nowhere = ⊥
Led most ys (to state around) = (length around ≤ most) × after most state around ys
