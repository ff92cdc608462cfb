-- What a payload comes to, read one byte after another: where the reading stands, and what is open around it. The definition of the check's promise; that
-- its yes is RFC 7159's and its places are the grammar's is claimed in claim_json/specs/Json.antt.
use Rattle.std.specs.Prelude.{Bool, true, false, cond, ◌&&◌, ◌||◌, List, [], ◌∷◌, ℕ, ◌+◌, eqb, ltb, leb, length, Result, Ok, Err}
use Rattle.json_scan.specs.declared.Fault.{Fault}
use Rattle.json_scan.specs.declared.Fault.TheVariants.{NotJson, TooDeep}

-- ---- bytes

-- "White space is 20, 09, 0A, 0D."
unfoldable pub is_white : ℕ → Bool
is_white c = eqb c 32 || eqb c 9 || eqb c 10 || eqb c 13

unfoldable pub is_within : ℕ → ℕ → ℕ → Bool
is_within first last c = leb first c && leb c last

abbrev pub is_digit : ℕ → Bool
is_digit c = is_within 48 57 c

abbrev pub is_e : ℕ → Bool
is_e c = eqb c 101 || eqb c 69

abbrev pub is_sign : ℕ → Bool
is_sign c = eqb c 45 || eqb c 43

unfoldable pub is_hex_digit : ℕ → Bool
is_hex_digit c = is_digit c || is_within 65 70 c || is_within 97 102 c

-- an escape of one byte behind the backslash
unfoldable pub is_escape : ℕ → Bool
is_escape c = eqb c 34 || eqb c 92 || eqb c 47 || eqb c 98 || eqb c 102 || eqb c 110 || eqb c 114 || eqb c 116

-- which bytes may come next within a token
pub data Class : Type 0 where
  exactly : ℕ → Class
  hex : Class
  -- in UTF-8: a tail; and the tails that may stand behind E0, ED, F0 and F4
  tail : Class
  tail_E0 : Class
  tail_ED : Class
  tail_F0 : Class
  tail_F4 : Class

unfoldable pub holds : Class → ℕ → Bool
holds (exactly x) c = eqb c x
holds hex c = is_hex_digit c
holds tail c = is_within 128 191 c
holds tail_E0 c = is_within 160 191 c
holds tail_ED c = is_within 128 159 c
holds tail_F0 c = is_within 144 191 c
holds tail_F4 c = is_within 128 143 c

-- the second byte of a character, by its first
unfoldable pub second_of : ℕ → Class
second_of c = cond (eqb c 224) tail_E0 (cond (eqb c 237) tail_ED (cond (eqb c 240) tail_F0 (cond (eqb c 244) tail_F4 tail)))

-- what comes behind the first byte of a character of two bytes or more; nothing if it is no such byte
unfoldable pub tails_of : ℕ → List Class
tails_of c =
    cond (is_within 194 223 c) (second_of c ∷ [])
    (cond (is_within 224 239 c) (second_of c ∷ tail ∷ [])
    (cond (is_within 240 244 c) (second_of c ∷ tail ∷ tail ∷ [])
    []))

-- ---- where a reading stands

-- what is open
pub data Kind : Type 0 where
  in_object : Kind
  in_array : Kind

-- between two tokens, where white space may stand: what is due
pub data Due : Type 0 where
  -- the outer object
  outer : Due
  -- behind the opening byte of an object or an array
  first_name : Due
  first_value : Due
  -- a name behind a comma, its colon, a value
  name : Due
  colon : Due
  value : Due
  -- behind a value: a comma or the closing byte, and behind the outer object the zero byte
  behind : Due

-- within a number: behind its minus, its leading zero, in the digits of int, behind the point, in the digits of frac, behind e and e's sign, in the
-- digits of exp
pub data Figure : Type 0 where
  minus : Figure
  leading_zero : Figure
  whole : Figure
  point : Figure
  fraction : Figure
  exponent : Figure
  sign : Figure
  power : Figure

pub data State : Type 0 where
  between : Due → State
  number : Figure → State
  -- in a string, or behind its backslash; what is due behind the string
  text : Due → State
  escape : Due → State
  -- this byte is still to come, and these behind it; then it stands there
  rest : Class → List Class → State → State
  -- behind the zero byte
  ended : State

-- a byte leads on, with what is then around, or it leads nowhere
pub data Move : Type 0 where
  nowhere : Move
  to : State → List Kind → Move

-- the first byte of a value
unfoldable pub value_step : List Kind → ℕ → Move
value_step around c =
    cond (eqb c 34) (to (text behind) around)
    (cond (eqb c 123) (to (between first_name) (in_object ∷ around))
    (cond (eqb c 91) (to (between first_value) (in_array ∷ around))
    (cond (eqb c 45) (to (number minus) around)
    (cond (eqb c 48) (to (number leading_zero) around)
    (cond (is_digit c) (to (number whole) around)
    (cond (eqb c 102) (to (rest (exactly 97) (exactly 108 ∷ exactly 115 ∷ exactly 101 ∷ []) (between behind)) around)
    (cond (eqb c 110) (to (rest (exactly 117) (exactly 108 ∷ exactly 108 ∷ []) (between behind)) around)
    (cond (eqb c 116) (to (rest (exactly 114) (exactly 117 ∷ exactly 101 ∷ []) (between behind)) around)
    nowhere))))))))

-- the quotation mark of a name
abbrev pub name_step : List Kind → ℕ → Move
name_step around c = cond (eqb c 34) (to (text colon) around) nowhere

-- behind a value
unfoldable pub behind_step : List Kind → ℕ → Move
behind_step [] c = cond (eqb c 0) (to ended []) nowhere
behind_step (in_object ∷ around) c = cond (eqb c 44) (to (between name) (in_object ∷ around)) (cond (eqb c 125) (to (between behind) around) nowhere)
behind_step (in_array ∷ around) c = cond (eqb c 44) (to (between value) (in_array ∷ around)) (cond (eqb c 93) (to (between behind) around) nowhere)

-- a byte that is no white space, where a token is due
unfoldable pub token_move : Due → List Kind → ℕ → Move
token_move outer around c = cond (eqb c 123) (to (between first_name) (in_object ∷ [])) nowhere
token_move first_name around c = cond (eqb c 125) (behind_step around c) (name_step around c)
token_move first_value around c = cond (eqb c 93) (behind_step around c) (value_step around c)
token_move name around c = name_step around c
token_move colon around c = cond (eqb c 58) (to (between value) around) nowhere
token_move value around c = value_step around c
token_move behind around c = behind_step around c

unfoldable pub between_move : Due → List Kind → ℕ → Move
between_move due around c = cond (is_white c) (to (between due) around) (token_move due around c)

-- "A number's end is seen at the byte behind it"
unfoldable pub number_move : Figure → List Kind → ℕ → Move
number_move minus around c = cond (eqb c 48) (to (number leading_zero) around) (cond (is_digit c) (to (number whole) around) nowhere)
number_move leading_zero around c =
    cond (eqb c 46) (to (number point) around) (cond (is_e c) (to (number exponent) around) (between_move behind around c))
number_move whole around c =
    cond (is_digit c) (to (number whole) around)
    (cond (eqb c 46) (to (number point) around) (cond (is_e c) (to (number exponent) around) (between_move behind around c)))
number_move point around c = cond (is_digit c) (to (number fraction) around) nowhere
number_move fraction around c =
    cond (is_digit c) (to (number fraction) around) (cond (is_e c) (to (number exponent) around) (between_move behind around c))
number_move exponent around c = cond (is_sign c) (to (number sign) around) (cond (is_digit c) (to (number power) around) nowhere)
number_move sign around c = cond (is_digit c) (to (number power) around) nowhere
number_move power around c = cond (is_digit c) (to (number power) around) (between_move behind around c)

-- what is still to come behind a first byte, if that is one
abbrev pub tail_move : List Class → State → List Kind → Move
tail_move [] next around = nowhere
tail_move (k ∷ ks) next around = to (rest k ks next) around

unfoldable pub text_move : Due → List Kind → ℕ → Move
text_move due around c =
    cond (eqb c 34) (to (between due) around)
    (cond (eqb c 92) (to (escape due) around)
    (cond (is_within 32 127 c) (to (text due) around)
    (tail_move (tails_of c) (text due) around)))

-- "`\u` takes hex digits of either case"
unfoldable pub escape_move : Due → List Kind → ℕ → Move
escape_move due around c =
    cond (is_escape c) (to (text due) around) (cond (eqb c 117) (to (rest hex (hex ∷ hex ∷ hex ∷ []) (text due)) around) nowhere)

-- where it stands when these are still to come
abbrev pub remaining : List Class → State → State
remaining [] next = next
remaining (k ∷ ks) next = rest k ks next

unfoldable pub rest_move : Class → List Class → State → List Kind → ℕ → Move
rest_move k ks next around c = cond (holds k c) (to (remaining ks next) around) nowhere

-- one byte
unfoldable pub move_of : State → List Kind → ℕ → Move
move_of (between due) around c = between_move due around c
move_of (number figure) around c = number_move figure around c
move_of (text due) around c = text_move due around c
move_of (escape due) around c = escape_move due around c
move_of (rest k ks next) around c = rest_move k ks next around c
move_of ended around c = nowhere

-- ---- a whole payload

-- it is JSON, or at a place it shows that it is not
abbrev pub Verdict : Type 0
Verdict = Result (Unit {0}) Fault

abbrev pub is_ended : State → Bool
is_ended (between due) = false
is_ended (number figure) = false
is_ended (text due) = false
is_ended (escape due) = false
is_ended (rest k ks next) = false
is_ended ended = true

-- "deeper is 26, whatever follows"; a byte that leads nowhere is the place of a no
abbrev pub go_on : ℕ → ℕ → (State → List Kind → Verdict) → Move → Verdict
go_on most at next nowhere = Err (NotJson at)
go_on most at next (to state around) = cond (ltb most (length around)) (Err (TooDeep at)) (next state around)

-- the bytes from a place on: "or the length if it stops early"
unfoldable pub scan : ℕ → State → List Kind → ℕ → List ℕ → Verdict
scan most state around at [] = cond (is_ended state) (Ok tt) (Err (NotJson at))
scan most state around at (c ∷ cs) = go_on most at (λ state₁ open₁. scan most state₁ open₁ (at + 1) cs) (move_of state around c)

-- a payload: "at most 32 deep with the outer object as 1"
abbrev pub depth_limit : ℕ
depth_limit = 32

unfoldable pub verdict_of : List ℕ → Verdict
verdict_of payload = scan depth_limit (between outer) [] 0 payload
