-- RFC 7159, sections 2 to 7, rule by rule and over bytes, with the depth as an argument; and the payload, "white space, an object, white space and a zero
-- byte". It names no cursor and no code.
use Rattle.std.specs.Prelude.{[], ◌∷◌, ℕ, zero, suc}
use Rattle.json_grammar.specs.Language.{Language, byte, range, spelled, ◌then◌, ◌or◌, perhaps, times, many, some}
use Rattle.json_grammar.specs.Utf8.{two_bytes, three_bytes, four_bytes}

-- ws = *( %x20 / %x09 / %x0A / %x0D )
abbrev pub ws : Language
ws = many (byte 32 or byte 9 or byte 10 or byte 13)

-- begin-array = ws %x5B ws
abbrev pub begin_array : Language
begin_array = ws then byte 91 then ws

-- begin-object = ws %x7B ws
abbrev pub begin_object : Language
begin_object = ws then byte 123 then ws

-- end-array = ws %x5D ws
abbrev pub end_array : Language
end_array = ws then byte 93 then ws

-- end-object = ws %x7D ws
abbrev pub end_object : Language
end_object = ws then byte 125 then ws

-- name-separator = ws %x3A ws
abbrev pub name_separator : Language
name_separator = ws then byte 58 then ws

-- value-separator = ws %x2C ws
abbrev pub value_separator : Language
value_separator = ws then byte 44 then ws

-- ---- literal names

-- false = %x66.61.6c.73.65
abbrev pub false_name : Language
false_name = spelled (102 ∷ 97 ∷ 108 ∷ 115 ∷ 101 ∷ [])

-- null = %x6e.75.6c.6c
abbrev pub null_name : Language
null_name = spelled (110 ∷ 117 ∷ 108 ∷ 108 ∷ [])

-- true = %x74.72.75.65
abbrev pub true_name : Language
true_name = spelled (116 ∷ 114 ∷ 117 ∷ 101 ∷ [])

-- ---- numbers

-- DIGIT = %x30-39
abbrev pub digit : Language
digit = range 48 57

-- int = zero / ( digit1-9 *DIGIT )
abbrev pub int : Language
int = byte 48 or (range 49 57 then many digit)

-- frac = decimal-point 1*DIGIT
abbrev pub frac : Language
frac = byte 46 then some digit

-- exp = e [ minus / plus ] 1*DIGIT, with e = %x65 / %x45
abbrev pub exp : Language
exp = (byte 101 or byte 69) then perhaps (byte 45 or byte 43) then some digit

-- number = [ minus ] int [ frac ] [ exp ]
abbrev pub number : Language
number = perhaps (byte 45) then int then perhaps frac then perhaps exp

-- ---- strings

-- HEXDIG, of either case
abbrev pub hex_digit : Language
hex_digit = digit or range 65 70 or range 97 102

-- what stands behind an escape = %x5C: %x22 / %x5C / %x2F / %x62 / %x66 / %x6E / %x72 / %x74 / %x75 4HEXDIG. "surrogate escapes need no partner"
abbrev pub escaped : Language
escaped = byte 34 or byte 92 or byte 47 or byte 98 or byte 102 or byte 110 or byte 114 or byte 116 or (byte 117 then times 4 hex_digit)

-- unescaped = %x20-21 / %x23-5B / %x5D-10FFFF, as UTF-8 has it
abbrev pub unescaped : Language
unescaped = range 32 33 or range 35 91 or range 93 127 or two_bytes or three_bytes or four_bytes

-- char = unescaped / escape ( .. )
abbrev pub char : Language
char = unescaped or (byte 92 then escaped)

-- string = quotation-mark *char quotation-mark
abbrev pub string : Language
string = byte 34 then many char then byte 34

-- ---- values, over what a value within them may be

-- member = string name-separator value
abbrev pub member : Language → Language
member value = string then name_separator then value

-- object = begin-object [ member *( value-separator member ) ] end-object. "Duplicate names pass."
abbrev pub object : Language → Language
object value = begin_object then perhaps (member value then many (value_separator then member value)) then end_object

-- array = begin-array [ value *( value-separator value ) ] end-array
abbrev pub array : Language → Language
array value = begin_array then perhaps (value then many (value_separator then value)) then end_array

-- value = false / null / true / object / array / number / string. "Values nest through objects and arrays": here so many deep at most
abbrev pub value_to : ℕ → Language
value_to zero = false_name or null_name or true_name or number or string
value_to (suc depth) = false_name or null_name or true_name or object (value_to depth) or array (value_to depth) or number or string

-- "with the outer object as 1"
abbrev pub object_to : ℕ → Language
object_to zero word = ⊥
object_to (suc depth) word = object (value_to depth) word

-- "JSON payloads follow RFC 7159, are objects, and end in a zero byte .. White space may stand around the object but not after the zero."
unfoldable pub payload_to : ℕ → Language
payload_to depth = ws then object_to depth then ws then byte 0

-- "at most 32 deep"
abbrev pub most_deep : ℕ
most_deep = 32
