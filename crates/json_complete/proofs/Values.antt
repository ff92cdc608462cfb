-- Values, and what stands in an object or an array.
use mathlib.Core.Path.{◌≡◌, refl}
use mathlib.Core.List.{List, [], ◌∷◌}
use Prim.Native.Nat.{ℕ, zero, suc, ◌+◌, ◌≤◌}
use native.Mathlib.Omega.{arith}
use lib.ListN.{length}
use Rattle.json_grammar.specs.Language.{Language, byte, ◌then◌, perhaps, times, many}
use Rattle.json_grammar.specs.Json as Json
use Rattle.json_scan.specs.Scan.{exactly, holds, Kind, in_object, in_array, Due, first_name, first_value, name, colon, value, behind, between, text, to, move_of}
use Rattle.json_complete.proofs.Goes.{Any, Goes, goes_any, goes_nothing, goes_spelled, goes_or, goes_then, goes_nothing_then, goes_together, goes_perhaps_then, goes_many_then}
use Rattle.json_complete.proofs.White.{goes_mark}
use Rattle.json_complete.proofs.Strings.{goes_string}
use Rattle.json_complete.proofs.Free.{Ends, Free, Frees, frees_then, frees_times_then, frees_many_then, frees_mark, ends_comma, ends_array, ends_object, goes_freed}
use Rattle.json_complete.proofs.Numbers.{goes_number}
use Rattle.json_complete.proofs.Begins

-- ---- literal names, numbers and strings, where a value is due

module _ {most : ℕ} {around : List Kind} (l : length around ≤ most) {due : Due} (is : Begins.ValueDue due) where
  -- the literal names, byte by byte
  pub goes_false : Goes most Any Json.false_name (between due) around (between behind) around
  unfolding holds
  goes_false =
      goes_spelled (Begins.begins_false is around) l
      (goes_spelled (Begins.exactly_comes 97 (exactly 108 ∷ exactly 115 ∷ exactly 101 ∷ []) (between behind) around refl) l
      (goes_spelled (Begins.exactly_comes 108 (exactly 115 ∷ exactly 101 ∷ []) (between behind) around refl) l
      (goes_spelled (Begins.exactly_comes 115 (exactly 101 ∷ []) (between behind) around refl) l
      (goes_spelled (Begins.exactly_comes 101 [] (between behind) around refl) l
      goes_nothing))))

  pub goes_null : Goes most Any Json.null_name (between due) around (between behind) around
  unfolding holds
  goes_null =
      goes_spelled (Begins.begins_null is around) l
      (goes_spelled (Begins.exactly_comes 117 (exactly 108 ∷ exactly 108 ∷ []) (between behind) around refl) l
      (goes_spelled (Begins.exactly_comes 108 (exactly 108 ∷ []) (between behind) around refl) l
      (goes_spelled (Begins.exactly_comes 108 [] (between behind) around refl) l
      goes_nothing)))

  pub goes_true : Goes most Any Json.true_name (between due) around (between behind) around
  unfolding holds
  goes_true =
      goes_spelled (Begins.begins_true is around) l
      (goes_spelled (Begins.exactly_comes 114 (exactly 117 ∷ exactly 101 ∷ []) (between behind) around refl) l
      (goes_spelled (Begins.exactly_comes 117 (exactly 101 ∷ []) (between behind) around refl) l
      (goes_spelled (Begins.exactly_comes 101 [] (between behind) around refl) l
      goes_nothing)))

  -- a number, with what ends it behind it
  goes_value_number : Goes most Free Json.number (between due) around (between behind) around
  goes_value_number = goes_number l (Begins.begins_minus is around) (Begins.begins_zero is around) (Begins.begins_digit is around)

  -- a string
  goes_value_string : Goes most Any Json.string (between due) around (between behind) around
  goes_value_string = goes_string l behind (Begins.begins_string is around)

-- ---- what stands between an opening byte and its closing one

-- items, with commas between them; or none
abbrev pub items : ℕ → Language → Language
items close item = perhaps (item then many (Json.value_separator then item)) then Json.ws then byte close then Json.ws

-- where an item is due at first and behind a comma, and what the bytes around items lead to
pub record Items (around : List Kind) (kind : Kind) (close : ℕ) (first again : Due) : Type 0 where
  pub ends : Ends close
  pub comma : move_of (between behind) (kind ∷ around) 44 ≡ to (between again) (kind ∷ around)
  pub closes : move_of (between behind) (kind ∷ around) close ≡ to (between behind) around
  pub empty : move_of (between first) (kind ∷ around) close ≡ to (between behind) around

pub object_items : (around : List Kind) → Items around in_object 125 first_name name
object_items around = record { ends = ends_object; comma = Begins.object_comma around; closes = Begins.object_closes around; empty = Begins.object_empty around }

pub array_items : (around : List Kind) → Items around in_array 93 first_value value
array_items around = record { ends = ends_array; comma = Begins.array_comma around; closes = Begins.array_closes around; empty = Begins.array_empty around }

module _
    {most : ℕ} {around : List Kind} {kind : Kind} {close : ℕ} {first again : Due} (is : Items around kind close first again) (l : length (kind ∷ around) ≤ most) {item : Language}
    (at_first : Goes most Free item (between first) (kind ∷ around) (between behind) (kind ∷ around))
    (at_again : Goes most Free item (between again) (kind ∷ around) (between behind) (kind ∷ around)) where
  -- a comma and an item
  abbrev more : Language
  more = Json.value_separator then item

  -- the closing byte
  abbrev closing : Language
  closing = Json.ws then byte close then Json.ws

  goes_closing : Goes most Any closing (between behind) (kind ∷ around) (between behind) around
  goes_closing = goes_mark is.closes l (omega (arith, l))

  -- it ends a number in front of it
  frees_more : Frees more
  frees_more = frees_then (frees_mark ends_comma)

  -- so many more items and the closing byte
  goes_more : (n : ℕ) → Goes most Any (times n more then closing) (between behind) (kind ∷ around) (between behind) around
  goes_more zero = goes_nothing_then goes_closing
  goes_more (suc n) = goes_together (goes_together (goes_then (goes_mark is.comma l l) (goes_freed (frees_times_then frees_more (frees_mark is.ends) n) at_again (goes_more n))))

  -- all of them
  pub goes_items : Goes most Any (items close item) (between first) (kind ∷ around) (between behind) around
  goes_items =
      goes_perhaps_then (goes_mark is.empty l (omega (arith, l)))
      (goes_together (goes_freed (frees_many_then frees_more (frees_mark is.ends)) at_first (goes_many_then goes_more)))

-- ---- objects and arrays

module _ {most : ℕ} {around : List Kind} {due : Due} {inner : Language} where
  -- a name, its colon and a value
  goes_member :
      length around ≤ most → move_of (between due) around 34 ≡ to (text colon) around → Goes most Free inner (between value) around (between behind) around →
      Goes most Free (Json.member inner) (between due) around (between behind) around
  goes_member l e g = goes_then (goes_string l colon e) (goes_then (goes_mark (Begins.colon_stands around) l l) g)

module _ {most : ℕ} {around : List Kind} {due : Due} {inner : Language} where
  -- an object, from wherever its opening byte begins one
  pub goes_object :
      move_of (between due) around 123 ≡ to (between first_name) (in_object ∷ around) → length (in_object ∷ around) ≤ most →
      Goes most Free inner (between value) (in_object ∷ around) (between behind) (in_object ∷ around) → Goes most Any (Json.object inner) (between due) around (between behind) around
  goes_object e l g =
      goes_then (goes_mark e (omega (arith, l)) l)
      (goes_items (object_items around) l (goes_member l (Begins.first_name_lem (in_object ∷ around)) g) (goes_member l (Begins.next_name (in_object ∷ around)) g))

  -- an array likewise
  pub goes_array :
      move_of (between due) around 91 ≡ to (between first_value) (in_array ∷ around) → length (in_array ∷ around) ≤ most →
      Goes most Free inner (between first_value) (in_array ∷ around) (between behind) (in_array ∷ around) →
      Goes most Free inner (between value) (in_array ∷ around) (between behind) (in_array ∷ around) → Goes most Any (Json.array inner) (between due) around (between behind) around
  goes_array e l g h = goes_then (goes_mark e (omega (arith, l)) l) (goes_items (array_items around) l g h)

-- ---- values

-- a value so many levels deep at most, where as many more may be opened
pub goes_value :
    {most : ℕ} (depth : ℕ) {due : Due} {around : List Kind} → Begins.ValueDue due → length around + depth ≤ most →
    Goes most Free (Json.value_to depth) (between due) around (between behind) around
goes_value {most} zero {due} {around} is l =
    let room : length around ≤ most = omega (arith, l) in
    goes_or (goes_any (goes_false room is))
    (goes_or (goes_any (goes_null room is))
    (goes_or (goes_any (goes_true room is))
    (goes_or (goes_value_number room is)
    (goes_any (goes_value_string room is)))))
goes_value {most} (suc depth) {due} {around} is l =
    let room : length around ≤ most = omega (arith, l) in
    let level : suc (length around) ≤ most = omega (arith, l) in
    let inner : suc (length around) + depth ≤ most = omega (arith, l) in
    goes_or (goes_any (goes_false room is))
    (goes_or (goes_any (goes_null room is))
    (goes_or (goes_any (goes_true room is))
    (goes_or (goes_any (goes_object (Begins.begins_object is around) level (goes_value depth Begins.value_due inner)))
    (goes_or (goes_any (goes_array (Begins.begins_array is around) level (goes_value depth Begins.first_value_due inner) (goes_value depth Begins.value_due inner)))
    (goes_or (goes_value_number room is)
    (goes_any (goes_value_string room is)))))))
