-- Why the parts of a body are refused: what is known where its byte is looked for.
use Rattle.std.specs.Prelude.{◌≡◌, ℕ, true, false, cond, List, [], Result, ltb, length, get_or}
use Rattle.refusal.specs.declared.Refusal.{Refusal}
use Rattle.refusal.specs.declared.Refusal.TheVariants.{HeaderWrong, MagicWrong, VersionWrong, TypeWrong, FlagWrong, PartsDisagree, RouteWrong, TopicWrong, FieldWrong}
use Rattle.refusal.specs.Answer.{refused, and_then, result_of}
use Rattle.frame_message.specs.Header.{has_topic, is_type, are_flags, fields_good}
use Rattle.frame_message.specs.Writing.{routes_good}
use Rattle.frame_message.specs.Reading.{parts_in, front, final, routes_in, topic_place, parts_agree, is_topic_part, judged, reading_of}
use Rattle.frame_message.specs.Working.{is_header}
use Rattle.frame_fault.specs.Fault.{header_of_parts}

-- how many bytes a part's size takes, by the first of them
abbrev pub size_length : ℕ → ℕ
size_length first = cond (ltb first 255) 1 5

-- the last part has a header's length
abbrev pub Long : List (List ℕ) → Type 0
Long ps = length (final [] ps) ≡ 20

-- one line for each refusal of the parts
pub data Why (ps : List (List ℕ)) : Refusal → Type 0 where
  length_wrong : (length (final [] ps) ≡ 20 → ⊥) → Why ps HeaderWrong
  magic_wrong : Long ps → (get_or (final [] ps) 0 0 ≡ 0x8E → ⊥) → Why ps MagicWrong
  version_wrong : Long ps → get_or (final [] ps) 0 0 ≡ 0x8E → (get_or (final [] ps) 1 0 ≡ 1 → ⊥) → Why ps VersionWrong
  type_wrong : Long ps → get_or (final [] ps) 0 0 ≡ 0x8E → get_or (final [] ps) 1 0 ≡ 1 → is_type (get_or (final [] ps) 2 0) ≡ false → Why ps TypeWrong
  flag_wrong : Long ps → get_or (final [] ps) 0 0 ≡ 0x8E → get_or (final [] ps) 1 0 ≡ 1 → is_type (get_or (final [] ps) 2 0) ≡ true → are_flags (get_or (final [] ps) 3 0) ≡ false → Why ps FlagWrong
  parts_disagree : is_header (final [] ps) ≡ true → parts_agree (header_of_parts ps) (front ps) ≡ false → Why ps PartsDisagree
  route_wrong : is_header (final [] ps) ≡ true → parts_agree (header_of_parts ps) (front ps) ≡ true → routes_good (routes_in (header_of_parts ps) (front ps)) ≡ false → Why ps RouteWrong
  topic_wrong_lem : is_header (final [] ps) ≡ true → parts_agree (header_of_parts ps) (front ps) ≡ true → has_topic (header_of_parts ps).flags ≡ true → is_topic_part (get_or (front ps) (topic_place (header_of_parts ps) (front ps)) []) ≡ false → Why ps TopicWrong
  field_wrong : is_header (final [] ps) ≡ true → fields_good (header_of_parts ps) ≡ false → Why ps FieldWrong

-- a body that is refused so
abbrev pub IsRefused : List ℕ → Refusal → Type 0
IsRefused body why = and_then (parts_in 68 body) judged ≡ refused why

-- why a frame is refused, if it is
abbrev pub verdict_of : List ℕ → Result (Unit {0}) Refusal
verdict_of b = result_of (λ m. tt {0}) (reading_of b)
