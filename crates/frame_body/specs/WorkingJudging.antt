-- What is known of a body while its parts are judged: the clauses of the functions inside the reader.
use Rattle.std.specs.Prelude.{◌≡◌, ℕ, ◌+◌, ◌-◌, ◌≤◌, Option, Some, None, Bool, true, false, cond, not, List, [], length, get_or, take, drop}
use Rattle.frame_message.specs.declared.Header.{Header}
use Rattle.refusal.specs.Answer.{answered}
use Rattle.frame_forms.specs.Count.{one}
use Rattle.frame_message.specs.Header.{has_topic, has_payload, has_route, header_in}
use Rattle.frame_message.specs.Working.{is_header}
use Rattle.frame_message.specs.Frame.{size_bytes, joined, group_if}
use Rattle.frame_message.specs.Writing.{routes_good}
use Rattle.frame_message.specs.Reading.{parts_in, front, final, before_empty, routes_in, parts_agree, is_topic_part}
use Rattle.frame_parts.specs.declared.PartCounts.{PartCounts}
use Rattle.frame_parts.specs.WorkingCounting.{parts_or_none}
use Rattle.frame_message.specs.declared.Stretch.{Stretch}

-- the parts of bytes that are known to have some, and that they are known to
unfoldable pub parts_found : List ℕ → List (List ℕ)
parts_found b = parts_or_none (parts_in 68 b)

abbrev pub Found : List ℕ → Type 0
Found b = parts_in 68 b ≡ answered (parts_found b)

-- ---- a part whose size is right

-- the data of the part p at a place of the body
abbrev pub piece_at : ℕ → List ℕ → Stretch
piece_at place p = record { start = place + length (size_bytes (length p)); len = length p }

-- that of the first of the parts at a place, if there is to be one
abbrev pub piece_if : Bool → ℕ → List (List ℕ) → Option Stretch
piece_if flag place ps = cond flag (Some (piece_at place (get_or ps 0 []))) None

-- where the part behind begins
abbrev pub next_in : ℕ → Option Stretch → ℕ
next_in at None = at
next_in at (Some part) = part.start + part.len

-- 9, of the bytes in that stretch
abbrev pub topic_wrong : Option Stretch → List ℕ → Bool
topic_wrong None body = false
topic_wrong (Some part) body = not (is_topic_part (take (part.start + part.len - part.start) (drop part.start body)))

-- 7, in numbers: the routes and their delimiter, topic and payload where they are flagged, and the header
abbrev pub parts_wanted : ℕ → ℕ → ℕ
parts_wanted flags routes = routes + one (has_route flags) + one (has_topic flags) + one (has_payload flags) + 1

-- the parts in front of the topic, of those in front of the header
abbrev pub group_in : Header → List (List ℕ) → List (List ℕ)
group_in h ps = group_if (has_route h.flags) (before_empty ps)

-- ---- the state of the judging

-- the parts are counted, and it is known where the first empty one and the last begin
pub record CountsOf (body : List ℕ) (counts : PartCounts) : Type 0 where
  pub found : Found body
  pub count : counts.count ≡ length (parts_found body)
  pub empty : counts.empty ≡ length (before_empty (parts_found body))
  pub group : counts.group ≡ length (joined (before_empty (parts_found body)))
  pub last : counts.last ≡ length (joined (front (parts_found body)))

-- the same, and the last part is a header with the fields h
pub record Headed (body : List ℕ) (counts : PartCounts) (h : Header) : Type 0 where
  pub over : CountsOf body counts
  pub short : length body ≤ 32768
  pub headed : is_header (final [] (parts_found body)) ≡ true
  pub same : h ≡ header_in (final [] (parts_found body))

-- the same, and the parts are those that the header asks for, and the first so many are routes
pub record Sorted (body : List ℕ) (counts : PartCounts) (h : Header) (routes : ℕ) : Type 0 where
  pub head : Headed body counts h
  pub agree : parts_agree h (front (parts_found body)) ≡ true
  pub count : routes ≡ length (routes_in h (front (parts_found body)))
  pub good : routes_good (routes_in h (front (parts_found body))) ≡ true
