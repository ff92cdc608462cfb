-- What the laws of the round trip ask of a header, and what the code of the writer promises.
use Rattle.std.specs.Prelude.{◌<◌, ℕ, Bool, ◌&&◌, List, Result, eqb, length, get_or}
use Rattle.frame_message.specs.declared.Header.{Header}
use Rattle.frame_message.specs.Header.{is_type, are_flags, header_length, magic, version, header_in}
use Rattle.refusal.specs.declared.Refusal.{Refusal}
use Rattle.refusal.specs.Answer.{Answer, result_of}

-- the type is one of the four, and flag 80 is clear: the writer has neither 22 nor 23 to tell
unfoldable pub is_known : Header → Bool
is_known h = is_type h.kind && are_flags h.flags

-- a part that is a header: the reader has none of 6 and 20 to 23 to tell
unfoldable pub is_header : List ℕ → Bool
is_header p = eqb (length p) header_length && (eqb (get_or p 0 0) magic && (eqb (get_or p 1 0) version && is_known (header_in p)))

-- userid, rolemask and the last two fields have four bytes each
pub record FieldsFit (h : Header) : Type 0 where
  pub userid : h.userid < 4294967296
  pub rolemask : h.rolemask < 4294967296
  pub first : h.first < 4294967296
  pub second : h.second < 4294967296

-- the result of a write: the refusal, or the frame's length
abbrev pub written_as : Answer (List ℕ) → Result ℕ Refusal
written_as = result_of length
