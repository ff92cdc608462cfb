-- "One call writes each whole frame's start and length, 4 bytes each, to a lent buffer until the first refusal, and says which refusal stopped it and
-- where that frame starts." (paper 02, ticket 1) It cites the single reader and says nothing of what is inside a frame.
use Rattle.std.specs.Prelude.{ℕ, zero, suc, ◌+◌, ◌/◌, List, [], ◌∷◌, take, drop}
use Rattle.refusal.specs.declared.Refusal.{Refusal}
use Rattle.refusal.specs.declared.Refusal.TheVariants.{OutputShort}
use Rattle.refusal.specs.Answer.{Answer, refused, answered}
use Rattle.frame_message.specs.Message.{Message}
use Rattle.frame_message.specs.Reading.{reading_of}
use Rattle.frame_layout.specs.Layout.{layout_of}

-- a whole frame of the input: where it starts, and how many bytes it took
pub record Entry : Type 0 where
  pub start : ℕ
  pub len : ℕ

-- what a stream comes to: its whole frames, "which refusal stopped it and where that frame starts"
pub record Stream : Type 0 where
  pub frames : List Entry
  pub stopped : Refusal
  pub stop : ℕ

-- it stops at a place, with no frame more
abbrev pub stops_at : ℕ → Refusal → Stream
stops_at at r = record { frames = []; stopped = r; stop = at }

-- a frame that starts at a place, and the stream behind it
abbrev pub frame_then : ℕ → ℕ → Stream → Stream
frame_then at taken behind = record { frames = record { start = at; len = taken } ∷ behind.frames; stopped = behind.stopped; stop = behind.stop }

-- "until the first refusal": what comes of the single reader's answer at a place; a good frame hands on how many bytes it took
abbrev pub after_reading : ℕ → (ℕ → Stream) → Answer Message → Stream
after_reading at go_on (refused r) = stops_at at r
after_reading at go_on (answered m) = go_on (layout_of m).taken

-- "The outcome equals the single reader called again on what remains": from a place on, with what remains there, and room for so many frames more.
-- "With no room for 8 more it stops with 11 at the next good frame."
unfoldable pub stream_from : ℕ → ℕ → List ℕ → Stream
stream_from zero at rest = after_reading at (λ taken. stops_at at OutputShort) (reading_of rest)
stream_from (suc room) at rest = after_reading at (λ taken. frame_then at taken (stream_from room (at + taken) (drop taken rest))) (reading_of rest)

-- "Bytes past the first 1,048,576 count as absent."
abbrev pub most_input : ℕ
most_input = 1048576

abbrev pub seen : List ℕ → List ℕ
seen bytes = take most_input bytes

-- bytes of an entry: "start and length, 4 bytes each"
abbrev pub entry_size : ℕ
entry_size = 8

-- the whole stream; room is the list's length
unfoldable pub stream_of : ℕ → List ℕ → Stream
stream_of room bytes = stream_from (room / entry_size) 0 (seen bytes)

-- the numbers of the list: each frame's start, then its length
abbrev pub list_row : List Entry → List ℕ
list_row [] = []
list_row (p ∷ ps) = p.start ∷ p.len ∷ list_row ps
