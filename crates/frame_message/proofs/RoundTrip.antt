-- The two laws that carry the project, for every message and for all bytes.
-- read-back: what the writer writes is read as the message that was written, whatever is behind it.
-- write-back: what the reader reads is written as the bytes that were read. So a message has one frame, and the reader takes no other for it.
use mathlib.Core.Path.{◌≡◌, sym, ap, ◌∙◌}
use Prim.Native.Nat.{ℕ, ◌+◌, ◌≤◌}
use mathlib.Core.List.{List, ◌++◌}
use native.Mathlib.Omega.{arith}
use lib.ListN.{length, take, drop}
use Rattle.bytes_number.specs.Number.{Bytes}
use Rattle.bytes_number.proofs.Numbers.{bytes_take, bytes_drop}
use Rattle.refusal.specs.Answer.{Answer, answered, and_then}
use Rattle.frame_message.specs.Message.{Message}
use Rattle.frame_message.specs.Working.{FieldsFit}
use Rattle.frame_message.specs.Frame.{joined, parts_of, body_of, frame_of}
use Rattle.frame_message.specs.Writing.{writing}
use Rattle.frame_message.specs.Reading.{parts_in, judged, body_length, reading_of}
use Rattle.refusal.proofs.Answers.{both}
use Rattle.frame_message.proofs.Lists.{bytes_part}
use Rattle.frame_message.proofs.Parts.{split, join, joined_sized}
use Rattle.frame_message.proofs.Messages.{written, write, parts_few, judge, held}
use Rattle.frame_message.proofs.Frames.{read_frame, reading, framed_in, frame_same, frame_length_lem, body_short}

-- ---- read back

pub read_back : (m : Message) → FieldsFit m.header → writing m ≡ answered (frame_of m) → (rest : List ℕ) → reading_of (frame_of m ++ rest) ≡ answered m
unfolding frame_of body_of
read_back m fits e rest =
    let w = written m (frame_of m) e in
    let parts = join 68 (parts_of m) (parts_few m w.passes) (joined_sized (parts_of m) (omega (arith, w.short))) in
    read_frame (body_of m) rest w.short ∙ ap (λ (ps : Answer (List (List ℕ))). and_then ps judged) parts ∙ judge m fits w.passes

-- ---- write back

-- a message read from b: its frame is the bytes in front of b, as many as b says, and the writer writes it
pub record WrittenBack (b : List ℕ) (m : Message) : Type 0 where
  pub same : frame_of m ≡ take (length (frame_of m)) b
  pub taken : length (frame_of m) ≡ 8 + body_length b
  pub within : length (frame_of m) ≤ length b
  pub writable : writing m ≡ answered (frame_of m)
  pub fits : FieldsFit m.header

pub write_back : (b : List ℕ) (m : Message) → Bytes b → reading_of b ≡ answered m → WrittenBack b m
unfolding body_of
write_back b m bytes e =
    let r = reading b m e in
    let body = take (body_length b) (drop 8 b) in
    let two = both (parts_in 68 body) judged m r.parts in
    let parts = split 68 body two.value (bytes_take (body_length b) (drop 8 b) (bytes_drop 8 b bytes)) two.first in
    let h = held two.value m (bytes_part two.value _ parts.bytes) two.second in
    let same : body_of m ≡ body = ap joined h.same ∙ sym parts.same in
    let f = framed_in b m bytes r in
    let long = frame_length_lem b m body same f in
    record {
      same = frame_same b m body same f ∙ ap (λ (n : ℕ). take n b) (sym long);
      taken = long;
      within = omega (arith, long, r.within);
      writable = write m h.passes (body_short b m body same f r.short);
      fits = h.fits;
    }
