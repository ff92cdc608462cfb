-- Laws on frames that are listed one after another.
use mathlib.Core.Path.{◌≡◌, refl, sym, ap, ◌∙◌, subst}
use Prim.Native.Nat.{ℕ, zero, suc, min, ◌+◌, ◌-◌, ◌*◌, ◌/◌, ◌<◌, ◌≤◌}
use mathlib.Core.List.{List, [], ◌∷◌, ◌++◌, append-nil, append_assoc}
use native.Mathlib.Omega.{arith}
use native.Mathlib.Decide.{dec_le}
use native.Mathlib.Nat.{lt_of_not-le}
use lib.ListN.{length, take, drop, length-append, length-drop}
use lib.Seq.{drop-drop, take_all}
use borrow.Rule.Slice.PartMut.{mid_of, put_mid}
use Rattle.bytes_number.specs.Number.{row_bytes, Bytes}
use Rattle.bytes_number.specs.WorkingLays.{laid_if_room, Lays}
use Rattle.bytes_number.proofs.Numbers.{bytes_drop}
use Rattle.bytes_number.proofs.Rows.{row_length, row_append}
use Rattle.bytes_number.proofs.Laying.{lays_none, lays_leaf, lays_length}
use Rattle.refusal.specs.declared.Refusal.{Refusal}
use Rattle.refusal.specs.declared.Refusal.TheVariants.{OutputShort}
use Rattle.refusal.specs.Answer.{refused, answered}
use Rattle.frame_message.specs.Message.{Message}
use Rattle.frame_message.specs.Reading.{reading_of}
use Rattle.frame_message.proofs.Frames.{frame_least}
use Rattle.frame_message.proofs.RoundTrip.{write_back}
use Rattle.frame_layout.specs.declared.Layout.{Layout}
use Rattle.frame_layout.specs.Layout.{layout_of}
use Rattle.frame_body.proofs.Readings.{Read}
use Rattle.frame_stream.specs.declared.Stopped.{Stopped}
use Rattle.frame_stream.specs.Stream.{Entry, Stream, stops_at, frame_then, after_reading, stream_from, stream_of, list_row}
use Rattle.frame_stream.specs.WorkingStream.{Streams}

-- ---- what comes of a reading

pub stream_refused : (room at : ℕ) (rest : List ℕ) {r : Refusal} → reading_of rest ≡ refused r → stream_from room at rest ≡ stops_at at r
unfolding stream_from
stream_refused zero at rest e = ap (after_reading at (λ (taken : ℕ). stops_at at OutputShort)) e
stream_refused (suc room) at rest e = ap (after_reading at (λ (taken : ℕ). frame_then at taken (stream_from room (at + taken) (drop taken rest)))) e

pub stream_full : (at : ℕ) (rest : List ℕ) {m : Message} → reading_of rest ≡ answered m → stream_from 0 at rest ≡ stops_at at OutputShort
unfolding stream_from
stream_full at rest e = ap (after_reading at (λ (taken : ℕ). stops_at at OutputShort)) e

pub stream_more : (room at : ℕ) (rest : List ℕ) {m : Message} → reading_of rest ≡ answered m → stream_from (suc room) at rest ≡ frame_then at (layout_of m).taken (stream_from room (at + (layout_of m).taken) (drop (layout_of m).taken rest))
unfolding stream_from
stream_more room at rest e = ap (after_reading at (λ (taken : ℕ). frame_then at taken (stream_from room (at + taken) (drop taken rest)))) e

-- a frame that is read is no shorter than a control message's, and lies within what it is read from
pub record Whole (b : List ℕ) (taken : ℕ) : Type 0 where
  pub least : 29 ≤ taken
  pub within : taken ≤ length b

pub whole_frame : (b : List ℕ) (m : Message) → Bytes b → reading_of b ≡ answered m → Whole b (layout_of m).taken
unfolding layout_of
whole_frame b m bytes e = let w = write_back b m bytes e in
    record { least = frame_least m; within = w.within }

-- ---- the numbers of the list

pub list_append : (ps qs : List Entry) → list_row (ps ++ qs) ≡ list_row ps ++ list_row qs
list_append [] qs = refl
list_append (p ∷ ps) qs = rw (list_append ps qs)

pub list_length : (ps : List Entry) → length (list_row ps) ≡ 2 * length ps
list_length [] = refl
list_length (p ∷ ps) = omega (arith, list_length ps)

-- ---- the frames listed so far

-- frames that were listed, in front of a stream
abbrev pub behind : List Entry → Stream → Stream
behind done s = record { frames = done ++ s.frames; stopped = s.stopped; stop = s.stop }

-- so many are listed, and the stream goes on at a place; what is left of it is the stream from there, with so much less room
pub record Listed (bytes lent list : List ℕ) (start entries used : ℕ) : Type 0 where
  pub done : List Entry
  pub count : entries ≡ length done
  pub lays : Lays (row_bytes (list_row done)) lent list used
  pub room : 8 * entries ≤ length lent
  pub within : start ≤ length bytes
  pub rest : stream_from (length lent / 8) 0 bytes ≡ behind done (stream_from (length lent / 8 - entries) start (drop start bytes))

pub listed_none : (bytes lent : List ℕ) → Listed bytes lent lent 0 0 0
listed_none bytes lent =
    let whole : length lent / 8 ≡ length lent / 8 - 0 = omega arith in
    record {
      done = [];
      count = refl;
      lays = lays_none lent;
      room = omega arith;
      within = omega arith;
      rest = ap (λ (n : ℕ). stream_from n 0 bytes) whole;
    }

module _ {bytes lent list : List ℕ} {start entries used : ℕ} (l : Listed bytes lent list start entries used) where
  listed_bytes : length (row_bytes (list_row l.done)) ≡ 8 * entries
  listed_bytes = omega (arith, row_length (list_row l.done), list_length l.done, l.count)

  pub listed_used : used ≡ 8 * entries
  listed_used = l.lays.told ∙ listed_bytes

  pub listed_length : length list ≡ length lent
  listed_length = lays_length l.lays (omega (arith, listed_bytes, l.room))

  -- it stops here
  stops : {r : Refusal} → stream_from (length lent / 8 - entries) start (drop start bytes) ≡ stops_at start r → Streams (stream_from (length lent / 8) 0 bytes) lent (record { entries = entries; refusal = r; start = start }) list
  stops {r} e =
      let all : stream_from (length lent / 8) 0 bytes ≡ record { frames = l.done; stopped = r; stop = start } = l.rest ∙ ap (behind l.done) e ∙ (λ i. record { frames = append-nil l.done i; stopped = r; stop = start }) in
      rw all (record { told = λ i. record { entries = l.count i; refusal = r; start = start }; fills = l.lays.bytes })

  pub listed_stopped : {r : Refusal} → reading_of (drop start bytes) ≡ refused r → Streams (stream_from (length lent / 8) 0 bytes) lent (record { entries = entries; refusal = r; start = start }) list
  listed_stopped e = stops (stream_refused (length lent / 8 - entries) start (drop start bytes) e)

  pub listed_full : {m : Message} → reading_of (drop start bytes) ≡ answered m → length list < used + 8 → Streams (stream_from (length lent / 8) 0 bytes) lent (record { entries = entries; refusal = OutputShort; start = start }) list
  listed_full e h =
      let none : length lent / 8 - entries ≡ 0 = omega (arith, listed_used, listed_length, l.room) in
      stops (ap (λ (n : ℕ). stream_from n start (drop start bytes)) none ∙ stream_full start (drop start bytes) e)

  -- a frame is read, and there is room for its entry
  module _ {f : Layout} (r : Read (reading_of (drop start bytes)) f) (known : Bytes bytes) where
    took : (layout_of r.message).taken ≡ f.taken
    took = sym (ap (λ (g : Layout). g.taken) r.places)

    pub listed_whole : Whole (drop start bytes) f.taken
    listed_whole = subst (Whole (drop start bytes)) took (whole_frame (drop start bytes) r.message (bytes_drop start bytes known) r.is)

    abbrev next : Stream
    next = stream_from (length lent / 8 - (entries + 1)) (start + f.taken) (drop (start + f.taken) bytes)

    turn : 8 * entries + 8 ≤ length lent → stream_from (length lent / 8 - entries) start (drop start bytes) ≡ frame_then start f.taken next
    turn h =
        let left = length lent / 8 - (entries + 1) in
        let some : length lent / 8 - entries ≡ suc left = omega arith in
        ap (λ (n : ℕ). stream_from n start (drop start bytes)) some ∙ stream_more left start (drop start bytes) r.is
        ∙ ap (λ (n : ℕ). frame_then start n (stream_from left (start + n) (drop n (drop start bytes)))) took
        ∙ ap (λ (xs : List ℕ). frame_then start f.taken (stream_from left (start + f.taken) xs)) (drop-drop f.taken start bytes)

    pub listed_more : used + 8 ≤ length list → {last : List ℕ} → last ≡ laid_if_room (row_bytes (start ∷ f.taken ∷ [])) (mid_of used (length list - used) list) → Listed bytes lent (put_mid used (length list - used) list last) (start + f.taken) (entries + 1) (used + 8)
    listed_more h laid =
        let place : Entry = record { start = start; len = f.taken } in
        let entry = row_bytes (start ∷ f.taken ∷ []) in
        let row : row_bytes (list_row (l.done ++ (place ∷ []))) ≡ row_bytes (list_row l.done) ++ entry = ap row_bytes (list_append l.done (place ∷ [])) ∙ row_append (list_row l.done) (start ∷ f.taken ∷ []) in
        let fits : length (row_bytes (list_row l.done) ++ entry) ≤ length lent = omega (arith, listed_bytes, listed_used, listed_length, length-append (row_bytes (list_row l.done)) entry) in
        record {
          done = l.done ++ (place ∷ []);
          count = omega (arith, l.count, length-append l.done (place ∷ []));
          lays = rw row (lays_leaf l.lays entry fits laid);
          room = omega (arith, listed_used, listed_length);
          within = omega (arith, listed_whole.within, length-drop start bytes, l.within);
          rest = l.rest ∙ ap (behind l.done) (turn (omega (arith, listed_used, listed_length))) ∙ sym (λ i. record { frames = append_assoc l.done (place ∷ []) next.frames i; stopped = next.stopped; stop = next.stop });
        }

-- ---- what counts of an input

seen_front : (n : ℕ) (bytes : List ℕ) → n ≡ min 1048576 (length bytes) → take n bytes ≡ take 1048576 bytes
seen_front n bytes e = go (dec_le 1048576 (length bytes))
  where
    go : Dec (1048576 ≤ length bytes) → take n bytes ≡ take 1048576 bytes
    go (yes h) = let same : n ≡ 1048576 = omega arith in ap (λ (k : ℕ). take k bytes) same
    go (no h) =
        let short = lt_of_not-le h in
        take_all n bytes (omega arith) ∙ sym (take_all 1048576 bytes (omega arith))

pub streams_seen : (bytes : List ℕ) (n : ℕ) {list filled : List ℕ} {r : Stopped} → n ≡ min 1048576 (length bytes) → Streams (stream_from (length list / 8) 0 (take n bytes)) list r filled → Streams (stream_of (length list) bytes) list r filled
unfolding stream_of
streams_seen bytes n {list} {filled} {r} e h = subst (λ (front : List ℕ). Streams (stream_from (length list / 8) 0 front) list r filled) (seen_front n bytes e) h
