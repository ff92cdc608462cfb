-- The claim of specs/Streams.antt: the entries of the list are the run of frames that the stream is.
use mathlib.Core.Path.{◌≡◌, refl, sym, ap, ◌∙◌, subst⁻¹}
use Prim.Native.Nat.{ℕ, zero, suc, ◌+◌, ◌-◌, ◌*◌, ◌/◌, ◌<◌, ◌≤◌}
use mathlib.Core.List.{List, ◌++◌}
use native.Mathlib.Omega.{arith}
use lib.ListN.{length, get_or, take, drop, length-take}
use lib.Seq.{drop_at, take-add, length-take-le}
use Rattle.bytes_number.specs.Number.{Bytes, row_bytes, number_in}
use Rattle.bytes_number.specs.Laid.{laid}
use Rattle.bytes_number.proofs.Numbers.{bytes_take}
use Rattle.bytes_number.proofs.Rows.{row_number, row_length}
use Rattle.refusal.specs.Refusals.{number_of}
use Rattle.refusal.specs.Answer.{answered}
use Rattle.frame_message.specs.Message.{Message}
use Rattle.frame_message.specs.Reading.{reading_of}
use Rattle.refusal.proofs.Answers.{number-range}
use Rattle.frame_message.proofs.Lists.{each_at}
use Rattle.frame_layout.specs.Layout.{layout_of, stretch}
use Rattle.frame_stream.specs.Stream.{Entry, Stream, seen, stream_of, list_row}
use Rattle.frame_stream.proofs.Streaming.{list_length}
use Rattle.frame_stream.proofs.Runs.{Stops, stream_stops, bound, bound_end, length_of, start_listed, length_listed, run_first, run_next, run_taken, taken_whole, run_within, run_each}
use Rattle.call_specs.specs.Calls.{stream_record, stream_numbers}
use Rattle.claim_frames.specs.Streams.{entries_in, stop_reason_in, stop_in, start_at, length_at, frames_at, AcceptedAt, StoppedBy, FramesOf, StreamIsTheInput}

module _ (bytes : List ℕ) (known : Bytes bytes) (list row : List ℕ) where
  abbrev input : List ℕ
  input = seen bytes

  abbrev s : Stream
  s = stream_of (length list) bytes

  abbrev ps : List Entry
  ps = s.frames

  stops : Stops input (length list / 8) 0 s
  unfolding stream_of
  stops = stream_stops input (length list / 8) 0

  short : (length input ≤ 1048576) × (length input ≤ length bytes)
  short = (omega (arith, length-take 1048576 bytes), omega (arith, length-take 1048576 bytes))

  far : (29 * length ps ≤ s.stop) × (s.stop ≤ length input)
  far = let w = run_within input (bytes_take 1048576 bytes known) 0 ps s.stop (omega arith) stops.run in
      (omega (arith, w.0), w.1)

  -- what the call leaves in the list and in the record
  abbrev laid_list : List ℕ
  laid_list = laid (row_bytes (list_row ps)) list

  abbrev told : List ℕ
  told = laid (row_bytes (stream_numbers s)) row

  -- ---- the record's numbers

  entries_told : entries_in told ≡ length ps
  entries_told = row_number (stream_numbers s) (drop 12 row) 0 (omega arith) (omega (arith, far.0, far.1, short.0))

  refusal_told : stop_reason_in told ≡ number_of s.stopped
  refusal_told = row_number (stream_numbers s) (drop 12 row) 1 (omega arith) (omega (arith, (number-range s.stopped).1))

  stop_told : stop_in told ≡ s.stop
  stop_told = row_number (stream_numbers s) (drop 12 row) 2 (omega arith) (omega (arith, far.1, short.0))

  -- ---- the list's

  entry_most : (k : ℕ) → k < 2 * length ps → get_or (list_row ps) k 0 ≤ length input
  entry_most k h =
      each_at (λ (n : ℕ). n ≤ length input) (list_row ps) k 0 (run_each input (bytes_take 1048576 bytes known) 0 ps s.stop (omega arith) stops.run) (omega (arith, list_length ps))

  entry_told : (k : ℕ) → k < 2 * length ps → number_in laid_list k ≡ get_or (list_row ps) k 0
  entry_told k h =
      row_number (list_row ps) (drop (length (row_bytes (list_row ps))) list) k (omega (arith, list_length ps)) (omega (arith, entry_most k h, short.0))

  start_told : (i : ℕ) → i < length ps → start_at laid_list i ≡ bound ps s.stop i
  start_told i h = entry_told (2 * i) (omega arith) ∙ start_listed ps s.stop i h

  length-told : (i : ℕ) → i < length ps → length_at laid_list i ≡ length_of ps i
  length-told i h = entry_told (2 * i + 1) (omega arith) ∙ length_listed ps i h

  -- ---- the frames

  accepted : (i : ℕ) → i < length ps → AcceptedAt input (start_at laid_list i) (length_at laid_list i)
  unfolding layout_of
  accepted i h =
      let t = run_taken input 0 ps s.stop i stops.run h in
      record {
        message = t.message;
        read = ap (λ (k : ℕ). reading_of (drop k input)) (start_told i h) ∙ t.read;
        long = t.took ∙ sym (length-told i h);
      }

  joined : (n : ℕ) → n ≤ length ps → frames_at bytes laid_list n ≡ take (bound ps s.stop n) bytes
  joined zero h = ap (λ (k : ℕ). take k bytes) (sym (run_first input 0 ps s.stop stops.run))
  joined (suc n) h =
      let at = bound ps s.stop n in
      ap (λ (xs : List ℕ). xs ++ stretch bytes (start_at laid_list n) (length_at laid_list n)) (joined n (omega arith))
      ∙ ap (λ (k : ℕ). take at bytes ++ stretch bytes k (length_at laid_list n)) (start_told n (omega arith))
      ∙ ap (λ (k : ℕ). take at bytes ++ stretch bytes at k) (length-told n (omega arith))
      ∙ sym (take-add at (length_of ps n) bytes) ∙ ap (λ (k : ℕ). take k bytes) (sym (run_next input 0 ps s.stop n stops.run (omega arith)))

  starts : (i : ℕ) → i < length ps → start_at laid_list i ≡ length (frames_at bytes laid_list i)
  starts i h =
      let within : bound ps s.stop i ≤ length bytes = omega (arith, entry_most (2 * i) (omega arith), start_listed ps s.stop i h, short.1) in
      start_told i h ∙ sym (ap length (joined i (omega arith)) ∙ length-take-le (bound ps s.stop i) bytes within)

  stopped : StoppedBy input (length list - 8 * length ps) s.stop (number_of s.stopped)
  stopped =
      record {
        unread = λ r e. ap number_of (stops.unread e);
        full = λ m e. (ap number_of (stops.full e).0, omega (arith, (stops.full e).1));
      }

  -- with room for 36,157 entries a stream cannot stop at a good frame: there would be 36,158 of 29 bytes each
  enough : 289256 ≤ length list → (m : Message) → reading_of (drop s.stop input) ≡ answered m → ⊥
  enough h m e =
      let w = taken_whole input (bytes_take 1048576 bytes known) s.stop (layout_of m).taken far.1 (record { message = m; read = e; took = refl }) in
      omega (arith, w.0, w.1, far.0, short.0, (stops.full e).1)

  frames : FramesOf bytes list row 0 laid_list told
  frames =
      let size : length (row_bytes (list_row ps)) ≡ 8 * length ps = omega (arith, row_length (list_row ps), list_length ps) in
      record {
        returns = refl;
        record_tail = drop_at (row_bytes (stream_numbers s)) (drop stream_record row) stream_record refl;
        fits = rw entries_told (omega (arith, stops.few));
        accepted = λ i h. accepted i (rw entries_told at h);
        starts = λ i h. starts i (rw entries_told at h);
        joined = rw (entries_told, stop_told) (joined (length ps) (omega arith) ∙ ap (λ (k : ℕ). take k bytes) (bound_end ps s.stop));
        within = rw stop_told far.1;
        stopped = rw (entries_told, stop_told, refusal_told) stopped;
        enough = λ h m e. enough (omega (arith, h)) m (rw stop_told at e);
        tail = rw entries_told (drop_at (row_bytes (list_row ps)) (drop (length (row_bytes (list_row ps))) list) (8 * length ps) size ∙ ap (λ (k : ℕ). drop k list) size);
      }

pub stream_is_the_input : (bytes : List ℕ) → Bytes bytes → StreamIsTheInput bytes
stream_is_the_input bytes known list row r filled listed room reads =
    let does = reads.streams (omega (arith, room)) in
    let by-return = subst⁻¹ (λ (k : ℕ). FramesOf bytes list row k (laid_list bytes known list row) (told bytes known list row)) does.returns (frames bytes known list row) in
    let by-list = subst⁻¹ (λ (xs : List ℕ). FramesOf bytes list row r xs (told bytes known list row)) does.fills by-return in
    subst⁻¹ (λ (xs : List ℕ). FramesOf bytes list row r filled xs) does.lists by-list
