-- What a stream lists: frames one behind another, each accepted by the reader where the one in front of it ends; and why it stopped.
use mathlib.Core.Path.{◌≡◌, refl, sym, ap, ◌∙◌, subst⁻¹}
use Prim.Native.Nat.{ℕ, zero, suc, ◌+◌, ◌*◌, ◌<◌, ◌≤◌}
use mathlib.Core.List.{List, [], ◌∷◌}
use native.Mathlib.Omega.{arith}
use native.Mathlib.Nat.{le_of_suc-le-suc}
use lib.ListN.{length, get_or, drop, length-drop}
use lib.Seq.{drop-drop}
use Rattle.bytes_number.specs.Number.{Bytes}
use Rattle.bytes_number.proofs.Numbers.{bytes_drop}
use Rattle.refusal.specs.declared.Refusal.{Refusal}
use Rattle.refusal.specs.declared.Refusal.TheVariants.{OutputShort}
use Rattle.refusal.specs.Answer.{Answer, refused, answered}
use Rattle.frame_message.specs.Message.{Message}
use Rattle.frame_message.specs.Reading.{reading_of}
use Rattle.refusal.proofs.Answers.{not_answered, refused_same}
use Rattle.frame_message.proofs.Lists.{Each}
use Rattle.frame_layout.specs.Layout.{layout_of}
use Rattle.frame_stream.specs.Stream.{Entry, Stream, stops_at, frame_then, stream_from, list_row}
use Rattle.frame_stream.proofs.Streaming.{stream_refused, stream_full, stream_more, whole_frame}

-- the reader accepts what remains from a place on, and takes so many bytes of it
pub record Taken (b : List ℕ) (at len : ℕ) : Type 0 where
  pub message : Message
  pub read : reading_of (drop at b) ≡ answered message
  pub took : (layout_of message).taken ≡ len

-- frames one behind another, from a place to a place
abbrev pub Run : List ℕ → ℕ → List Entry → ℕ → Type 0
Run b at [] stop = at ≡ stop
Run b at (p ∷ ps) stop = (p.start ≡ at) × Taken b at p.len × Run b (at + p.len) ps stop

-- a stream from a place on, with room for so many frames
pub record Stops (b : List ℕ) (room at : ℕ) (s : Stream) : Type 0 where
  pub run : Run b at s.frames s.stop
  pub few : length s.frames ≤ room
  pub unread : {r : Refusal} → reading_of (drop s.stop b) ≡ refused r → s.stopped ≡ r
  pub full : {m : Message} → reading_of (drop s.stop b) ≡ answered m → (s.stopped ≡ OutputShort) × (length s.frames ≡ room)

-- it ends at a frame that is refused, or that has no room
stops_unread : (b : List ℕ) (room at : ℕ) (r : Refusal) → reading_of (drop at b) ≡ refused r → Stops b room at (stops_at at r)
stops_unread b room at r e = record { run = refl; few = omega arith; unread = λ f. refused_same (sym e ∙ f); full = λ f. absurd (not_answered (sym e ∙ f)) }

stops_full : (b : List ℕ) (at : ℕ) (m : Message) → reading_of (drop at b) ≡ answered m → Stops b 0 at (stops_at at OutputShort)
stops_full b at m e = record { run = refl; few = omega arith; unread = λ f. absurd (not_answered (sym f ∙ e)); full = λ f. (refl, refl) }

-- or goes on behind one
stops_behind : (b : List ℕ) (room at : ℕ) (m : Message) (s : Stream) → reading_of (drop at b) ≡ answered m → Stops b room (at + (layout_of m).taken) s → Stops b (suc room) at (frame_then at (layout_of m).taken s)
stops_behind b room at m s e h =
    record {
      run = (refl, record { message = m; read = e; took = refl }, h.run);
      few = omega (arith, h.few);
      unread = λ f. h.unread f;
      full = λ f. ((h.full f).0, omega (arith, (h.full f).1));
    }

-- of any stream, by what is read at its front
module _ (b : List ℕ) (room : ℕ) (again : (at : ℕ) → Stops b room at (stream_from room at (drop at b))) (at : ℕ) where
  stops_more : (a : Answer Message) → reading_of (drop at b) ≡ a → Stops b (suc room) at (stream_from (suc room) at (drop at b))
  stops_more (refused r) e = subst⁻¹ (Stops b (suc room) at) (stream_refused (suc room) at (drop at b) e) (stops_unread b (suc room) at r e)
  stops_more (answered m) e =
      let taken = (layout_of m).taken in
      let turn : stream_from (suc room) at (drop at b) ≡ frame_then at taken (stream_from room (at + taken) (drop (at + taken) b)) =
      stream_more room at (drop at b) e ∙ ap (λ (xs : List ℕ). frame_then at taken (stream_from room (at + taken) xs)) (drop-drop taken at b) in
      subst⁻¹ (Stops b (suc room) at) turn (stops_behind b room at m (stream_from room (at + taken) (drop (at + taken) b)) e (again (at + taken)))

stops_none : (b : List ℕ) (at : ℕ) (a : Answer Message) → reading_of (drop at b) ≡ a → Stops b 0 at (stream_from 0 at (drop at b))
stops_none b at (refused r) e = subst⁻¹ (Stops b 0 at) (stream_refused 0 at (drop at b) e) (stops_unread b 0 at r e)
stops_none b at (answered m) e = subst⁻¹ (Stops b 0 at) (stream_full at (drop at b) e) (stops_full b at m e)

pub stream_stops : (b : List ℕ) (room at : ℕ) → Stops b room at (stream_from room at (drop at b))
stream_stops b zero at = stops_none b at (reading_of (drop at b)) refl
stream_stops b (suc room) at = stops_more b room (λ k. stream_stops b room k) at (reading_of (drop at b)) refl

-- ---- the entries of a run

-- where frame i starts, and behind the last one where the run stops
abbrev pub bound : List Entry → ℕ → ℕ → ℕ
bound [] stop i = stop
bound (p ∷ ps) stop zero = p.start
bound (p ∷ ps) stop (suc i) = bound ps stop i

pub bound_end : (ps : List Entry) (stop : ℕ) → bound ps stop (length ps) ≡ stop
bound_end [] stop = refl
bound_end (p ∷ ps) stop = bound_end ps stop

abbrev pub length_of : List Entry → ℕ → ℕ
length_of [] i = 0
length_of (p ∷ ps) zero = p.len
length_of (p ∷ ps) (suc i) = length_of ps i

pub start_listed : (ps : List Entry) (stop i : ℕ) → i < length ps → get_or (list_row ps) (2 * i) 0 ≡ bound ps stop i
start_listed [] stop i h = absurd (omega arith)
start_listed (p ∷ ps) stop zero h = refl
start_listed (p ∷ ps) stop (suc i) h =
    let next : 2 * suc i ≡ suc (suc (2 * i)) = omega arith in
    ap (λ (k : ℕ). get_or (list_row (p ∷ ps)) k 0) next ∙ start_listed ps stop i (le_of_suc-le-suc h)

pub length_listed : (ps : List Entry) (i : ℕ) → i < length ps → get_or (list_row ps) (2 * i + 1) 0 ≡ length_of ps i
length_listed [] i h = absurd (omega arith)
length_listed (p ∷ ps) zero h = refl
length_listed (p ∷ ps) (suc i) h =
    let next : 2 * suc i + 1 ≡ suc (suc (2 * i + 1)) = omega arith in
    ap (λ (k : ℕ). get_or (list_row (p ∷ ps)) k 0) next ∙ length_listed ps i (le_of_suc-le-suc h)

pub run_first : (b : List ℕ) (at : ℕ) (ps : List Entry) (stop : ℕ) → Run b at ps stop → bound ps stop 0 ≡ at
run_first b at [] stop r = sym r
run_first b at (p ∷ ps) stop r = r.0

pub run_next : (b : List ℕ) (at : ℕ) (ps : List Entry) (stop i : ℕ) → Run b at ps stop → i < length ps → bound ps stop (suc i) ≡ bound ps stop i + length_of ps i
run_next b at [] stop i r h = absurd (omega arith)
run_next b at (p ∷ ps) stop zero r h = run_first b (at + p.len) ps stop r.2 ∙ ap (λ (k : ℕ). k + p.len) (sym r.0)
run_next b at (p ∷ ps) stop (suc i) r h = run_next b (at + p.len) ps stop i r.2 (le_of_suc-le-suc h)

pub run_taken : (b : List ℕ) (at : ℕ) (ps : List Entry) (stop i : ℕ) → Run b at ps stop → i < length ps → Taken b (bound ps stop i) (length_of ps i)
run_taken b at [] stop i r h = absurd (omega arith)
run_taken b at (p ∷ ps) stop zero r h = subst⁻¹ (λ (k : ℕ). Taken b k p.len) r.0 r.1
run_taken b at (p ∷ ps) stop (suc i) r h = run_taken b (at + p.len) ps stop i r.2 (le_of_suc-le-suc h)

-- ---- how far a run goes

module _ (b : List ℕ) (known : Bytes b) where
  -- a frame takes 29 bytes or more of what remains
  pub taken_whole : (at len : ℕ) → at ≤ length b → Taken b at len → (29 ≤ len) × (at + len ≤ length b)
  taken_whole at len h t = let w = whole_frame (drop at b) t.message (bytes_drop at b known) t.read in
      (omega (arith, w.least, t.took), omega (arith, w.within, t.took, length-drop at b))

  pub run_within : (at : ℕ) (ps : List Entry) (stop : ℕ) → at ≤ length b → Run b at ps stop → (at + 29 * length ps ≤ stop) × (stop ≤ length b)
  run_within at [] stop h r = (omega (arith, r), omega (arith, r))
  run_within at (p ∷ ps) stop h r =
      let w = taken_whole at p.len h r.1 in
      let more = run_within (at + p.len) ps stop w.1 r.2 in
      (omega (arith, w.0, more.0), more.1)

  pub run_each : (at : ℕ) (ps : List Entry) (stop : ℕ) → at ≤ length b → Run b at ps stop → Each (λ n. n ≤ length b) (list_row ps)
  run_each at [] stop h r = tt
  run_each at (p ∷ ps) stop h r =
      let w = taken_whole at p.len h r.1 in
      (omega (arith, r.0), (omega (arith, w.1), run_each (at + p.len) ps stop w.1 r.2))
