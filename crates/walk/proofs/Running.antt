-- A run of steps is a walk, and a walk is a run: 65 steps are enough for whatever the buffer holds.
use mathlib.Core.Path.{◌≡◌, refl, sym, ap, ◌∙◌, subst, subst⁻¹}
use mathlib.Core.Bool.{false}
use mathlib.Core.Logic.{◌⊎◌, ⊎_elim}
use Prim.Native.Nat.{ℕ, zero, suc, ◌+◌, ◌-◌, ◌<◌, ◌≤◌}
use mathlib.Core.List.{List, [], ◌∷◌}
use native.Mathlib.Omega.{arith}
use lib.ListN.{length, get_or, drop}
use Rattle.bytes_number.proofs.Truth.{true_false}
use Rattle.bytes_number.specs.Number.{Bytes}
use Rattle.refusal.specs.Answer.{Answer, refused, answered}
use Rattle.frame_message.specs.Message.{Message}
use Rattle.frame_message.specs.Frame.{frame_of}
use Rattle.frame_message.specs.Reading.{reading_of, final}
use Rattle.refusal.proofs.Answers.{answered_same}
use Rattle.frame_message.proofs.Forms.{routes_few}
use Rattle.table_identities.specs.Identities.{identity_at}
use Rattle.frame_rewrite.specs.Renewed.{cleared}
use Rattle.step_routing.specs.declared.Broker.{Broker}
use Rattle.step_routing.specs.Routed.{Tables, Outcome, delivered, forwarded, replied, silenced, home}
use Rattle.step_pass.specs.Step.{step_of, left_by}
use Rattle.step_pass.proofs.Passing.{step_took}
use Rattle.step_pass.proofs.Keeping.{Sound, sound_read, read_cleared, passes, pushed_few}
use Rattle.step_pass.proofs.Forwarding.{PushedOn, PoppedOn, goes_on, on_sound}
use Rattle.walk.specs.Walk.{Walk, onward, rests_at, after_step, walk_from}
use Rattle.walk.specs.Runs.{is_forward, Run, rests, goes, IsRun}
use Rattle.walk.proofs.Walking.{walk_turn}

-- a run has a broker
pub run_some : {t : Tables} {b : Broker} {buffer ranks left : List ℕ} {answer : Answer Outcome} → Run t b buffer ranks answer left → 1 ≤ length ranks
run_some (rests b buffer answer e n) = omega arith
run_some (goes b buffer next m ranks answer left e r) = omega arith

-- and ends otherwise than with 2
pub run_ends : {t : Tables} {b : Broker} {buffer ranks left : List ℕ} {answer : Answer Outcome} → Run t b buffer ranks answer left → is_forward answer ≡ false
run_ends (rests b buffer answer e n) = n
run_ends (goes b buffer next m ranks answer left e r) = run_ends r

-- the last of a longer list is the last of the rest
pub final_more : (r : ℕ) (rs : List ℕ) → 1 ≤ length rs → final 0 (r ∷ rs) ≡ final 0 rs
final_more r [] h = absurd (omega arith)
final_more r (s ∷ rs) h =
    let n = length rs in
    let one : suc (suc n) - 1 ≡ suc n = omega arith in
    let two : n ≡ suc n - 1 = omega arith in
    ap (λ (k : ℕ). get_or (r ∷ s ∷ rs) k 0) one ∙ ap (λ (k : ℕ). get_or (s ∷ rs) k 0) two

-- ---- a run is a walk

rest_after : (go_on : Broker → ℕ → List ℕ → Walk) (b : Broker) (links : ℕ) (buffer : List ℕ) (answer : Answer Outcome) → is_forward answer ≡ false →
    after_step go_on b links buffer answer ≡ rests_at answer b links buffer
rest_after go_on b links buffer (refused r) e = refl
rest_after go_on b links buffer (answered (delivered number)) e = refl
rest_after go_on b links buffer (answered (forwarded next m)) e = absurd (true_false e)
rest_after go_on b links buffer (answered (replied errnum m)) e = refl
rest_after go_on b links buffer (answered (silenced errnum)) e = refl
rest_after go_on b links buffer (answered home) e = refl

-- what a walk comes to by the run of its steps, with so many links behind it
abbrev pub came_to : Answer Outcome → List ℕ → ℕ → List ℕ → Walk
came_to answer ranks links left = record { answer = answer; rank = final 0 ranks; links = links + (length ranks - 1); left = left }

pub run_walk : {t : Tables} {b : Broker} {buffer ranks left : List ℕ} {answer : Answer Outcome} → Run t b buffer ranks answer left →
    (n links : ℕ) → length ranks ≤ n → walk_from n t b links buffer ≡ came_to answer ranks links left
run_walk {t} (rests b buffer answer e stops) n links h =
    let none : links ≡ links + (1 - 1) = omega arith in
    walk_turn t b links buffer n (omega arith) ∙ ap (after_step (walk_from (n - 1) t) b links buffer) e ∙ rest_after (walk_from (n - 1) t) b links buffer answer stops
    ∙ (λ i. record { answer = answer; rank = b.rank; links = none i; left = left_by answer buffer })
run_walk {t} (goes b buffer next m ranks answer left e r) n links h =
    let some = run_some r in
    let more : links + 1 + (length ranks - 1) ≡ links + (suc (length ranks) - 1) = omega arith in
    let last : final 0 ranks ≡ final 0 (b.rank ∷ ranks) = sym (final_more b.rank ranks some) in
    walk_turn t b links buffer n (omega arith) ∙ ap (after_step (walk_from (n - 1) t) b links buffer) e ∙ run_walk r (n - 1) (links + 1) (omega arith)
    ∙ (λ i. record { answer = answer; rank = last i; links = more i; left = left })

-- ---- a walk is a run

-- how many steps are enough for a message: a request gains a route with each and has at most 64, a response loses one
record Enough (m : Message) (n : ℕ) : Type 0 where
  pub some : 1 ≤ n
  pub request : m.header.kind ≡ 1 → 65 ≤ n + length m.routes
  pub response : m.header.kind ≡ 2 → length m.routes < n

-- whatever is read from the buffer
abbrev Settles : List ℕ → ℕ → Type 0
Settles buffer n = (1 ≤ n) × ((m : Message) → reading_of buffer ≡ answered m → Sound m × Enough m n)

-- a run from there, of so many steps at the most
record Ends (t : Tables) (b : Broker) (buffer : List ℕ) (n : ℕ) : Type 0 where
  pub ranks : List ℕ
  pub answer : Answer Outcome
  pub left : List ℕ
  pub run : Run t b buffer ranks answer left
  pub few : length ranks ≤ n

-- a message that goes on needs one step fewer
enough_on : (t : Tables) (b : Broker) (m new : Message) (n : ℕ) → Enough m (suc n) → PushedOn t b m new ⊎ PoppedOn m new → Enough new n
enough_on t b m new n e on = ⊎_elim grows shrinks on
  where
    grows : PushedOn t b m new → Enough new n
    grows p =
        let routes : length new.routes ≡ suc (length m.routes) = ap (λ (x : Message). length x.routes) p.same in
        let kind : new.header.kind ≡ 1 = ap (λ (x : Message). x.header.kind) p.same ∙ p.type in
        let most = pushed_few (identity_at t.identities b.rank) m p.small in
        let before = e.request p.type in
        record { some = omega arith; request = λ k. omega arith; response = λ k. absurd (omega arith) }

    shrinks : PoppedOn m new → Enough new n
    shrinks p =
        let routes : length m.routes ≡ suc (length p.rest) = ap length p.routes in
        let left : length new.routes ≡ length p.rest = ap (λ (x : Message). length x.routes) p.same ∙ ap (λ (rs : List (List ℕ)). length (drop 1 rs)) p.routes in
        let kind : new.header.kind ≡ 2 = ap (λ (x : Message). x.header.kind) p.same ∙ p.type in
        let before = e.response p.type in
        record { some = omega arith; request = λ k. absurd (omega arith); response = λ k. omega arith }

-- one step more, where the rest ends
module _ (n : ℕ) (t : Tables) (again : (b : Broker) (buffer : List ℕ) → Settles buffer n → Ends t b buffer n) (b : Broker) (buffer : List ℕ) (s : Settles buffer (suc n)) where
  stops : (answer : Answer Outcome) → step_of t b buffer ≡ answer → is_forward answer ≡ false → Ends t b buffer (suc n)
  stops answer e f = record { ranks = b.rank ∷ []; answer = answer; left = left_by answer buffer; run = rests b buffer answer e f; few = omega arith }

  goes_further : (next : ℕ) (m : Message) → step_of t b buffer ≡ answered (forwarded next m) → Ends t b buffer (suc n)
  goes_further next m e =
      let took = step_took t b buffer (forwarded next m) e in
      let known = s.1 took.message took.read in
      let sound = on_sound t b took.message next m took.identities took.inside known.0 took.does in
      let fewer = enough_on t b took.message m n known.1 (goes_on t b took.message next m took.does) in
      let read = read_cleared m sound buffer in
      let same : (x : Message) → reading_of (cleared (frame_of m) buffer) ≡ answered x → m ≡ x = λ x r. answered_same (sym read ∙ r) in
      let rest =
      again (onward next b) (cleared (frame_of m) buffer)
      (fewer.some, λ x r. (subst (λ (y : Message). Sound y) (same x r) sound, subst (λ (y : Message). Enough y n) (same x r) fewer)) in
      record {
        ranks = b.rank ∷ rest.ranks;
        answer = rest.answer;
        left = rest.left;
        run = goes b buffer next m rest.ranks rest.answer rest.left e rest.run;
        few = omega (arith, rest.few);
      }

  by_answer : (answer : Answer Outcome) → step_of t b buffer ≡ answer → Ends t b buffer (suc n)
  by_answer (refused r) e = stops (refused r) e refl
  by_answer (answered (delivered number)) e = stops (answered (delivered number)) e refl
  by_answer (answered (forwarded next m)) e = goes_further next m e
  by_answer (answered (replied errnum m)) e = stops (answered (replied errnum m)) e refl
  by_answer (answered (silenced errnum)) e = stops (answered (silenced errnum)) e refl
  by_answer (answered home) e = stops (answered home) e refl

ends : (n : ℕ) (t : Tables) (b : Broker) (buffer : List ℕ) → Settles buffer n → Ends t b buffer n
ends zero t b buffer s = absurd (omega (arith, s.0))
ends (suc n) t b buffer s = by_answer n t (ends n t) b buffer s (step_of t b buffer) refl

-- whatever bytes are in the buffer, 65 steps are enough
settles : (buffer : List ℕ) → Bytes buffer → Settles buffer 65
settles buffer bytes = (
  omega arith,
  λ m e.
      let sound = sound_read buffer m bytes e in
      let few = routes_few m.routes (passes m sound).routes in
      (sound, record { some = omega arith; request = λ k. omega arith; response = λ k. omega arith }),
)

-- so a walk is a run, and more steps would change nothing
pub walk_is_run : (t : Tables) (b : Broker) (buffer : List ℕ) → Bytes buffer → (more : ℕ) → IsRun t b buffer (walk_from (65 + more) t b 0 buffer)
walk_is_run t b buffer bytes more =
    let end = ends 65 t b buffer (settles buffer bytes) in
    let came = run_walk end.run (65 + more) 0 (omega (arith, end.few)) in
    subst⁻¹ (λ (w : Walk). IsRun t b buffer w) came
    (record { ranks = end.ranks; run = end.run; ended = run_ends end.run; last = refl; links = omega arith })

pub walk_settles : (t : Tables) (b : Broker) (buffer : List ℕ) → Bytes buffer → (more : ℕ) → walk_from (65 + more) t b 0 buffer ≡ walk_from 65 t b 0 buffer
walk_settles t b buffer bytes more =
    let end = ends 65 t b buffer (settles buffer bytes) in
    run_walk end.run (65 + more) 0 (omega (arith, end.few)) ∙ sym (run_walk end.run 65 0 end.few)
