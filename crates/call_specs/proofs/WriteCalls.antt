-- The write call: one law for each way that it ends.
use mathlib.Core.Path.{◌≡◌, sym, ap, ◌∙◌}
use Prim.Native.Nat.{ℕ, ◌<◌, ◌≤◌}
use mathlib.Core.List.{List, [], ◌∷◌}
use native.Mathlib.Omega.{arith}
use borrow.Author.Tests.{lt-ltb, le-ltb, ltb-false}
use lib.Dec.{ltb}
use lib.ListN.{length}
use Rattle.refusal.specs.declared.Refusal.{Refusal}
use Rattle.refusal.specs.declared.Refusal.TheVariants.{OutputShort}
use Rattle.refusal.specs.Answer.{Answer, refused, answered}
use Rattle.frame_message.specs.Message.{Message}
use Rattle.frame_message.specs.Frame.{frame_of}
use Rattle.frame_message.specs.Writing.{writing, writing_into}
use Rattle.frame_message.specs.Working.{written_as}
use Rattle.refusal.proofs.Answers.{passed, both}
use Rattle.frame_message.proofs.Messages.{Written, written}
use Rattle.std.specs.Prelude.{Result, Ok, Err}
use Rattle.call_specs.specs.Calls.{returned, write_call, wrote}
use Rattle.call_specs.proofs.Telling.{done}

never : {r : Refusal} {n : ℕ} → ◌≡◌ {A = Result ℕ Refusal} (Err r) (Ok n) → ⊥
never e = let z : ◌≡◌ {A = ℕ} 0 1 = cc in omega arith

module _ (m : Message) (room rowRoom : ℕ) where
  pub write_short : rowRoom < 4 → write_call m room rowRoom ≡ refused OutputShort
  unfolding write_call
  write_short h = rw (lt-ltb rowRoom 4 h)

  pub write_on : 4 ≤ rowRoom → write_call m room rowRoom ≡ writing_into room m
  unfolding write_call
  write_on h = rw (le-ltb rowRoom 4 h)

-- with room for its record and the frame, a message that can be written is
pub write_whole : (m : Message) (room rowRoom : ℕ) → 4 ≤ rowRoom → writing m ≡ answered (frame_of m) → length (frame_of m) ≤ room → write_call m room rowRoom ≡ answered (frame_of m)
unfolding writing_into
write_whole m room rowRoom h w l = write_on m room rowRoom h ∙ rw (w, le-ltb room (length (frame_of m)) l)

-- a write that returns 0 is one into an output that has room
pub record WriteDone (m : Message) (room rowRoom : ℕ) : Type 0 where
  pub enough : 4 ≤ rowRoom
  pub fits : length (frame_of m) ≤ room
  pub whole : Written m (frame_of m)
  pub lists : write_call m room rowRoom ≡ answered (frame_of m)

pub write_done : (m : Message) (room rowRoom : ℕ) → 0 ≡ returned (write_call m room rowRoom) → WriteDone m room rowRoom
unfolding write_call writing_into
write_done m room rowRoom e =
    let d = done (write_call m room rowRoom) e in
    let p = passed (ltb rowRoom 4) OutputShort _ d.value d.is in
    let two = both (writing m) _ d.value p.rest in
    let fitted = passed (ltb room (length two.value)) OutputShort (answered two.value) d.value two.second in
    let w = written m two.value two.first in
    let all = two.first ∙ ap answered (sym w.same) in
    let room-is : length (frame_of m) ≤ room = omega (arith, ltb-false room (length two.value) fitted.test, ap length w.same) in
    record {
      enough = ltb-false rowRoom 4 p.test;
      fits = room-is;
      whole = written m (frame_of m) all;
      lists = write_whole m room rowRoom (ltb-false rowRoom 4 p.test) all room-is;
    }

pub write_refused : (a : Answer (List ℕ)) (r : Refusal) → Err r ≡ written_as a → a ≡ refused r
write_refused (refused q) r e = cc
write_refused (answered frame) r e = absurd (never e)

pub write_counted : (a : Answer (List ℕ)) (n : ℕ) → Ok n ≡ written_as a → wrote a ≡ answered (n ∷ [])
write_counted (refused q) n e = absurd (never (sym e))
write_counted (answered frame) n e = let same : length frame ≡ n = cc in ap (λ (k : ℕ). answered (k ∷ [])) same
