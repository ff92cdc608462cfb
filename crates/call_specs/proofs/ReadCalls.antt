-- The read call: one law for each way that it ends.
use mathlib.Core.Path.{◌≡◌, sym, ap, ◌∙◌}
use Prim.Native.Nat.{ℕ, ◌<◌, ◌≤◌}
use mathlib.Core.List.{List}
use borrow.Author.Tests.{lt-ltb, le-ltb, ltb-false}
use lib.Dec.{ltb}
use Rattle.refusal.specs.declared.Refusal.{Refusal}
use Rattle.refusal.specs.declared.Refusal.TheVariants.{OutputShort}
use Rattle.refusal.specs.Answer.{refused, answered}
use Rattle.frame_message.specs.Message.{Message}
use Rattle.frame_message.specs.Reading.{reading_of}
use Rattle.frame_layout.specs.declared.Layout.{Layout}
use Rattle.std.specs.Prelude.{Result, Ok, Err}
use Rattle.frame_layout.specs.Layout.{layout_of}
use Rattle.frame_layout.specs.WorkingPlacing.{read_as}
use Rattle.frame_body.proofs.Readings.{refused_read, accepted_read}
use Rattle.call_read_record.specs.Rows.{read_row}
use Rattle.refusal.proofs.Answers.{passed, both}
use Rattle.call_specs.specs.Calls.{returned, read_call}
use Rattle.call_specs.proofs.Telling.{done}

-- a read that returns 0 has room for its record, and a message
pub record ReadDone (b : List ℕ) (room : ℕ) : Type 0 where
  pub message : Message
  pub enough : 52 ≤ room
  pub read : reading_of b ≡ answered message
  pub lists : read_call b room ≡ answered (read_row (layout_of message))

pub read_done : (b : List ℕ) (room : ℕ) → 0 ≡ returned (read_call b room) → ReadDone b room
unfolding read_call
read_done b room e =
    let d = done (read_call b room) e in
    let p = passed (ltb room 52) OutputShort _ d.value d.is in
    let two = both (reading_of b) _ d.value p.rest in
    record {
      message = two.value;
      enough = ltb-false room 52 p.test;
      read = two.first;
      lists = d.is ∙ sym two.second;
    }

module _ (b : List ℕ) (room : ℕ) where
  -- with room for its record, a read answers where the message lies
  pub read_on : (m : Message) → 52 ≤ room → reading_of b ≡ answered m → read_call b room ≡ answered (read_row (layout_of m))
  unfolding read_call
  read_on m h e = rw (le-ltb room 52 h, e)

  pub read_short : room < 52 → read_call b room ≡ refused OutputShort
  unfolding read_call
  read_short h = rw (lt-ltb room 52 h)

  module _ (h : 52 ≤ room) where
    pub read_refused : (r : Refusal) → Err r ≡ read_as (reading_of b) → read_call b room ≡ refused r
    unfolding read_call
    read_refused r e = rw (le-ltb room 52 h, refused_read (reading_of b) e)

    pub read_accepted : (f : Layout) → Ok f ≡ read_as (reading_of b) → read_call b room ≡ answered (read_row f)
    read_accepted f e = let r = accepted_read (reading_of b) e in
        read_on r.message h r.is ∙ ap (λ (g : Layout). answered (read_row g)) (sym r.places)
