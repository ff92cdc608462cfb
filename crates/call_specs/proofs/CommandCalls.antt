-- The calls on commands: one law for each way that they end.
use mathlib.Core.Path.{◌≡◌, refl, sym, ap, ◌∙◌}
use Prim.Native.Nat.{ℕ, ◌<◌, ◌≤◌}
use mathlib.Core.List.{List}
use native.Mathlib.Omega.{arith}
use borrow.Author.Tests.{lt-ltb, le-ltb, ltb-false}
use lib.Dec.{ltb}
use Rattle.refusal.specs.declared.Refusal.{Refusal}
use Rattle.refusal.specs.declared.Refusal.TheVariants.{OutputShort}
use Rattle.refusal.specs.Answer.{Answer, refused, answered}
use Rattle.refusal.proofs.Answers.{passed, both}
use Rattle.mdp_command.specs.declared.CommandPlaces.{CommandPlaces}
use Rattle.std.specs.Prelude.{Ok, Err}
use Rattle.mdp_command.specs.Command.{Command}
use Rattle.mdp_command.specs.CommandReading.{command_read}
use Rattle.mdp_command.specs.CommandWriting.{Given, command_into}
use Rattle.mdp_command.specs.Places.{places_of}
use Rattle.mdp_command.specs.Working.{command_read_as}
use Rattle.call_specs.specs.Calls.{returned}
use Rattle.call_specs.specs.CommandCalls.{command_row, read_command_call, write_command_call}
use Rattle.call_specs.proofs.Telling.{done}

-- ---- reading

never : {r : Refusal} {f : CommandPlaces} → Err r ≡ Ok f → ⊥
never e = let z : ◌≡◌ {A = ℕ} 0 1 = cc in omega arith

refused_read : (a : Answer Command) {r : Refusal} → Err r ≡ command_read_as a → a ≡ refused r
refused_read (refused q) e = cc
refused_read (answered c) e = absurd (never e)

-- a command was read, and these are its places
record Read (a : Answer Command) (f : CommandPlaces) : Type 0 where
  command : Command
  is : a ≡ answered command
  places : f ≡ places_of command

accepted_read : (a : Answer Command) {f : CommandPlaces} → Ok f ≡ command_read_as a → Read a f
accepted_read (refused q) e = absurd (never (sym e))
accepted_read (answered c) e = record { command = c; is = refl; places = cc }

module _ (b : List ℕ) (room : ℕ) where
  pub command_short : room < 32 → read_command_call b room ≡ refused OutputShort
  unfolding read_command_call
  command_short h = rw (lt-ltb room 32 h)

  module _ (h : 32 ≤ room) where
    -- with room for its record, a read answers where the command lies
    pub command_on : (c : Command) → command_read b ≡ answered c → read_command_call b room ≡ answered (command_row (places_of c))
    unfolding read_command_call
    command_on c e = rw (le-ltb room 32 h, e)

    pub command_refused : (r : Refusal) → Err r ≡ command_read_as (command_read b) → read_command_call b room ≡ refused r
    unfolding read_command_call
    command_refused r e = rw (le-ltb room 32 h, refused_read (command_read b) e)

    pub command_accepted : (f : CommandPlaces) → Ok f ≡ command_read_as (command_read b) → read_command_call b room ≡ answered (command_row f)
    command_accepted f e = let r = accepted_read (command_read b) e in
        command_on r.command r.is ∙ ap (λ (g : CommandPlaces). answered (command_row g)) (sym r.places)

-- a read that returns 0 has room for its record, and a command
pub record CommandDone (b : List ℕ) (room : ℕ) : Type 0 where
  pub command : Command
  pub enough : 32 ≤ room
  pub read : command_read b ≡ answered command
  pub lists : read_command_call b room ≡ answered (command_row (places_of command))

pub command_done : (b : List ℕ) (room : ℕ) → 0 ≡ returned (read_command_call b room) → CommandDone b room
unfolding read_command_call
command_done b room e =
    let d = done (read_command_call b room) e in
    let p = passed (ltb room 32) OutputShort _ d.value d.is in
    let two = both (command_read b) _ d.value p.rest in
    record {
      command = two.value;
      enough = ltb-false room 32 p.test;
      read = two.first;
      lists = d.is ∙ sym two.second;
    }

-- ---- writing

module _ (g : Given) (room rowRoom : ℕ) where
  pub given_short : rowRoom < 4 → write_command_call g room rowRoom ≡ refused OutputShort
  unfolding write_command_call
  given_short h = rw (lt-ltb rowRoom 4 h)

  pub given_on : 4 ≤ rowRoom → write_command_call g room rowRoom ≡ command_into room g
  unfolding write_command_call
  given_on h = rw (le-ltb rowRoom 4 h)

  -- a write that returns 0 has room for its record, and bytes
  pub record GivenDone : Type 0 where
    pub bytes : List ℕ
    pub writes : command_into room g ≡ answered bytes
    pub lists : write_command_call g room rowRoom ≡ answered bytes

  pub given_done : 0 ≡ returned (write_command_call g room rowRoom) → GivenDone
  unfolding write_command_call
  given_done e =
      let d = done (write_command_call g room rowRoom) e in
      let p = passed (ltb rowRoom 4) OutputShort (command_into room g) d.value d.is in
      record { bytes = d.value; writes = p.rest; lists = d.is }
