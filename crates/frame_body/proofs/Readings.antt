-- What the reader says of bytes tells what is read from them.
use mathlib.Core.Path.{◌≡◌, refl, sym}
use Prim.Native.Nat.{ℕ}
use native.Mathlib.Omega.{arith}
use Rattle.refusal.specs.declared.Refusal.{Refusal}
use Rattle.refusal.specs.Answer.{Answer, refused, answered}
use Rattle.frame_message.specs.Message.{Message}
use Rattle.frame_layout.specs.declared.Layout.{Layout}
use Rattle.std.specs.Prelude.{Ok, Err}
use Rattle.frame_layout.specs.Layout.{layout_of}
use Rattle.frame_layout.specs.WorkingPlacing.{read_as}

never : {r : Refusal} {f : Layout} → Err r ≡ Ok f → ⊥
never e = let z : ◌≡◌ {A = ℕ} 0 1 = cc in omega arith

pub refused_read : (a : Answer Message) {r : Refusal} → Err r ≡ read_as a → a ≡ refused r
refused_read (refused q) e = cc
refused_read (answered m) e = absurd (never e)

-- a message was read, and these are its places
pub record Read (a : Answer Message) (f : Layout) : Type 0 where
  pub message : Message
  pub is : a ≡ answered message
  pub places : f ≡ layout_of message

pub accepted_read : (a : Answer Message) {f : Layout} → Ok f ≡ read_as a → Read a f
accepted_read (refused q) e = absurd (never (sym e))
accepted_read (answered m) e = record { message = m; is = refl; places = cc }
