-- The type of a message that was read.
use mathlib.Core.Path.{◌≡◌, refl, sym, ap, ◌∙◌}
use mathlib.Core.Bool.{true}
use Prim.Native.Nat.{ℕ}
use mathlib.Core.List.{List}
use native.Mathlib.Omega.{arith}
use Rattle.bytes_number.specs.Number.{Bytes}
use Rattle.bytes_number.proofs.Truth.{and_left}
use Rattle.frame_message.specs.declared.Kind.{Kind}
use Rattle.frame_message.specs.declared.Kind.TheVariants.{Request, Response, Event, Control}
use Rattle.frame_message.specs.Header.{is_type, are_flags}
use Rattle.frame_message.specs.Working.{is_known}
use Rattle.frame_message.specs.WorkingKind.{type_number}
use Rattle.frame_layout.specs.declared.Layout.{Layout}
use Rattle.frame_layout.specs.Layout.{layout_of}
use Rattle.step_pass.specs.Working.{held_in, Lies}
use Rattle.step_pass.proofs.Keeping.{passes, sound_read}
use Rattle.step_pass.proofs.Passing.{Held}

-- the type of the message is the header's, as the reader tells it
pub type_read : (b : List ℕ) (f : Layout) (kind : ℕ) → Held b f → f.header.kind ≡ kind → (held_in b).header.kind ≡ kind
unfolding layout_of
type_read b f kind read e = sym (ap (λ (g : Layout). g.header.kind) read.places) ∙ e

-- a message of this type lies where the reader says
pub lies_read : (b : List ℕ) (f : Layout) (kind : ℕ) → Bytes b → Held b f → f.header.kind ≡ kind → Lies b f kind
lies_read b f kind bytes read e = record { bytes = bytes; read = read.read; places = read.places; type = type_read b f kind read e }

pub some_type : (b : List ℕ) (f : Layout) → Bytes b → Held b f → is_type f.header.kind ≡ true
unfolding layout_of is_known
some_type b f bytes read =
    let m = held_in b in
    let known = (passes m (sound_read b m bytes read.read)).known in
    ap (λ (g : Layout). is_type g.header.kind) read.places ∙ and_left (is_type m.header.kind) (are_flags m.header.flags) known

-- the names of the types 1 and 2
pub request_named : (kind : Kind) → type_number kind ≡ 1 → kind ≡ Request
request_named Request e = refl
request_named Response e = absurd (omega arith)
request_named Event e = absurd (omega arith)
request_named Control e = absurd (omega arith)

pub response_named : (kind : Kind) → type_number kind ≡ 2 → kind ≡ Response
response_named Request e = absurd (omega arith)
response_named Response e = refl
response_named Event e = absurd (omega arith)
response_named Control e = absurd (omega arith)
