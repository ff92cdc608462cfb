-- What the writer refuses, and in which order: "its refusals are 33, 30, 34, 35, 36, 31, 11".
use Rattle.std.specs.Prelude.{ℕ, Bool, cond, not, ◌&&◌, List, eqb, ltb, leb, length}
use Rattle.refusal.specs.declared.Refusal.TheVariants.{OutputShort, CommandLong, CommandWrong, PartCountWrong, NameWrong, AddressWrong}
use Rattle.refusal.specs.Answer.{Answer, answered, refuse_if, and_then}
use Rattle.frame_forms.specs.Forms.{is_route}
use Rattle.frame_message.specs.Writing.{is_empty}
use Rattle.mdp_command.specs.Command.{Command, is_command, has_name, has_address, has_body, is_command_name, most_body_parts, most_bytes}
use Rattle.mdp_command.specs.CommandBytes.{command_bytes, cut_parts}

-- ---- what a command carries; "a body, name or address that the command lacks is 34, 35 or 36"

-- "one or more body parts", "at most 16"
unfoldable pub body_fits : ℕ → ℕ → ℕ → Bool
body_fits sender code parts = cond (has_body sender code) (leb 1 parts && leb parts most_body_parts) (eqb parts 0)

unfoldable pub name_fits : ℕ → ℕ → List ℕ → Bool
name_fits sender code name = cond (has_name sender code) (is_command_name name) (is_empty name)

-- "an address is one route"
unfoldable pub address_fits : ℕ → ℕ → List ℕ → Bool
address_fits sender code address = cond (has_address sender code) (is_route address) (is_empty address)

-- ---- the writing

-- 34, 35, 36, 31
unfoldable pub command_written : Command → Answer (List ℕ)
command_written c =
    refuse_if (not (body_fits c.sender c.code (length c.body))) PartCountWrong
    (refuse_if (not (name_fits c.sender c.code c.name)) NameWrong
    (refuse_if (not (address_fits c.sender c.code c.address)) AddressWrong
    (refuse_if (ltb most_bytes (length (command_bytes c))) CommandLong
    (answered (command_bytes c)))))

-- what the writer is given: "The writer takes body parts in that form", one after another with their sizes
pub record Given : Type 0 where
  pub sender : ℕ
  pub code : ℕ
  pub name : List ℕ
  pub address : List ℕ
  pub body : List ℕ

abbrev pub given_of : ℕ → ℕ → List ℕ → List ℕ → List ℕ → Given
given_of sender code name address body = record { sender = sender; code = code; name = name; address = address; body = body }

-- the command that it is, with its body cut into these parts
abbrev pub command_of : Given → List (List ℕ) → Command
command_of g parts = record { sender = g.sender; code = g.code; name = g.name; address = g.address; body = parts }

-- the whole order into an output of so many bytes: 33, 30, 34, 35, 36, 31, 11
unfoldable pub command_into : ℕ → Given → Answer (List ℕ)
command_into room g =
    refuse_if (not (is_command g.sender g.code)) CommandWrong
    (and_then (cut_parts g.body) (λ parts.
    and_then (command_written (command_of g parts)) (λ bytes.
    refuse_if (ltb room (length bytes)) OutputShort (answered bytes))))
