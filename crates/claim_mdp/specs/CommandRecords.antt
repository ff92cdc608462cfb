-- What a C program reads off the record of lampreycoil_read_command, and hands on to lampreycoil_write_command.
use Rattle.std.specs.Prelude.{ℕ, cond, List, eqb}
use Rattle.bytes_number.specs.Number.{number_in}
use Rattle.frame_forms.specs.Forms.{route_length}
use Rattle.frame_layout.specs.Layout.{stretch}
use Rattle.mdp_command.specs.CommandWriting.{Given, given_of}

-- sender and command: the first two numbers
abbrev pub sender_in : List ℕ → ℕ
sender_in row = number_in row 0

abbrev pub code_in : List ℕ → ℕ
code_in row = number_in row 1

-- the name, the address and the body at the places that the record names: name start, name length, address start, body start, body length. "An address always
-- has 37 bytes", and its start is 0 where there is none.
abbrev pub name_at : List ℕ → List ℕ → List ℕ
name_at bytes row = stretch bytes (number_in row 2) (number_in row 3)

abbrev pub address_at : List ℕ → List ℕ → List ℕ
address_at bytes row = stretch bytes (number_in row 4) (cond (eqb (number_in row 4) 0) 0 route_length)

abbrev pub body_at : List ℕ → List ℕ → List ℕ
body_at bytes row = stretch bytes (number_in row 5) (number_in row 6)

-- "number of body parts"
abbrev pub body_parts_in : List ℕ → ℕ
body_parts_in row = number_in row 7

-- all of it, as lampreycoil_write_command is given it
abbrev pub command_handed_on : List ℕ → List ℕ → Given
command_handed_on bytes row = given_of (sender_in row) (code_in row) (name_at bytes row) (address_at bytes row) (body_at bytes row)
