-- A command's parts and its bytes, and bytes cut into parts.
use Rattle.std.specs.Prelude.{ℕ, Bool, cond, List, [], ◌∷◌, ◌++◌, eqb, length}
use Rattle.refusal.specs.declared.Refusal.TheVariants.{CommandPartWrong}
use Rattle.refusal.specs.Answer.{Answer, refused, answered}
use Rattle.frame_message.specs.Frame.{joined, part_if}
use Rattle.frame_message.specs.Reading.{parts_in}
use Rattle.mdp_command.specs.Command.{Command, client, client_mark, worker_mark, has_name, has_address}

abbrev pub mark_of : ℕ → List ℕ
mark_of sender = cond (eqb sender client) client_mark worker_mark

-- "client address, an empty part", where there is one
abbrev pub address_parts : Bool → List ℕ → List (List ℕ)
address_parts given address = cond given (address ∷ [] ∷ []) []

-- the parts in front of the body: the sender's mark, the command's number, and what follows of name or address
unfoldable pub front_parts : Command → List (List ℕ)
front_parts c =
    mark_of c.sender ∷ (c.code ∷ [])
    ∷ (part_if (has_name c.sender c.code) c.name ++ address_parts (has_address c.sender c.code) c.address)

-- "then one or more body parts"
unfoldable pub command_parts : Command → List (List ℕ)
command_parts c = front_parts c ++ c.body

-- "parts are written as in document 01 without the eight bytes in front"
unfoldable pub command_bytes : Command → List ℕ
command_bytes c = joined (command_parts c)

-- "30 a part's size as in 4": bytes cut into parts as a frame's body is, of which as many may come as there are bytes. Each part has a byte for its size, so
-- that there is no 5 (claim_mdp/specs/Commands.antt, `AnyNumberOfParts`).
abbrev pub as_thirty : Answer (List (List ℕ)) → Answer (List (List ℕ))
as_thirty (refused r) = refused CommandPartWrong
as_thirty (answered ps) = answered ps

unfoldable pub cut_parts : List ℕ → Answer (List (List ℕ))
cut_parts bytes = as_thirty (parts_in (length bytes) bytes)
