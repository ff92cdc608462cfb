-- What is read from bytes: "Refusals, in this order: 31 too many bytes, 30 a part's size as in 4, 32 first part wrong or missing, 33 command likewise, 34
-- number of parts, 35 name, 36 address, 37 separator not empty". All of the bytes are the command.
use Rattle.std.specs.Prelude.{ℕ, Bool, cond, not, ◌&&◌, List, [], eqb, ltb, leb, length, get_or, drop}
use Rattle.refusal.specs.declared.Refusal.TheVariants.{CommandLong, MarkWrong, CommandWrong, PartCountWrong, NameWrong, AddressWrong, SeparatorWrong}
use Rattle.refusal.specs.Answer.{Answer, answered, refuse_if, and_then}
use Rattle.frame_message.specs.Writing.{is_empty}
use Rattle.table_records.specs.Bytes.{same_bytes}
use Rattle.mdp_command.specs.Command.{Command, client, worker, client_mark, worker_mark, is_command, has_name, has_address, most_bytes}
use Rattle.mdp_command.specs.CommandBytes.{front_parts, cut_parts}
use Rattle.mdp_command.specs.CommandWriting.{body_fits, name_fits, address_fits}

-- who sends a command whose first part is p, and 0 where it is neither's mark: no part at all counts as an empty one
unfoldable pub sender_of : List ℕ → ℕ
sender_of p = cond (same_bytes p client_mark) client (cond (same_bytes p worker_mark) worker 0)

-- the number in a second part p of one byte, and 0, which is no command's, where it has another length
unfoldable pub code_of : List ℕ → ℕ
code_of p = cond (eqb (length p) 1) (get_or p 0 0) 0

-- the parts that stand in front of a body
abbrev pub front_count : ℕ → ℕ → ℕ
front_count sender code = length (front_parts (record { sender = sender; code = code; name = []; address = []; body = [] }))

-- the command that the parts hold: a name or an address is the third, a separator the fourth
unfoldable pub command_in : ℕ → ℕ → List (List ℕ) → Command
command_in sender code ps =
    record {
      sender = sender;
      code = code;
      name = cond (has_name sender code) (get_or ps 2 []) [];
      address = cond (has_address sender code) (get_or ps 2 []) [];
      body = drop (front_count sender code) ps;
    }

-- 34: all that stands in front of the body is there, and as many body parts as there may be
abbrev pub count_fits : ℕ → ℕ → List (List ℕ) → Bool
count_fits sender code ps = leb (front_count sender code) (length ps) && body_fits sender code (length (command_in sender code ps).body)

-- 34 to 37
unfoldable pub command_as : ℕ → ℕ → List (List ℕ) → Answer Command
command_as sender code ps =
    let c = command_in sender code ps in
    refuse_if (not (count_fits sender code ps)) PartCountWrong
    (refuse_if (not (name_fits sender code c.name)) NameWrong
    (refuse_if (not (address_fits sender code c.address)) AddressWrong
    (refuse_if (has_address sender code && not (is_empty (get_or ps 3 []))) SeparatorWrong
    (answered c))))

-- 32 to 37
unfoldable pub command_judged : List (List ℕ) → Answer Command
command_judged ps =
    let sender = sender_of (get_or ps 0 []) in
    let code = code_of (get_or ps 1 []) in
    refuse_if (eqb sender 0) MarkWrong
    (refuse_if (not (is_command sender code)) CommandWrong
    (command_as sender code ps))

-- the whole order
unfoldable pub command_read : List ℕ → Answer Command
command_read bytes = refuse_if (ltb most_bytes (length bytes)) CommandLong (and_then (cut_parts bytes) command_judged)
