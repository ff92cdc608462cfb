-- What a command is. Quotes are from paper 02, ticket 5, which takes it from MDP 0.2 (source 002).
use Rattle.std.specs.Prelude.{ℕ, Bool, true, ◌&&◌, ◌||◌, List, [], ◌∷◌, eqb, leb, length}

-- the two senders, by the numbers that the calls have for them
abbrev pub client : ℕ
client = 1

abbrev pub worker : ℕ
worker = 2

-- "Client commands begin "MDPC02"", "Worker commands begin "MDPW02""
abbrev pub client_mark : List ℕ
client_mark = 0x4D ∷ 0x44 ∷ 0x50 ∷ 0x43 ∷ 0x30 ∷ 0x32 ∷ []

abbrev pub worker_mark : List ℕ
worker_mark = 0x4D ∷ 0x44 ∷ 0x50 ∷ 0x57 ∷ 0x30 ∷ 0x32 ∷ []

-- "01 REQUEST, 02 PARTIAL or 03 FINAL" of a client; "01 READY", "02 REQUEST, 03 PARTIAL or 04 FINAL", "05 HEARTBEAT; 06 DISCONNECT" of a worker
unfoldable pub is_command : ℕ → ℕ → Bool
is_command sender code = (eqb sender client && (leb 1 code && leb code 3)) || (eqb sender worker && (leb 1 code && leb code 6))

-- a worker's "01 READY", and its "02 REQUEST, 03 PARTIAL or 04 FINAL"
abbrev pub is_ready : ℕ → Bool
is_ready code = eqb code 1

abbrev pub is_work : ℕ → Bool
is_work code = leb 2 code && leb code 4

-- a client's: "a service name, then one or more body parts"; a worker's: "01 READY, service name; 02 REQUEST, 03 PARTIAL or 04 FINAL, client address, an
-- empty part, one or more body parts; 05 HEARTBEAT; 06 DISCONNECT; no other parts"
unfoldable pub has_name : ℕ → ℕ → Bool
has_name sender code = eqb sender client || is_ready code

unfoldable pub has_address : ℕ → ℕ → Bool
has_address sender code = eqb sender worker && is_work code

unfoldable pub has_body : ℕ → ℕ → Bool
has_body sender code = eqb sender client || is_work code

-- a command: who sends it, its number, and what it carries; what it lacks is empty
pub record Command : Type 0 where
  pub sender : ℕ
  pub code : ℕ
  pub name : List ℕ
  pub address : List ℕ
  pub body : List (List ℕ)

-- "bytes from 20 to 7E hex"
abbrev pub is_printable : ℕ → Bool
is_printable x = leb 0x20 x && leb x 0x7E

abbrev pub all_printable : List ℕ → Bool
all_printable [] = true
all_printable (x ∷ xs) = is_printable x && all_printable xs

-- "a name has 1 to 255 bytes from 20 to 7E hex"
unfoldable pub is_command_name : List ℕ → Bool
is_command_name xs = leb 1 (length xs) && leb (length xs) 255 && all_printable xs

-- "at most 16 body parts"
abbrev pub most_body_parts : ℕ
most_body_parts = 16

-- "32,768 bytes in all"
abbrev pub most_bytes : ℕ
most_bytes = 32768
