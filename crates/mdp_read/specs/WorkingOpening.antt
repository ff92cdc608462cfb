-- What is known of a command's bytes while its parts are judged: the clauses of the functions inside the reader.
use Rattle.std.specs.Prelude.{◌≡◌, ℕ, ◌-◌, ◌≤◌, Option, Some, None, Result, MatchResult, true, false, cond, List, [], eqb, ltb, length, get_or, take, drop}
use Rattle.bytes_number.specs.Number.{Bytes}
use Rattle.refusal.specs.Answer.{answered}
use Rattle.frame_message.specs.Reading.{parts_in}
use Rattle.mdp_command.specs.Command.{is_command}
use Rattle.mdp_command.specs.Working.{command_read_as, parts_there}
use Rattle.refusal.specs.declared.Refusal.{Refusal}
use Rattle.refusal.specs.declared.Refusal.TheVariants.{PartCountWrong}
use Rattle.mdp_command.specs.CommandWriting.{body_fits}
use Rattle.mdp_command.specs.CommandReading.{sender_of, code_of, command_as}
use Rattle.mdp_command.specs.declared.CommandPlaces.{CommandPlaces}
use Rattle.mdp_command.specs.declared.Sender.{Sender}
use Rattle.mdp_command.specs.WorkingSender.{sender_number}
use Rattle.mdp_rules.specs.WorkingCarried.{CarriedBy}
use Rattle.mdp_read.specs.declared.judge.Opened.{Opened}

-- ---- the first two parts, by the bytes at their places

unfoldable pub sender_at : List ℕ → ℕ
sender_at b = cond (ltb (length b) 7) 0 (cond (eqb (get_or b 0 0) 6) (sender_of (take 6 (drop 1 b))) 0)

unfoldable pub code_at : List ℕ → ℕ
code_at b = cond (ltb (length b) 9) 0 (cond (eqb (get_or b 7 0) 1) (get_or b 8 0) 0)

-- as numbers: 0 is nobody's, and no command's
abbrev pub sender_or_0 : Option Sender → ℕ
sender_or_0 None = 0
sender_or_0 (Some sender) = sender_number sender

abbrev pub code_or_0 : Option ℕ → ℕ
code_or_0 None = 0
code_or_0 (Some code) = code

-- ---- the state of the judging

-- the bytes are so many parts
pub record CountOf (b : List ℕ) (count : ℕ) : Type 0 where
  pub found : parts_in (length b) b ≡ answered (parts_there b)
  pub bytes : Bytes b
  pub short : length b ≤ 32768
  pub counted : count ≡ length (parts_there b)

-- the same, and the first two tell the sender and the number of a command
pub record OpenedAs (b : List ℕ) (count sender code : ℕ) : Type 0 where
  pub over : CountOf b count
  pub sends : sender_of (get_or (parts_there b) 0 []) ≡ sender
  pub codes : code_of (get_or (parts_there b) 1 []) ≡ code
  pub known : is_command sender code ≡ true
  pub some : sender ≡ 0 → ⊥

-- a command that was opened, and what it carries
pub record IsOpened (o : Opened) : Type 0 where
  pub over : OpenedAs o.bytes.now o.count (sender_number o.sender) o.code
  pub carried : CarriedBy (sender_number o.sender) o.code o.carried

-- how many parts its body has behind so many in front of it, or 34
abbrev pub BodyParts : Opened → ℕ → Result ℕ Refusal → Type 0
BodyParts o front r =
    MatchResult r (λ parts. (front ≤ o.count) × (parts ≡ o.count - front) × (body_fits (sender_number o.sender) o.code (o.count - front) ≡ true))
    (λ why. (why ≡ PartCountWrong) × (front ≤ o.count → body_fits (sender_number o.sender) o.code (o.count - front) ≡ false))

-- what is judged of its parts behind the first two
abbrev pub judged_as : Opened → Result CommandPlaces Refusal
judged_as o = command_read_as (command_as (sender_number o.sender) o.code (parts_there o.bytes.now))
