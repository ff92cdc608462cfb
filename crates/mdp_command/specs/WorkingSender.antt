-- A sender by its name, as the code has it.
use Rattle.std.specs.Prelude.{◌≡◌, ◌≢◌, ℕ, Result, MatchResult}
use Rattle.refusal.specs.declared.Refusal.{Refusal}
use Rattle.refusal.specs.declared.Refusal.TheVariants.{CommandWrong}
use Rattle.mdp_command.specs.declared.Sender.{Sender}
use Rattle.mdp_command.specs.declared.Sender.TheVariants.{Client, Worker}
use Rattle.mdp_command.specs.Command.{client, worker}

abbrev pub sender_number : Sender → ℕ
sender_number Client = client
sender_number Worker = worker

-- the result is the sender with this number, or 33 where nobody has it
abbrev pub Sends : ℕ → Result Sender Refusal → Type 0
Sends n r = MatchResult r (λ sender. sender_number sender ≡ n) (λ why. (why ≡ CommandWrong) × (n ≢ client) × (n ≢ worker))
