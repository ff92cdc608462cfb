-- What a command carries, in one.
use Rattle.std.specs.Prelude.{◌≡◌, ℕ, Bool, true, false, Result, MatchResult}
use Rattle.refusal.specs.declared.Refusal.{Refusal}
use Rattle.refusal.specs.declared.Refusal.TheVariants.{CommandWrong}
use Rattle.mdp_command.specs.Command.{is_command, has_name, has_address, has_body}
use Rattle.mdp_rules.specs.declared.Carried.{Carried}
use Rattle.mdp_rules.specs.declared.Carried.TheVariants.{NameAndBody, Name, AddressAndBody, Nothing}
use Rattle.mdp_rules.specs.declared.Contents.{Contents}

abbrev pub named : Carried → Bool
named NameAndBody = true
named Name = true
named AddressAndBody = false
named Nothing = false

abbrev pub addressed : Carried → Bool
addressed NameAndBody = false
addressed Name = false
addressed AddressAndBody = true
addressed Nothing = false

abbrev pub bodied : Carried → Bool
bodied NameAndBody = true
bodied Name = false
bodied AddressAndBody = true
bodied Nothing = false

-- there is such a command, and this is what it carries
abbrev pub CarriedBy : ℕ → ℕ → Carried → Type 0
CarriedBy sender code carried =
    (is_command sender code ≡ true) × (has_name sender code ≡ named carried) × (has_address sender code ≡ addressed carried) × (has_body sender code ≡ bodied carried)

-- that, or 33 where there is no such command
abbrev pub Carrying : ℕ → ℕ → Result Carried Refusal → Type 0
Carrying sender code r = MatchResult r (CarriedBy sender code) (λ why. (why ≡ CommandWrong) × (is_command sender code ≡ false))

-- the three of any two numbers, also where there is no such command
unfoldable pub carried_by : ℕ → ℕ → Contents
carried_by sender code = record { name = has_name sender code; address = has_address sender code; body = has_body sender code }
