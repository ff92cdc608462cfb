-- A message's type by its name, as the code has it.
use Rattle.std.specs.Prelude.{◌≡◌, ℕ, false, Result, MatchResult}
use Rattle.refusal.specs.declared.Refusal.{Refusal}
use Rattle.refusal.specs.declared.Refusal.TheVariants.{TypeWrong}
use Rattle.frame_message.specs.declared.Kind.{Kind}
use Rattle.frame_message.specs.declared.Kind.TheVariants.{Request, Response, Event, Control}
use Rattle.frame_message.specs.Header.{request_type, response_type, event_type, control_type, is_type}

-- "1 request, 2 response, 4 event, 8 control"
abbrev pub type_number : Kind → ℕ
type_number Request = request_type
type_number Response = response_type
type_number Event = event_type
type_number Control = control_type

-- the result is the type with this number, or 22 where no type has it
abbrev pub Decodes : ℕ → Result Kind Refusal → Type 0
Decodes n r = MatchResult r (λ kind. type_number kind ≡ n) (λ why. (why ≡ TypeWrong) × (is_type n ≡ false))
