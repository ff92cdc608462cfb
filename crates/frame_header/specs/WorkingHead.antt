-- What is made of a body's last part.
use Rattle.std.specs.Prelude.{Result}
use Rattle.frame_message.specs.declared.Header.{Header}
use Rattle.refusal.specs.declared.Refusal.{Refusal}
use Rattle.refusal.specs.Answer.{Answer, result_of}

-- whether it is a header that is right, or why it is wrong
abbrev pub test_as : Answer Header → Result (Unit {0}) Refusal
test_as = result_of (λ h. tt)

-- the fields of a header that is right, or why it is wrong
abbrev pub head_as : Answer Header → Result Header Refusal
head_as = result_of (λ h. h)
