-- What the private functions of this crate promise. No public promise cites these, so nobody has to believe them.
use Rattle.std.specs.Prelude.{ℕ, ◌+◌, Bool, cond, List, Result, length}
use Rattle.refusal.specs.declared.Refusal.{Refusal}
use Rattle.refusal.specs.Answer.{Answer, result_of}
use Rattle.frame_message.specs.Frame.{size_bytes}

-- into how many parts a body is cut
abbrev pub cut_as : Answer (List (List ℕ)) → Result ℕ Refusal
cut_as = result_of length

-- how many bytes stand in front of the body: the first two parts, with a name of n bytes or with an address and the separator
abbrev pub front_length : Bool → Bool → ℕ → ℕ
front_length name address n = cond name (9 + length (size_bytes n) + n) (cond address 48 9)
