-- An answer, or the refusal that stands in its place. Demand 1: "every public call ends with an answer or the refusal that the paper's table names"
use Rattle.std.specs.Prelude.{ℕ, Bool, true, false, List, Result, Ok, Err}
use Rattle.bytes_number.specs.Laid.{laid}
use Rattle.refusal.specs.declared.Refusal.{Refusal}

pub data Answer (A : Type 0) : Type 0 where
  refused : Refusal → Answer A
  answered : A → Answer A

-- the refusal where the test holds; else what comes next in the paper's order
abbrev pub refuse_if : {A : Type 0} → Bool → Refusal → Answer A → Answer A
refuse_if true r next = refused r
refuse_if false r next = next

-- what is done with an answer; a refusal stays
abbrev pub and_then : {A B : Type 0} → Answer A → (A → Answer B) → Answer B
and_then (refused r) f = refused r
and_then (answered a) f = f a

-- what is left in a lent output: the bytes of the answer over its front, "and bytes behind them stay"; a refusal "writes nothing"
abbrev pub written_over : Answer (List ℕ) → List ℕ → List ℕ
written_over (refused r) out = out
written_over (answered xs) out = laid xs out

-- an answer as the functions return it: what is made of it, or the refusal in its place
abbrev pub result_of : {A B : Type 0} → (A → B) → Answer A → Result B Refusal
result_of f (refused r) = Err r
result_of f (answered a) = Ok (f a)
