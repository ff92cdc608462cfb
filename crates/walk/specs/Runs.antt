-- Steps called one after another, however many they are: "The brokers that a walk visits are the rank it begins at, then the rank that each answer 2 names,
-- in order. Each step gets its broker's rank and the buffer which the step before left".
use Rattle.std.specs.Prelude.{◌≡◌, Bool, true, false, ℕ, ◌-◌, List, [], ◌∷◌, length}
use Rattle.refusal.specs.Answer.{Answer, refused, answered}
use Rattle.frame_message.specs.Message.{Message}
use Rattle.frame_message.specs.Reading.{final}
use Rattle.step_routing.specs.declared.Broker.{Broker}
use Rattle.step_routing.specs.Routed.{Tables, Outcome, delivered, forwarded, replied, silenced, home}
use Rattle.step_pass.specs.Step.{step_of, left_after, left_by}
use Rattle.walk.specs.Walk.{onward, Walk}

-- answer 2
abbrev pub is_forward : Answer Outcome → Bool
is_forward (refused r) = false
is_forward (answered (delivered number)) = false
is_forward (answered (forwarded next m)) = true
is_forward (answered (replied errnum m)) = false
is_forward (answered (silenced errnum)) = false
is_forward (answered home) = false

-- from a broker that has the buffer, over these brokers, "until an answer other than 2 or a refusal", and what is left in the buffer
pub data Run (t : Tables) : Broker → List ℕ → List ℕ → Answer Outcome → List ℕ → Type 0 where
  rests :
      (b : Broker) (buffer : List ℕ) (answer : Answer Outcome) → step_of t b buffer ≡ answer → is_forward answer ≡ false →
      Run t b buffer (b.rank ∷ []) answer (left_by answer buffer)
  goes :
      (b : Broker) (buffer : List ℕ) (next : ℕ) (m : Message) (ranks : List ℕ) (answer : Answer Outcome) (left : List ℕ) →
      step_of t b buffer ≡ answered (forwarded next m) → Run t (onward next b) (left_after (forwarded next m) buffer) ranks answer left →
      Run t b buffer (b.rank ∷ ranks) answer left

-- what a walk comes to is what a run of steps comes to: it ends with an answer other than 2 or a refusal, at the last broker of the run; "the links
-- crossed are its answers 2, counted"
pub record IsRun (t : Tables) (b : Broker) (buffer : List ℕ) (w : Walk) : Type 0 where
  pub ranks : List ℕ
  pub run : Run t b buffer ranks w.answer w.left
  pub ended : is_forward w.answer ≡ false
  pub last : w.rank ≡ final 0 ranks
  pub links : w.links ≡ length ranks - 1
