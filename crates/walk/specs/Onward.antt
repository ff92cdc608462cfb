-- What comes of a step in a walk, whichever broker makes it: "until an answer other than 2 or a refusal. It reports that answer, the rank and the links
-- crossed; its buffer is what the steps in turn leave." The walk itself is walk/specs/Walk.antt.
use Rattle.std.specs.Prelude.{ℕ, ◌+◌, List}
use Rattle.refusal.specs.Answer.{Answer, refused, answered}
use Rattle.step_routing.specs.declared.Broker.{Broker}
use Rattle.step_routing.specs.Routed.{Outcome, delivered, forwarded, replied, silenced, home}
use Rattle.step_pass.specs.Step.{left_after, left_by}

-- what a walk comes to: the last step's answer or refusal, the rank of the broker that made it, the links crossed, and what is left in the buffer
pub record Walk : Type 0 where
  pub answer : Answer Outcome
  pub rank : ℕ
  pub links : ℕ
  pub left : List ℕ

-- the broker to which a message was forwarded: its error replies are the same owner's
abbrev pub onward : ℕ → Broker → Broker
onward next b = record { rank = next; userid = b.userid; rolemask = b.rolemask }

-- a walk ends with a step's answer other than 2, or a refusal
abbrev pub rests_at : Answer Outcome → Broker → ℕ → List ℕ → Walk
rests_at answer b links buffer = record { answer = answer; rank = b.rank; links = links; left = left_by answer buffer }

-- what comes of a step's answer: after 2 the broker that it names goes on with what was left, and otherwise the walk rests
abbrev pub after_step : (Broker → ℕ → List ℕ → Walk) → Broker → ℕ → List ℕ → Answer Outcome → Walk
after_step go_on b links buffer (refused r) = rests_at (refused r) b links buffer
after_step go_on b links buffer (answered (delivered number)) = rests_at (answered (delivered number)) b links buffer
after_step go_on b links buffer (answered (forwarded next m)) = go_on (onward next b) (links + 1) (left_after (forwarded next m) buffer)
after_step go_on b links buffer (answered (replied errnum m)) = rests_at (answered (replied errnum m)) b links buffer
after_step go_on b links buffer (answered (silenced errnum)) = rests_at (answered (silenced errnum)) b links buffer
after_step go_on b links buffer (answered home) = rests_at (answered home) b links buffer
