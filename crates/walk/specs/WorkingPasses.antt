-- What `go_on` does, on any tables: a walk whose steps do not check their tables, since the first step did. On valid tables it is the walk of
-- walk/specs/Walk.antt: the law `passes_walk` (walk/proofs/Walking.antt). No promise of a C call speaks of it.
use Rattle.std.specs.Prelude.{ℕ, zero, suc, List, ◌≡◌}
use Rattle.refusal.specs.declared.Refusal.TheVariants.{ForwardLong}
use Rattle.refusal.specs.Answer.{refused}
use Rattle.step_routing.specs.declared.Broker.{Broker}
use Rattle.step_routing.specs.Routed.{Tables}
use Rattle.step_pass.specs.Step.{pass_of, told_as}
use Rattle.walk.specs.Onward.{Walk, rests_at, after_step}
use Rattle.walk.specs.declared.Walked.{Walked}

-- so many passes at the most, from a broker that has the buffer, with so many links behind it
unfoldable pub passes_from : ℕ → Tables → Broker → ℕ → List ℕ → Walk
passes_from zero t b links buffer = rests_at (refused ForwardLong) b links buffer
passes_from (suc n) t b links buffer = after_step (passes_from n t) b links buffer (pass_of t b buffer)

-- a walk that comes to w says r, and leaves its buffer so
pub record Walks (w : Walk) (r : Walked) (left : List ℕ) : Type 0 where
  pub told : r ≡ record { step = told_as w.answer; rank = w.rank; links = w.links }
  pub leaves : left ≡ w.left
