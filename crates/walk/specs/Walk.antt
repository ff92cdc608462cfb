-- "A walk repeats steps .. until an answer other than 2 or a refusal. It reports that answer, the rank and the links crossed; its buffer is what the
-- steps in turn leave." What comes of one step (`Walk`, `onward`, `rests_at`, `after_step`) is said in walk/specs/Onward.antt, and passed on here.
use Rattle.std.specs.Prelude.{ℕ, zero, suc, cond, List, ltb, length}
use Rattle.refusal.specs.declared.Refusal.TheVariants.{OutputShort, ForwardLong}
use Rattle.refusal.specs.Answer.{refused}
use Rattle.step_routing.specs.declared.Broker.{Broker}
use Rattle.step_routing.specs.Routed.{Tables}
use Rattle.step_pass.specs.Step.{step_of}
pub use Rattle.walk.specs.Onward.{Walk, onward, rests_at, after_step}

-- so many steps at the most, from a broker that has the buffer, with so many links behind it. A walk never comes to the end of its steps: the law
-- `walk_settles` (proofs/Running.antt) says that 65 are enough for whatever the buffer holds.
unfoldable pub walk_from : ℕ → Tables → Broker → ℕ → List ℕ → Walk
walk_from zero t b links buffer = rests_at (refused ForwardLong) b links buffer
walk_from (suc n) t b links buffer = after_step (walk_from n t) b links buffer (step_of t b buffer)

-- "A walk is refused first with 11 if its buffer is below 32,776 bytes."
abbrev pub least_buffer : ℕ
least_buffer = 32776

-- how many steps are enough: a request gains a route at each link and has at most 64, a response loses one
abbrev pub most_steps : ℕ
most_steps = 65

-- the whole walk, begun by the broker that has the message
unfoldable pub walk_of : Tables → Broker → List ℕ → Walk
walk_of t b buffer = cond (ltb (length buffer) least_buffer) (rests_at (refused OutputShort) b 0 buffer) (walk_from most_steps t b 0 buffer)
