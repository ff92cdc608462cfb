-- A turn of the walk, and that a walk on valid tables is a step and passes behind it.
use Rattle.std.specs.Prelude.{Result, Ok, Err}
use mathlib.Core.Path.{◌≡◌, refl, ap, ◌∙◌}
use Prim.Native.Nat.{ℕ, zero, suc, ◌+◌, ◌-◌, ◌<◌, ◌≤◌}
use mathlib.Core.List.{List}
use native.Mathlib.Omega.{arith}
use borrow.Author.Tests.{lt-ltb, le-ltb}
use lib.ListN.{length}
use Rattle.refusal.specs.declared.Refusal.{Refusal}
use Rattle.refusal.specs.declared.Refusal.TheVariants.{OutputShort}
use Rattle.refusal.specs.Answer.{Answer, refused, answered}
use Rattle.step_routing.specs.declared.Broker.{Broker}
use Rattle.step_routing.specs.Routed.{Tables, Outcome, delivered, forwarded, replied, silenced, home, ValidTables}
use Rattle.step_routing.specs.declared.Stepped.{Stepped}
use Rattle.step_routing.specs.declared.Stepped.TheVariants.{Forwarded}
use Rattle.step_pass.specs.Step.{pass_of, step_of, left_after, told_as}
use Rattle.step_pass.proofs.Passing.{step_pass, step_took}
use Rattle.walk.specs.Onward.{Walk, onward, rests_at, after_step}
use Rattle.walk.specs.WorkingPasses.{passes_from}
use Rattle.walk.proofs.Resting.{told_on}
use Rattle.walk.specs.Walk.{walk_from, walk_of}

-- ---- a turn of the walk

module _ (t : Tables) (who : Broker) (links : ℕ) (buffer : List ℕ) where
  pub walk_turn : (n : ℕ) → 0 < n → walk_from n t who links buffer ≡ after_step (walk_from (n - 1) t) who links buffer (step_of t who buffer)
  unfolding walk_from
  walk_turn zero h = absurd (omega arith)
  walk_turn (suc n) h = ap (λ (k : ℕ). after_step (walk_from k t) who links buffer (step_of t who buffer)) (less n)
    where
      less : (n : ℕ) → n ≡ suc n - 1
      less n = omega arith

module _ (t : Tables) (who : Broker) (buffer : List ℕ) where
  pub walk_short : length buffer < 32776 → walk_of t who buffer ≡ rests_at (refused OutputShort) who 0 buffer
  unfolding walk_of
  walk_short h = rw (lt-ltb (length buffer) 32776 h)

  pub walk_whole : 32776 ≤ length buffer → walk_of t who buffer ≡ walk_from 65 t who 0 buffer
  unfolding walk_of
  walk_whole h = rw (le-ltb (length buffer) 32776 h)

  pub walk_begins : 32776 ≤ length buffer → walk_of t who buffer ≡ after_step (walk_from 64 t) who 0 buffer (step_of t who buffer)
  walk_begins h = walk_whole h ∙ walk_turn t who 0 buffer 65 (omega arith)

-- ---- a step that forwards has found the tables right

pub forwards_right : (t : Tables) (who : Broker) (buffer : List ℕ) {s : Result Stepped Refusal} {next : ℕ} → s ≡ told_as (step_of t who buffer) → s ≡ Ok (Forwarded next) → ValidTables t
forwards_right t who buffer {next = next} says is =
    let on = told_on (step_of t who buffer) says is in
    let took = step_took t who buffer (forwarded next on.message) on.is in
    record { tree = took.tree; services = took.services; identities = took.identities }

-- ---- on valid tables the passes are the walk

-- what comes of an answer is the same where the rest of the walk is
same_rest : (f g : Broker → ℕ → List ℕ → Walk) → ((b : Broker) (links : ℕ) (buffer : List ℕ) → f b links buffer ≡ g b links buffer) →
    (b : Broker) (links : ℕ) (buffer : List ℕ) (answer : Answer Outcome) → after_step f b links buffer answer ≡ after_step g b links buffer answer
same_rest f g e b links buffer (refused r) = refl
same_rest f g e b links buffer (answered (delivered number)) = refl
same_rest f g e b links buffer (answered (forwarded next m)) = e (onward next b) (links + 1) (left_after (forwarded next m) buffer)
same_rest f g e b links buffer (answered (replied errnum m)) = refl
same_rest f g e b links buffer (answered (silenced errnum)) = refl
same_rest f g e b links buffer (answered home) = refl

pub passes_walk : (t : Tables) → ValidTables t → (n : ℕ) (b : Broker) (links : ℕ) (buffer : List ℕ) → walk_from n t b links buffer ≡ passes_from n t b links buffer
unfolding walk_from passes_from
passes_walk t right zero b links buffer = refl
passes_walk t right (suc n) b links buffer =
    ap (after_step (walk_from n t) b links buffer) (step_pass t b buffer right.tree right.services right.identities)
    ∙ same_rest (walk_from n t) (passes_from n t) (passes_walk t right n) b links buffer (pass_of t b buffer)
