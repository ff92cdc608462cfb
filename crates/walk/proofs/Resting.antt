-- What comes of a step, and a turn of the passes.
use Rattle.std.specs.Prelude.{Result, Ok, Err}
use mathlib.Core.Path.{◌≡◌, refl, sym, ap, ◌∙◌, subst, subst⁻¹}
use Prim.Native.Nat.{ℕ, zero, suc, ◌+◌, ◌-◌, ◌<◌}
use mathlib.Core.List.{List, [], ◌∷◌}
use native.Mathlib.Omega.{arith}
use types.Run.{OneOf, miss}
use denote.Enum.Declared.{tag_of}
use Rattle.refusal.specs.declared.Refusal.{Refusal}
use Rattle.refusal.specs.declared.Refusal.TheVariants.{ForwardLong}
use Rattle.refusal.specs.Answer.{Answer, refused, answered}
use Rattle.frame_message.specs.Message.{Message}
use Rattle.step_routing.specs.declared.Broker.{Broker}
use Rattle.step_routing.specs.Routed.{Tables, Outcome, delivered, forwarded, replied, silenced, home}
use Rattle.step_routing.specs.declared.Stepped.{Stepped}
use Rattle.step_routing.specs.contracts.Stepped.{the_type}
use Rattle.step_routing.specs.declared.Stepped.TheVariants.{Forwarded}
use Rattle.step_pass.specs.Step.{pass_of, left_by, told_as}
use Rattle.walk.specs.declared.Walked.{Walked}
use Rattle.walk.specs.Onward.{Walk, onward, rests_at, after_step}
use Rattle.walk.specs.WorkingPasses.{Walks, passes_from}

-- the numbers of the answers at which a walk rests, as the code tells them apart: all but the second, Forwarded
abbrev pub resting_tags : List ℕ
resting_tags = 0 ∷ 2 ∷ 3 ∷ 4 ∷ []

-- ---- what comes of a step

-- a step that rests is none that forwards
module _ {s : Stepped} (rests : OneOf resting_tags (tag_of the_type s)) where
  pub never_on : {next : ℕ} → s ≡ Forwarded next → ⊥
  never_on e = miss resting_tags 1 tt (subst (λ (x : Stepped). OneOf resting_tags (tag_of the_type x)) e rests)

-- it forwards
pub record On (answer : Answer Outcome) (next : ℕ) : Type 0 where
  pub message : Message
  pub is : answer ≡ answered (forwarded next message)

pub told_on : (answer : Answer Outcome) {s : Result Stepped Refusal} {next : ℕ} → s ≡ told_as answer → s ≡ Ok (Forwarded next) → On answer next
told_on (refused r) says is = absurd (let z : ◌≡◌ {A = ℕ} 0 1 = cc in omega arith)
told_on (answered (delivered number)) says is = absurd (let z : ◌≡◌ {A = ℕ} 0 1 = cc in omega arith)
told_on (answered (forwarded last m)) says is = record { message = m; is = cc }
told_on (answered (replied errnum m)) says is = absurd (let z : ◌≡◌ {A = ℕ} 0 1 = cc in omega arith)
told_on (answered (silenced errnum)) says is = absurd (let z : ◌≡◌ {A = ℕ} 0 1 = cc in omega arith)
told_on (answered home) says is = absurd (let z : ◌≡◌ {A = ℕ} 0 1 = cc in omega arith)

-- a step that is refused does not forward, and neither does one that says something else
pub refused_rests : {s : Result Stepped Refusal} {q : Refusal} → s ≡ Err q → (next : ℕ) → s ≡ Ok (Forwarded next) → ⊥
refused_rests e next on = let z : ◌≡◌ {A = ℕ} 0 1 = cc in omega arith

pub other_rests : {s : Result Stepped Refusal} {stepped : Stepped} → s ≡ Ok stepped → ((next : ℕ) → stepped ≡ Forwarded next → ⊥) → (next : ℕ) → s ≡ Ok (Forwarded next) → ⊥
other_rests e not next on = not next cc

-- so the next broker goes on with what it left
pub goes_on : (go_on : Broker → ℕ → List ℕ → Walk) (who : Broker) (links : ℕ) (buffer : List ℕ) (answer : Answer Outcome) {s : Result Stepped Refusal} {next : ℕ} {left : List ℕ} →
    s ≡ told_as answer → s ≡ Ok (Forwarded next) → left ≡ left_by answer buffer → after_step go_on who links buffer answer ≡ go_on (onward next who) (links + 1) left
goes_on go_on who links buffer answer {next = next} says is leaves =
    let on = told_on answer says is in
    let left = leaves ∙ ap (λ (a : Answer Outcome). left_by a buffer) on.is in
    ap (after_step go_on who links buffer) on.is ∙ ap (go_on (onward next who) (links + 1)) (sym left)

-- it does not: the walk rests there
pub rests_here : (go_on : Broker → ℕ → List ℕ → Walk) (who : Broker) (links : ℕ) (buffer : List ℕ) (answer : Answer Outcome) {s : Result Stepped Refusal} {left : List ℕ} →
    s ≡ told_as answer → ((next : ℕ) → s ≡ Ok (Forwarded next) → ⊥) → left ≡ left_by answer buffer →
    Walks (after_step go_on who links buffer answer) (record { step = s; rank = who.rank; links = links }) left
rests_here go_on who links buffer (refused r) says rests leaves = record { told = λ i. record { step = says i; rank = who.rank; links = links }; leaves = leaves }
rests_here go_on who links buffer (answered (delivered number)) says rests leaves = record { told = λ i. record { step = says i; rank = who.rank; links = links }; leaves = leaves }
rests_here go_on who links buffer (answered (forwarded next m)) says rests leaves = absurd (rests next says)
rests_here go_on who links buffer (answered (replied errnum m)) says rests leaves = record { told = λ i. record { step = says i; rank = who.rank; links = links }; leaves = leaves }
rests_here go_on who links buffer (answered (silenced errnum)) says rests leaves = record { told = λ i. record { step = says i; rank = who.rank; links = links }; leaves = leaves }
rests_here go_on who links buffer (answered home) says rests leaves = record { told = λ i. record { step = says i; rank = who.rank; links = links }; leaves = leaves }

-- ---- a turn of the passes

module _ (t : Tables) (who : Broker) (links : ℕ) (buffer : List ℕ) where
  pub pass_turn : (n : ℕ) → 0 < n → passes_from n t who links buffer ≡ after_step (passes_from (n - 1) t) who links buffer (pass_of t who buffer)
  unfolding passes_from
  pass_turn zero h = absurd (omega arith)
  pass_turn (suc n) h = ap (λ (k : ℕ). after_step (passes_from k t) who links buffer (pass_of t who buffer)) (less n)
    where
      less : (n : ℕ) → n ≡ suc n - 1
      less n = omega arith

  pub pass_out : (n : ℕ) → n ≡ 0 → passes_from n t who links buffer ≡ rests_at (refused ForwardLong) who links buffer
  unfolding passes_from
  pass_out zero e = refl
  pass_out (suc n) e = absurd (omega arith)

-- a turn of the loop
pub turns : (t : Tables) (who : Broker) (links : ℕ) (buffer : List ℕ) → links < 65 →
    passes_from (65 - links) t who links buffer ≡ after_step (passes_from (65 - (links + 1)) t) who links buffer (pass_of t who buffer)
turns t who links buffer h =
    let fewer : 65 - links - 1 ≡ 65 - (links + 1) = omega arith in
    pass_turn t who links buffer (65 - links) (omega arith) ∙ ap (λ (n : ℕ). after_step (passes_from n t) who links buffer (pass_of t who buffer)) fewer

-- a walk that is equal to another says and leaves the same
pub walks_as : {w v : Walk} {r : Walked} {left : List ℕ} → w ≡ v → Walks v r left → Walks w r left
walks_as {r = r} {left} e x = subst⁻¹ (λ (u : Walk). Walks u r left) e x
