-- A run of steps, as the C calls make it: one step call after another, and the walk call.
use mathlib.Core.Path.{◌≡◌, refl, sym, ap, ◌∙◌, subst, subst⁻¹}
use Prim.Native.Nat.{ℕ, ◌+◌, ◌-◌, ◌≤◌}
use mathlib.Core.List.{List, [], ◌∷◌, ◌++◌}
use native.Mathlib.Omega.{arith}
use lib.ListN.{length, drop, length-append}
use Rattle.bytes_number.specs.Number.{row_bytes}
use Rattle.bytes_number.specs.Laid.{laid}
use Rattle.bytes_number.proofs.Rows.{row_length}
use Rattle.refusal.specs.Answer.{Answer, answered}
use Rattle.frame_message.specs.Reading.{final}
use Rattle.step_routing.specs.declared.Broker.{Broker}
use Rattle.step_routing.specs.Messages.{Owner}
use Rattle.step_routing.specs.Routed.{Tables, Outcome, forwarded}
use Rattle.step_routing.specs.declared.Stepped.{Stepped}
use Rattle.step_routing.specs.declared.Stepped.TheVariants.{Forwarded}
use Rattle.step_pass.specs.Step.{step_of, left_after, left_by, stepped_of}
use Rattle.walk.specs.Walk.{Walk, onward}
use Rattle.walk.specs.Runs.{Run, rests, goes}
use Rattle.walk.proofs.Walking.{walk_whole}
use Rattle.walk.proofs.Running.{run_walk}
use Rattle.call_step_record.specs.Steps.{step_row, frame_length}
use Rattle.call_specs.specs.Calls.{broker_as, Tells, Steps, Reports, Plays}
use Rattle.call_specs.proofs.StepCalls.{step_on, four_numbers}
use Rattle.claim_walks.specs.Demand3.{Says, StepsOver, WalksOver, Goes}

-- ---- one step call

-- a step with this answer says it, and leaves what the answer leaves
tells_says : {o : Outcome} {buffer row : List ℕ} {r : ℕ} {after listed : List ℕ} → Tells (answered o) buffer row r after listed →
    Says (stepped_of o) row r after listed × (after ≡ left_after o buffer)
tells_says {o} {row = row} {after = after} w =
    let numbers = step_row (stepped_of o) (frame_length after) in
    let sixteen : length (row_bytes numbers) ≡ 16 = omega (arith, row_length numbers, four_numbers (stepped_of o) (frame_length after)) in
    (record { returns = w.returns; lists = w.lists ∙ ap (λ (n : ℕ). row_bytes numbers ++ drop n row) sixteen }, w.leaves)

-- what the definition of the step answers, the host's call says
steps_says : (t : Tables) (owner : Owner) (b : Broker) (buffer : List ℕ) {o : Outcome} (rank : ℕ) → b ≡ broker_as owner rank → step_of t b buffer ≡ answered o →
    (row : List ℕ) (r : ℕ) (after listed : List ℕ) → 16 ≤ length row → Steps t (broker_as owner rank) buffer row r after listed →
    Says (stepped_of o) row r after listed × (after ≡ left_after o buffer)
steps_says t owner b buffer rank who e row r after listed room s =
    let answer = step_on t (broker_as owner rank) buffer (length row) room ∙ ap (λ (x : Broker). step_of t x buffer) (sym who) ∙ e in
    tells_says (subst (λ (a : Answer Outcome). Tells a buffer row r after listed) answer s)

-- ---- one after another

run_first : {t : Tables} {b : Broker} {buffer ranks left : List ℕ} {answer : Answer Outcome} → Run t b buffer ranks answer left → (rest : List ℕ) × (ranks ≡ b.rank ∷ rest)
run_first (rests b buffer answer e n) = ([], refl)
run_first (goes b buffer next m ranks answer left e r) = (ranks, refl)

-- one more in front
steps_next : (t : Tables) (owner : Owner) (buffer : List ℕ) (rank next : ℕ) (ranks : List ℕ) (answer : Stepped) (left : List ℕ) →
    ((row : List ℕ) (r : ℕ) (after listed : List ℕ) → 16 ≤ length row → Steps t (broker_as owner rank) buffer row r after listed →
    Says (Forwarded next) row r after listed × StepsOver t owner after (next ∷ ranks) answer left) →
    StepsOver t owner buffer (rank ∷ next ∷ ranks) answer left
unfolding StepsOver
steps_next t owner buffer rank next ranks answer left f = f

steps_last : (t : Tables) (owner : Owner) (buffer : List ℕ) (rank : ℕ) (answer : Stepped) (left : List ℕ) →
    ((row : List ℕ) (r : ℕ) (after listed : List ℕ) → 16 ≤ length row → Steps t (broker_as owner rank) buffer row r after listed →
    Says answer row r after listed × (after ≡ left)) →
    StepsOver t owner buffer (rank ∷ []) answer left
unfolding StepsOver
steps_last t owner buffer rank answer left f = f

pub run_steps : {t : Tables} {b : Broker} {buffer ranks left : List ℕ} {answer : Answer Outcome} → Run t b buffer ranks answer left →
    (o : Outcome) → answer ≡ answered o → (owner : Owner) → b ≡ broker_as owner b.rank → StepsOver t owner buffer ranks (stepped_of o) left
run_steps {t} (rests b buffer answer e n) o is owner who =
    steps_last t owner buffer b.rank (stepped_of o) (left_by answer buffer)
    (λ row r after listed room s.
    let w = steps_says t owner b buffer b.rank who (e ∙ is) row r after listed room s in
    (w.0, w.1 ∙ sym (ap (λ (a : Answer Outcome). left_by a buffer) is)))
run_steps {t} (goes b buffer next m ranks answer left e run) o is owner who =
    let first = run_first run in
    let told = stepped_of o in
    let rest = subst (λ (l : List ℕ). StepsOver t owner (left_after (forwarded next m) buffer) l told left) first.1 (run_steps run o is owner (ap (onward next) who)) in
    subst⁻¹ (λ (l : List ℕ). StepsOver t owner buffer (b.rank ∷ l) told left) first.1
    (steps_next t owner buffer b.rank next first.0 told left
    (λ row r after listed room s.
    let w = steps_says t owner b buffer b.rank who e row r after listed room s in
    (w.0, subst⁻¹ (λ (x : List ℕ). StepsOver t owner x (next ∷ first.0) told left) w.1 rest)))

-- ---- the walk call

pub run_plays : (t : Tables) (owner : Owner) (first : ℕ) (buffer ranks left : List ℕ) (o : Outcome) → Run t (broker_as owner first) buffer ranks (answered o) left →
    32776 ≤ length buffer → length ranks ≤ 65 →
    (row : List ℕ) (r : ℕ) (after listed : List ℕ) → 24 ≤ length row → Plays t (broker_as owner first) buffer row r after listed →
    WalksOver ranks (stepped_of o) left row r after listed
run_plays t owner first buffer ranks left o run long few row r after listed room played =
    let came = walk_whole t (broker_as owner first) buffer long ∙ run_walk run 65 0 few in
    let reports = subst (λ (w : Walk). Reports w row r after listed) came (played.walks room) in
    let numbers = step_row (stepped_of o) (frame_length left) in
    let links : 0 + (length ranks - 1) ≡ length ranks - 1 = omega arith in
    let six = numbers ++ (final 0 ranks ∷ (length ranks - 1) ∷ []) in
    let same : numbers ++ (final 0 ranks ∷ (0 + (length ranks - 1)) ∷ []) ≡ six = ap (λ (n : ℕ). numbers ++ (final 0 ranks ∷ n ∷ [])) links in
    let long-row : length (row_bytes six) ≡ 24 = omega (arith, row_length six, length-append numbers (final 0 ranks ∷ (length ranks - 1) ∷ []), four_numbers (stepped_of o) (frame_length left)) in
    record {
      returns = reports.returns;
      lists = reports.lists ∙ ap (λ (ns : List ℕ). laid (row_bytes ns) row) same ∙ ap (λ (n : ℕ). row_bytes six ++ drop n row) long-row;
      leaves = reports.leaves;
    }

-- both
pub run_goes : (t : Tables) (owner : Owner) (first : ℕ) (buffer ranks left : List ℕ) (o : Outcome) → Run t (broker_as owner first) buffer ranks (answered o) left →
    32776 ≤ length buffer → length ranks ≤ 65 → Goes t owner first buffer ranks (stepped_of o) left
run_goes t owner first buffer ranks left o run long few =
    record {
      steps = run_steps run o refl owner refl;
      walk = run_plays t owner first buffer ranks left o run long few;
    }
