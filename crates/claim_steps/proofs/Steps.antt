-- The step call keeps the rules: on a buffer that holds a message it is the step on the message, and that keeps them.
use mathlib.Core.Path.{◌∙◌, subst}
use Prim.Native.Nat.{ℕ}
use mathlib.Core.List.{List}
use native.Mathlib.Omega.{arith}
use lib.ListN.{length}
use Rattle.bytes_number.specs.Number.{Bytes}
use Rattle.refusal.specs.Answer.{Answer}
use Rattle.frame_message.proofs.RoundTrip.{write_back}
use Rattle.step_routing.specs.Messages.{Owner}
use Rattle.step_routing.specs.Routed.{Tables, Outcome, routed}
use Rattle.claim_steps.proofs.Deciding.{requests_by_the_rules, responses_by_the_rules}
use Rattle.claim_steps.proofs.Neither.{others_by_the_rules}
use Rattle.step_pass.proofs.Passing.{pass_read, step_pass}
use Rattle.call_specs.specs.Calls.{broker_as, Tells}
use Rattle.call_specs.proofs.StepCalls.{step_on}
use Rattle.claim_steps.specs.Steps.{StepsByTheRules}

pub steps_by_the_rules : (t : Tables) (owner : Owner) (rank : ℕ) (buffer : List ℕ) → Bytes buffer → StepsByTheRules t owner rank buffer
steps_by_the_rules t owner rank buffer bytes right m read row r left listed room s =
    let b = broker_as owner rank in
    let written = (write_back buffer m bytes read).writable in
    let is = step_on t b buffer (length row) (omega arith) ∙ step_pass t b buffer right.tables.tree right.tables.services right.tables.identities ∙ pass_read t b buffer right.rank m read in
    record {
      answer = routed t b m;
      request = λ k. requests_by_the_rules t b right m (record { typed = k; writable = written });
      response = λ k. responses_by_the_rules t b right m (record { typed = k; writable = written });
      other = others_by_the_rules t b m written;
      told = subst (λ (a : Answer Outcome). Tells a buffer row r left listed) is s;
    }
