-- The rules on delivery and on the errors 38 and 113.
use mathlib.Core.Path.{◌≡◌, ap, ◌∙◌}
use mathlib.Core.Logic.{◌⊎◌, inl, inr, ⊎_elim}
use Prim.Native.Nat.{ℕ}
use native.Mathlib.Omega.{arith}
use Rattle.bytes_number.proofs.Truth.{outcome}
use Rattle.refusal.specs.Answer.{answered}
use Rattle.frame_message.specs.Header.{no_response}
use Rattle.frame_message.specs.Message.{Message}
use Rattle.step_routing.specs.declared.Broker.{Broker}
use Rattle.step_routing.specs.declared.Way.TheVariants.{Fail}
use Rattle.step_routing.specs.Messages.{error_reply}
use Rattle.step_routing.specs.Routed.{Tables, failed, requested, routed}
use Rattle.step_routing.proofs.Outcomes.{way_of, routed_request, failed_loud, failed_quiet, delivered_is, replied_is, silenced_is, not_home}
use Rattle.claim_steps.specs.Rules.{Right, Valid, NoService, Unreachable, ErrorDue, Served}
use Rattle.claim_steps.proofs.ErrorReplies.{request_came}
use Rattle.claim_steps.proofs.Cases.{Fails, by_service, by_rank, way_served, way_no_service, way_no_rank, served_only, fails_only}

module _ (t : Tables) (b : Broker) (right : Right t b) (m : Message) (v : Valid 1 m) where
  due_way : (errnum : ℕ) → ErrorDue (routed t b m) errnum → way_of t b m ≡ Fail errnum
  due_way errnum (ErrorDue.made reply e) = (replied_is (request_came t b m v) errnum reply e).0
  due_way errnum (ErrorDue.silent e) = (silenced_is (request_came t b m v) errnum e).0

  way_due : (errnum : ℕ) → way_of t b m ≡ Fail errnum → ErrorDue (routed t b m) errnum
  way_due errnum w =
      let fails : routed t b m ≡ answered (failed b errnum m) = routed_request t b m v.typed ∙ ap (requested t b m) w in
      ⊎_elim
      (λ set. ErrorDue.silent (fails ∙ ap answered (failed_quiet b errnum m set)))
      (λ clear. ErrorDue.made (error_reply b.userid b.rolemask errnum m) (fails ∙ ap answered (failed_loud b errnum m clear)))
      (outcome (no_response m.header.flags))

  only_service : Fails t b m 38 → NoService t b m
  only_service (by_service e s) = s
  only_service (by_rank e o) = absurd (omega arith)

  only_rank : Fails t b m 113 → Unreachable t m
  only_rank (by_service e s) = absurd (omega arith)
  only_rank (by_rank e o) = o

  one_of_two : (errnum : ℕ) → Fails t b m errnum → (errnum ≡ 38) ⊎ (errnum ≡ 113)
  one_of_two errnum (by_service e s) = inl e
  one_of_two errnum (by_rank e o) = inr e

  pub served : Served t b m (routed t b m)
  served =
      record {
        delivery =
            λ number. (
              λ e. served_only t b m right number (delivered_is (request_came t b m v) number e),
              λ c. routed_request t b m v.typed ∙ ap (requested t b m) (way_served t b m right number c.0 c.1),
            );
        error_38 = (λ e. only_service (fails_only t b m right 38 (due_way 38 e)), λ s. way_due 38 (way_no_service t b m right s));
        error_113 = (λ e. only_rank (fails_only t b m right 113 (due_way 113 e)), λ o. way_due 113 (way_no_rank t b m right o));
        no_other = λ errnum e. one_of_two errnum (fails_only t b m right errnum (due_way errnum e));
        not_home = not_home (request_came t b m v);
      }
