-- The rules leave no choice: two answers that meet them are the same.
use mathlib.Core.Path.{◌≡◌, refl, sym, ◌∙◌}
use mathlib.Core.Logic.{⊎_elim}
use Prim.Native.Nat.{ℕ}
use Rattle.bytes_number.proofs.Truth.{outcome, clash}
use Rattle.refusal.specs.Answer.{Answer}
use Rattle.frame_message.specs.Header.{no_response}
use Rattle.frame_message.specs.Message.{Message}
use Rattle.table_identities.specs.Identities.{identity_at}
use Rattle.step_routing.specs.declared.Broker.{Broker}
use Rattle.step_routing.specs.Messages.{pushed, popped, error_reply, too_large}
use Rattle.step_routing.specs.Routed.{Tables, Outcome, routed}
use Rattle.claim_steps.specs.Rules.{Right, Valid, GoesTo, ErrorDue, IsReply, RequestRules, RequestsByTheRules, GoesBack, ResponsesByTheRules, NoOtherAnswer}
use Rattle.claim_steps.proofs.Cases.{Which, served, goes, no_service_lem, no_rank, which}
use Rattle.claim_steps.proofs.ErrorReplies.{replies, heard}
use Rattle.claim_steps.proofs.Serving as Serving
use Rattle.claim_steps.proofs.Forwarding.{forwards, not_fits, test_large, grown_gains}
use Rattle.claim_steps.proofs.Returning.{Whither, ended, near, far, whither, returns, popped_loses}

pub requests_by_the_rules : (t : Tables) (b : Broker) → RequestsByTheRules t b
requests_by_the_rules t b right m v = record { served = Serving.served t b right m v; forwards = forwards t b right m v; replies = replies t b m v; heard = heard t b m v }

pub responses_by_the_rules : (t : Tables) (b : Broker) → ResponsesByTheRules t b
responses_by_the_rules t b right m v = returns t b right m v

-- ---- requests

-- an error reply is all said
reply_is : (b : Broker) (m : Message) (errnum : ℕ) (reply : Message) → IsReply b m errnum reply → reply ≡ error_reply b.userid b.rolemask errnum m
reply_is b m errnum reply r =
    λ i. record {
      header =
          record {
            kind = r.kind i;
            flags = r.flags i;
            userid = r.userid i;
            rolemask = r.rolemask i;
            first = r.error i;
            second = r.matchtag i;
          };
      routes = r.routes i;
      topic = r.topic i;
      payload = r.payload i;
    }

module _ (t : Tables) (b : Broker) (right : Right t b) (m : Message) (v : Valid 1 m) (a c : Answer Outcome) (ra : RequestRules t b m a) (rc : RequestRules t b m c) where
  same_error : (errnum : ℕ) → ErrorDue a errnum → ErrorDue c errnum → a ≡ c
  same_error errnum (ErrorDue.made p e) (ErrorDue.made q f) =
      let same : p ≡ q = reply_is b m errnum p (ra.replies.reply errnum p e) ∙ sym (reply_is b m errnum q (rc.replies.reply errnum q f)) in
      cc
  same_error errnum (ErrorDue.made p e) (ErrorDue.silent f) = clash (no_response m.header.flags) (rc.heard.silence errnum f) (ra.heard.reply errnum p e)
  same_error errnum (ErrorDue.silent e) (ErrorDue.made q f) = clash (no_response m.header.flags) (ra.heard.silence errnum e) (rc.heard.reply errnum q f)
  same_error errnum (ErrorDue.silent e) (ErrorDue.silent f) = cc

  abbrev grown : Message
  grown = pushed (identity_at t.identities b.rank) m

  same_forward : (next : ℕ) → GoesTo t b m next → a ≡ c
  same_forward next g =
      ⊎_elim
      (λ e.
      let large = test_large t b right m v e in
      ra.forwards.too_large.1 ((next, g), large) ∙ sym (rc.forwards.too_large.1 ((next, g), large)))
      (λ e.
      let fits = not_fits t b right m v e in
      let gains = grown_gains t b right m v grown refl in
      (ra.forwards.forward next grown).1 (g, fits, gains) ∙ sym ((rc.forwards.forward next grown).1 (g, fits, gains)))
      (outcome (too_large grown))

  pub same_answer : Which t b m → a ≡ c
  same_answer (served number tries r) = (ra.served.delivery number).1 (tries, r) ∙ sym ((rc.served.delivery number).1 (tries, r))
  same_answer (goes next g) = same_forward next g
  same_answer (no_service_lem s) = same_error 38 (ra.served.error_38.1 s) (rc.served.error_38.1 s)
  same_answer (no_rank o) = same_error 113 (ra.served.error_113.1 o) (rc.served.error_113.1 o)

-- ---- responses

module _ (t : Tables) (b : Broker) (right : Right t b) (m : Message) (a c : Answer Outcome) (ra : GoesBack t b m a) (rc : GoesBack t b m c) where
  pub same_return : Whither t b m → a ≡ c
  same_return (ended h) = ra.homeward.1 h ∙ sym (rc.homeward.1 h)
  same_return (near rank n i) =
      let loses = popped_loses t b right m (popped m) refl rank n in
      (ra.forward rank (popped m)).1 (n, i, loses) ∙ sym ((rc.forward rank (popped m)).1 (n, i, loses))
  same_return (far rank n i) = ra.no_neighbour.1 (rank, n, i) ∙ sym (rc.no_neighbour.1 (rank, n, i))

pub no_other_answer : (t : Tables) (b : Broker) → NoOtherAnswer t b
no_other_answer t b =
    record {
      request = λ right m v a ra. same_answer t b right m v a (routed t b m) ra (requests_by_the_rules t b right m v) (which t b m right);
      response = λ right m v a ra. same_return t b right m a (routed t b m) ra (responses_by_the_rules t b right m v) (whither t b right m);
    }
