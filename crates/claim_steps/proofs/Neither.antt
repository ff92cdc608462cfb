-- The rule on events and control messages.
use mathlib.Core.Path.{◌≡◌, sym, ◌∙◌}
use mathlib.Core.Bool.{true, ◌||◌}
use mathlib.Core.Logic.{⊎_elim}
use native.Mathlib.Omega.{arith}
use borrow.Author.Tests.{eqb-true, ne_eqb}
use lib.Dec.{eqb, ltb}
use Rattle.bytes_number.proofs.Truth.{outcome, clash, and_left, or_neither}
use Rattle.frame_message.specs.declared.Header.{Header}
use Rattle.refusal.specs.declared.Refusal.TheVariants.{NotRouted}
use Rattle.refusal.specs.Answer.{refused}
use Rattle.frame_message.specs.Header.{is_type}
use Rattle.frame_message.specs.Working.{is_known}
use Rattle.frame_message.specs.Message.{Message}
use Rattle.frame_message.specs.Frame.{frame_of}
use Rattle.frame_message.proofs.Messages.{written}
use Rattle.step_routing.specs.declared.Broker.{Broker}
use Rattle.step_routing.specs.Routed.{Tables, routed}
use Rattle.step_routing.proofs.Ways.{stray_only}
use Rattle.step_routing.proofs.Outcomes.{way_of, back_of, clashing, came, routed_request, routed_response, routed_neither, refused_is, stray_is}
use Rattle.claim_steps.specs.Rules.{EventOrControl, OthersByTheRules}
use Rattle.claim_steps.proofs.ErrorReplies.{by_type}

-- "1 request, 2 response, 4 event, 8 control", and no other
type_left : (h : Header) → is_known h ≡ true → (h.kind ≡ 1 → ⊥) → (h.kind ≡ 2 → ⊥) → EventOrControl h
unfolding is_known
type_left h known n k =
    let typed : is_type h.kind ≡ true = and_left (is_type h.kind) (ltb h.flags 128) known in
    let a = eqb h.kind 1 in
    let b = eqb h.kind 2 in
    let c = eqb h.kind 4 in
    let d = eqb h.kind 8 in
    ⊎_elim
    (λ e. EventOrControl.event (omega (arith, eqb-true h.kind 4 e)))
    (λ e.
    ⊎_elim
    (λ f. EventOrControl.control (omega (arith, eqb-true h.kind 8 f)))
    (λ f. clash (is_type h.kind) typed (or_neither (a || b || c) d (or_neither (a || b) c (or_neither a b (ne_eqb h.kind 1 n) (ne_eqb h.kind 2 k)) e) f))
    (outcome (eqb h.kind 8)))
    (outcome (eqb h.kind 4))

module _ (t : Tables) (b : Broker) (m : Message) where
  not_routed : is_known m.header ≡ true → routed t b m ≡ refused NotRouted → EventOrControl m.header
  not_routed known e =
      by_type m.header
      (λ one.
      let other = (refused_is (came t b m (way_of t b m)) NotRouted (sym (routed_request t b m one) ∙ e)).2 in
      clashing cc)
      (λ n two.
      let other = stray_only t.tree t.identities b.rank m.routes (stray_is m (back_of t b m) NotRouted (sym (routed_response t b m two) ∙ e)) in
      clashing cc)
      (λ n k. type_left m.header known n k)

  neither_routed : EventOrControl m.header → routed t b m ≡ refused NotRouted
  neither_routed (EventOrControl.event e) = routed_neither t b m (λ f. omega arith) (λ f. omega arith)
  neither_routed (EventOrControl.control e) = routed_neither t b m (λ f. omega arith) (λ f. omega arith)

pub others_by_the_rules : (t : Tables) (b : Broker) → OthersByTheRules t b
others_by_the_rules t b m w = record { neither = (not_routed t b m (written m (frame_of m) w).passes.known, neither_routed t b m) }
