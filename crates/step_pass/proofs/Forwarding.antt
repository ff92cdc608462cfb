-- What is known of a message that a step forwards.
use Rattle.std.specs.Prelude.{None, Some, Ok, Err}
use mathlib.Core.Path.{◌≡◌, refl, sym, ◌∙◌}
use mathlib.Core.Bool.{true, false}
use mathlib.Core.Logic.{◌⊎◌, inl, inr, ⊎_elim}
use Prim.Native.Nat.{ℕ, ◌<◌}
use mathlib.Core.List.{List, [], ◌∷◌}
use native.Mathlib.Omega.{arith}
use borrow.Author.Tests.{eqb-true, eqb-false}
use lib.Dec.{eqb}
use Rattle.bytes_number.proofs.Truth.{outcome}
use Rattle.refusal.specs.declared.Refusal.TheVariants.{ForwardLong}
use Rattle.refusal.specs.Answer.{answered}
use Rattle.frame_message.specs.Header.{no_response}
use Rattle.frame_message.specs.Message.{Message}
use Rattle.refusal.proofs.Answers.{not_answered, answered_same, passed}
use Rattle.table_identities.specs.Identities.{identity_at, identities_good}
use Rattle.table_identities.proofs.Identities.{good_identities}
use Rattle.table_tree.specs.Tree.{ranks_in}
use Rattle.step_routing.specs.declared.Broker.{Broker}
use Rattle.step_routing.specs.declared.Way.{Way}
use Rattle.step_routing.specs.declared.Way.TheVariants.{Deliver, Forward, Fail}
use Rattle.step_routing.specs.Requests.{request_way}
use Rattle.step_routing.specs.Responses.{Back, response_way}
use Rattle.step_routing.specs.Messages.{pushed, popped, too_large}
use Rattle.step_routing.specs.Routed.{Tables, Outcome, delivered, forwarded, replied, silenced, home, requested, responded, routed}
use Rattle.step_routing.proofs.Outcomes.{routed_request, routed_response, routed_neither}
use Rattle.step_pass.proofs.Lying.{fails_silent, fails_reply}
use Rattle.step_pass.proofs.Keeping.{Sound, pushed_sound, popped_sound}

-- a request that goes on has this broker's identity on top; a response has lost its top route
pub record PushedOn (t : Tables) (who : Broker) (m n : Message) : Type 0 where
  pub type : m.header.kind ≡ 1
  pub same : n ≡ pushed (identity_at t.identities who.rank) m
  pub small : too_large (pushed (identity_at t.identities who.rank) m) ≡ false

pub record PoppedOn (m n : Message) : Type 0 where
  pub type : m.header.kind ≡ 2
  pub same : n ≡ popped m
  pub top : List ℕ
  pub rest : List (List ℕ)
  pub routes : m.routes ≡ top ∷ rest

no_other : {o : Outcome} (next : ℕ) (n : Message) → answered o ≡ answered (forwarded next n) → o ≡ forwarded next n
no_other next n e = answered_same e

delivered_never : {number next : ℕ} {n : Message} → delivered number ≡ forwarded next n → ⊥
delivered_never e = let z : ◌≡◌ {A = ℕ} 0 1 = cc in omega arith

silenced_never : {errnum next : ℕ} {n : Message} → silenced errnum ≡ forwarded next n → ⊥
silenced_never e = let z : ◌≡◌ {A = ℕ} 0 1 = cc in omega arith

replied_never : {errnum next : ℕ} {m n : Message} → replied errnum m ≡ forwarded next n → ⊥
replied_never e = let z : ◌≡◌ {A = ℕ} 0 1 = cc in omega arith

home_never : {next : ℕ} {n : Message} → home ≡ forwarded next n → ⊥
home_never e = let z : ◌≡◌ {A = ℕ} 0 1 = cc in omega arith

same_message : {next last : ℕ} {m n : Message} → forwarded last m ≡ forwarded next n → n ≡ m
same_message e = cc

module _ (t : Tables) (who : Broker) (m : Message) (next : ℕ) (n : Message) where
  on_request : (way : Way) → m.header.kind ≡ 1 → requested t who m way ≡ answered (forwarded next n) → PushedOn t who m n
  on_request (Deliver number) k e = absurd (delivered_never (no_other next n e))
  on_request (Forward last) k e =
      let grown = pushed (identity_at t.identities who.rank) m in
      let p = passed (too_large grown) ForwardLong (answered (forwarded last grown)) (forwarded next n) e in
      record { type = k; same = same_message (no_other next n p.rest); small = p.test }
  on_request (Fail errnum) k e =
      absurd
      (⊎_elim
      (λ s. silenced_never (no_other next n (sym (fails_silent who errnum m s) ∙ e)))
      (λ r. replied_never (no_other next n (sym (fails_reply who errnum m r) ∙ e)))
      (outcome (no_response m.header.flags)))

  on_response : (rs : List (List ℕ)) → m.routes ≡ rs → m.header.kind ≡ 2 → responded m (response_way t.tree t.identities who.rank rs) ≡ answered (forwarded next n) → PoppedOn m n
  unfolding response_way
  on_response [] r k e = absurd (home_never (no_other next n e))
  on_response (top ∷ rest) r k e = by_way (response_way t.tree t.identities who.rank (top ∷ rest)) e
    where
      by_way : (back : Back) → responded m back ≡ answered (forwarded next n) → PoppedOn m n
      by_way (Ok None) e = absurd (home_never (no_other next n e))
      by_way (Ok (Some broker)) e = record { type = k; same = same_message (no_other next n e); top = top; rest = rest; routes = r }
      by_way (Err r) e = absurd (not_answered e)

  pub goes_on : routed t who m ≡ answered (forwarded next n) → PushedOn t who m n ⊎ PoppedOn m n
  goes_on e = ⊎_elim (λ y. inl (request (eqb-true m.header.kind 1 y))) (λ no. ⊎_elim (λ y. inr (response (eqb-true m.header.kind 2 y))) (λ k. absurd (neither no k)) (outcome (eqb m.header.kind 2))) (outcome (eqb m.header.kind 1))
    where
      request : m.header.kind ≡ 1 → PushedOn t who m n
      request k = on_request (request_way t.tree t.services who.rank m.header m.topic) k (sym (routed_request t who m k) ∙ e)

      response : m.header.kind ≡ 2 → PoppedOn m n
      response k = on_response m.routes refl k (sym (routed_response t who m k) ∙ e)

      neither : eqb m.header.kind 1 ≡ false → eqb m.header.kind 2 ≡ false → ⊥
      neither a b = not_answered (sym (routed_neither t who m (eqb-false m.header.kind 1 a) (eqb-false m.header.kind 2 b)) ∙ e)

-- what goes on can be written again
pub on_sound : (t : Tables) (who : Broker) (m : Message) (next : ℕ) (n : Message) → identities_good t.tree t.identities ≡ true → who.rank < ranks_in t.tree → Sound m →
    routed t who m ≡ answered (forwarded next n) → Sound n
on_sound t who m next n good inside s e = ⊎_elim pushes pops (goes_on t who m next n e)
  where
    pushes : PushedOn t who m n → Sound n
    pushes p = rw p.same (pushed_sound m s (inl p.type) (identity_at t.identities who.rank) ((good_identities t.tree t.identities good).form who.rank inside) p.small)

    pops : PoppedOn m n → Sound n
    pops p = rw p.same (popped_sound m s (inr p.type) p.top p.rest p.routes)
