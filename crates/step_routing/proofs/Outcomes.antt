-- What an outcome tells of the way that led to it: each outcome comes of one way only.
use Rattle.std.specs.Prelude.{None, Some, Ok, Err}
use mathlib.Core.Path.{◌≡◌, refl, ap, ◌∙◌}
use mathlib.Core.Bool.{true, false}
use mathlib.Core.Logic.{⊎_elim}
use Prim.Native.Nat.{ℕ}
use native.Mathlib.Omega.{arith}
use borrow.Author.Tests.{eq-eqb, ne_eqb}
use Rattle.bytes_number.proofs.Truth.{outcome}
use Rattle.refusal.specs.declared.Refusal.{Refusal}
use Rattle.refusal.specs.declared.Refusal.TheVariants.{ForwardLong, NotRouted}
use Rattle.refusal.specs.Answer.{Answer, refused, answered}
use Rattle.frame_message.specs.Header.{no_response}
use Rattle.frame_message.specs.Message.{Message}
use Rattle.table_identities.specs.Identities.{identity_at}
use Rattle.step_routing.specs.declared.Broker.{Broker}
use Rattle.step_routing.specs.declared.Way.{Way}
use Rattle.step_routing.specs.declared.Way.TheVariants.{Deliver, Forward, Fail}
use Rattle.step_routing.specs.Requests.{request_way}
use Rattle.step_routing.specs.Responses.{Back, response_way}
use Rattle.step_routing.specs.Messages.{pushed, popped, error_reply, too_large}
use Rattle.step_routing.specs.Routed.{Tables, Outcome, delivered, forwarded, replied, silenced, home, failed, forwarded_if, requested, responded, routed}

-- ---- a step by the message's type

-- the ways of a request and of a response
abbrev pub way_of : Tables → Broker → Message → Way
way_of t b m = request_way t.tree t.services b.rank m.header m.topic

abbrev pub back_of : Tables → Broker → Message → Back
back_of t b m = response_way t.tree t.identities b.rank m.routes

module _ (t : Tables) (b : Broker) (m : Message) where
  pub routed_request : m.header.kind ≡ 1 → routed t b m ≡ requested t b m (way_of t b m)
  unfolding routed
  routed_request e = rw (eq-eqb m.header.kind 1 e)

  pub routed_response : m.header.kind ≡ 2 → routed t b m ≡ responded m (back_of t b m)
  unfolding routed
  routed_response e = rw (ne_eqb m.header.kind 1 (λ o. omega arith), eq-eqb m.header.kind 2 e)

  pub routed_neither : (m.header.kind ≡ 1 → ⊥) → (m.header.kind ≡ 2 → ⊥) → routed t b m ≡ refused NotRouted
  unfolding routed
  routed_neither n k = rw (ne_eqb m.header.kind 1 n, ne_eqb m.header.kind 2 k)

-- ---- the outcomes of a request

-- an error that is due, by whether noresponse is set
module _ (b : Broker) (errnum : ℕ) (m : Message) where
  pub failed_loud : no_response m.header.flags ≡ false → failed b errnum m ≡ replied errnum (error_reply b.userid b.rolemask errnum m)
  failed_loud e = rw e

  pub failed_quiet : no_response m.header.flags ≡ true → failed b errnum m ≡ silenced errnum
  failed_quiet e = rw e

-- 12, or forwarded
module _ (next : ℕ) (m : Message) where
  pub forward_fits : too_large m ≡ false → forwarded_if next m ≡ answered (forwarded next m)
  forward_fits e = rw e

  pub forward_large : too_large m ≡ true → forwarded_if next m ≡ refused ForwardLong
  forward_large e = rw e

-- what comes of a way, with the tests that it met
pub data Came (t : Tables) (b : Broker) (m : Message) (way : Way) (a : Answer Outcome) : Type 0 where
  delivers : (number : ℕ) → way ≡ Deliver number → a ≡ answered (delivered number) → Came t b m way a
  forwards : (next : ℕ) → way ≡ Forward next → too_large (pushed (identity_at t.identities b.rank) m) ≡ false → a ≡ answered (forwarded next (pushed (identity_at t.identities b.rank) m)) → Came t b m way a
  refuses : (next : ℕ) → way ≡ Forward next → too_large (pushed (identity_at t.identities b.rank) m) ≡ true → a ≡ refused ForwardLong → Came t b m way a
  replies : (errnum : ℕ) → way ≡ Fail errnum → no_response m.header.flags ≡ false → a ≡ answered (replied errnum (error_reply b.userid b.rolemask errnum m)) → Came t b m way a
  silences : (errnum : ℕ) → way ≡ Fail errnum → no_response m.header.flags ≡ true → a ≡ answered (silenced errnum) → Came t b m way a

module _ (t : Tables) (b : Broker) (m : Message) where
  abbrev grown : Message
  grown = pushed (identity_at t.identities b.rank) m

  pub came : (way : Way) → Came t b m way (requested t b m way)
  came (Deliver number) = delivers number refl refl
  came (Forward next) =
      ⊎_elim
      (λ large. refuses next refl large (forward_large next grown large))
      (λ fits. forwards next refl fits (forward_fits next grown fits))
      (outcome (too_large grown))
  came (Fail errnum) =
      ⊎_elim
      (λ quiet. silences errnum refl quiet (rw quiet))
      (λ loud. replies errnum refl loud (rw loud))
      (outcome (no_response m.header.flags))

-- where two values that are never the same are equal, `cc` finds that 0 is 1
pub clashing : {A : Type 0} → ◌≡◌ {A = ℕ} 0 1 → A
clashing z = absurd (omega arith)

module _ {t : Tables} {b : Broker} {m : Message} {way : Way} {a : Answer Outcome} where
  pub delivered_is : Came t b m way a → (number : ℕ) → a ≡ answered (delivered number) → way ≡ Deliver number
  delivered_is (delivers n w q) number e =
      let same : n ≡ number = cc in
      w ∙ ap Deliver same
  delivered_is (forwards next w f q) number e = clashing cc
  delivered_is (refuses next w f q) number e = clashing cc
  delivered_is (replies n w f q) number e = clashing cc
  delivered_is (silences n w f q) number e = clashing cc

  pub forwarded_is : Came t b m way a → (next : ℕ) (new : Message) → a ≡ answered (forwarded next new)
      → (way ≡ Forward next) × (too_large (pushed (identity_at t.identities b.rank) m) ≡ false) × (new ≡ pushed (identity_at t.identities b.rank) m)
  forwarded_is (delivers n w q) next new e = clashing cc
  forwarded_is (forwards n w f q) next new e =
      let same : n ≡ next = cc in
      (w ∙ ap Forward same, f, cc)
  forwarded_is (refuses n w f q) next new e = clashing cc
  forwarded_is (replies n w f q) next new e = clashing cc
  forwarded_is (silences n w f q) next new e = clashing cc

  pub refused_is : Came t b m way a → (r : Refusal) → a ≡ refused r
      → ((next : ℕ) × (way ≡ Forward next)) × (too_large (pushed (identity_at t.identities b.rank) m) ≡ true) × (r ≡ ForwardLong)
  refused_is (delivers n w q) r e = clashing cc
  refused_is (forwards n w f q) r e = clashing cc
  refused_is (refuses n w f q) r e = ((n, w), f, cc)
  refused_is (replies n w f q) r e = clashing cc
  refused_is (silences n w f q) r e = clashing cc

  pub replied_is : Came t b m way a → (errnum : ℕ) (reply : Message) → a ≡ answered (replied errnum reply)
      → (way ≡ Fail errnum) × (no_response m.header.flags ≡ false) × (reply ≡ error_reply b.userid b.rolemask errnum m)
  replied_is (delivers n w q) errnum reply e = clashing cc
  replied_is (forwards n w f q) errnum reply e = clashing cc
  replied_is (refuses n w f q) errnum reply e = clashing cc
  replied_is (replies n w f q) errnum reply e =
      let same : n ≡ errnum = cc in
      let made : reply ≡ error_reply b.userid b.rolemask n m = cc in
      (w ∙ ap Fail same, f, made ∙ ap (λ (k : ℕ). error_reply b.userid b.rolemask k m) same)
  replied_is (silences n w f q) errnum reply e = clashing cc

  pub silenced_is : Came t b m way a → (errnum : ℕ) → a ≡ answered (silenced errnum) → (way ≡ Fail errnum) × (no_response m.header.flags ≡ true)
  silenced_is (delivers n w q) errnum e = clashing cc
  silenced_is (forwards n w f q) errnum e = clashing cc
  silenced_is (refuses n w f q) errnum e = clashing cc
  silenced_is (replies n w f q) errnum e = clashing cc
  silenced_is (silences n w f q) errnum e =
      let same : n ≡ errnum = cc in
      (w ∙ ap Fail same, f)

  pub not_home : Came t b m way a → a ≡ answered home → ⊥
  not_home (delivers n w q) e = clashing cc
  not_home (forwards n w f q) e = clashing cc
  not_home (refuses n w f q) e = clashing cc
  not_home (replies n w f q) e = clashing cc
  not_home (silences n w f q) e = clashing cc

-- ---- the outcomes of a response

module _ (m : Message) where
  pub home_is : (way : Back) → responded m way ≡ answered home → way ≡ Ok None
  home_is (Ok None) e = refl
  home_is (Ok (Some broker)) e = clashing cc
  home_is (Err q) e = clashing cc

  pub sent_is : (way : Back) (next : ℕ) (new : Message) → responded m way ≡ answered (forwarded next new) → (way ≡ Ok (Some next)) × (new ≡ popped m)
  sent_is (Ok None) next new e = clashing cc
  sent_is (Ok (Some broker)) next new e =
      let same : broker ≡ next = cc in
      (ap (λ (n : ℕ). Ok (Some n)) same, cc)
  sent_is (Err q) next new e = clashing cc

  pub stray_is : (way : Back) (r : Refusal) → responded m way ≡ refused r → way ≡ Err r
  stray_is (Ok None) r e = clashing cc
  stray_is (Ok (Some broker)) r e = clashing cc
  stray_is (Err q) r e =
      let same : q ≡ r = cc in
      ap Err same

  -- a response is never delivered, and no error comes of it
  pub not_delivered : (way : Back) (number : ℕ) → responded m way ≡ answered (delivered number) → ⊥
  not_delivered (Ok None) number e = clashing cc
  not_delivered (Ok (Some broker)) number e = clashing cc
  not_delivered (Err q) number e = clashing cc

  pub not_replied : (way : Back) (errnum : ℕ) (reply : Message) → responded m way ≡ answered (replied errnum reply) → ⊥
  not_replied (Ok None) errnum reply e = clashing cc
  not_replied (Ok (Some broker)) errnum reply e = clashing cc
  not_replied (Err q) errnum reply e = clashing cc

  pub not_silenced : (way : Back) (errnum : ℕ) → responded m way ≡ answered (silenced errnum) → ⊥
  not_silenced (Ok None) errnum e = clashing cc
  not_silenced (Ok (Some broker)) errnum e = clashing cc
  not_silenced (Err q) errnum e = clashing cc
