-- The rules on error replies and on noresponse.
use Rattle.std.specs.Prelude.{None, Some, Ok, Err}
use mathlib.Core.Path.{◌≡◌, refl, sym, ap, ◌∙◌}
use mathlib.Core.Bool.{true, false, ◌||◌}
use mathlib.Core.Logic.{inl, ⊎_elim}
use Prim.Native.Nat.{ℕ, ◌+◌, ◌/◌, ◌%◌}
use native.Mathlib.Omega.{arith}
use borrow.Author.Tests.{eqb-true, eqb-false, eq-eqb}
use lib.Dec.{eqb, ltb}
use lib.ListN.{length}
use Rattle.bytes_number.proofs.Truth.{outcome}
use Rattle.frame_message.specs.declared.Header.{Header}
use Rattle.refusal.specs.Answer.{answered}
use Rattle.frame_message.specs.Header.{has_topic, has_payload, has_route, no_response, is_upstream}
use Rattle.frame_message.specs.Message.{Message}
use Rattle.frame_message.specs.Frame.{body_of}
use Rattle.frame_message.specs.Writing.{most_routes}
use Rattle.table_identities.specs.Identities.{identity_at}
use Rattle.step_routing.specs.Responses.{Back}
use Rattle.step_routing.specs.declared.Broker.{Broker}
use Rattle.step_routing.specs.declared.Way.{Way}
use Rattle.step_routing.specs.declared.Way.TheVariants.{Deliver, Forward, Fail}
use Rattle.step_routing.specs.Requests.{request_way}
use Rattle.step_routing.specs.Messages.{pushed, error_reply, too_large}
use Rattle.step_routing.specs.Routed.{Tables, replied, requested, responded, routed}
use Rattle.step_routing.proofs.Bodies.{body_length_lem}
use Rattle.step_routing.proofs.Made.{reply_frame, reply_writable}
use Rattle.step_routing.proofs.Outcomes.{way_of, back_of, Came, came, routed_request, routed_response, routed_neither, forward_fits, forward_large, replied_is, silenced_is}
use Rattle.claim_steps.specs.Rules.{Valid, Replies, Heard, hushed, silently}

-- ---- the error reply

module _ (t : Tables) (b : Broker) (m : Message) (v : Valid 1 m) where
  -- what came of the request
  pub request_came : Came t b m (way_of t b m) (routed t b m)
  request_came = rw (routed_request t b m v.typed) (came t b m (way_of t b m))

  pub replies : Replies b m (routed t b m)
  replies =
      record {
        reply = λ errnum reply e. rw (made errnum reply e) (record { kind = refl; routes = refl; topic = refl; matchtag = refl; error = refl; userid = refl; rolemask = refl; flags = refl; payload = refl });
        no_longer = λ errnum reply e. rw (made errnum reply e) (omega (arith, reply_frame m v.writable (inl v.typed) b.userid b.rolemask errnum));
        valid =
            λ errnum reply e.
            rw (made errnum reply e)
            (record { typed = refl; writable = reply_writable m v.writable (inl v.typed) b.userid b.rolemask errnum });
      }
    where
      made : (errnum : ℕ) (reply : Message) → routed t b m ≡ answered (replied errnum reply) → reply ≡ error_reply b.userid b.rolemask errnum m
      made errnum reply e = (replied_is request_came errnum reply e).2

  pub heard : Heard m (routed t b m)
  heard = record { reply = λ errnum reply e. (replied_is request_came errnum reply e).1; silence = λ errnum e. (silenced_is request_came errnum e).1 }

-- ---- noresponse

-- flag 04 added where it was clear: it is set, and the other flags are as they were
module _ (f : ℕ) (clear : no_response f ≡ false) where
  four_clear : f / 4 % 2 ≡ 0
  four_clear = omega (arith, eqb-false (f / 4 % 2) 1 clear)

  now_set : no_response (f + 4) ≡ true
  now_set = eq-eqb ((f + 4) / 4 % 2) 1 (omega (arith, four_clear))

  tested : (a b : ℕ) → a ≡ b → eqb a 1 ≡ eqb b 1
  tested a b e = rw e

  -- so nothing is carried into what stands above it
  eighths : (f + 4) / 8 ≡ f / 8
  eighths =
      let before : f / 8 ≡ f / 4 / 2 = omega arith in
      let after : (f + 4) / 8 ≡ f / 4 / 2 = omega (arith, four_clear) in
      omega arith

  sixteenths : (f + 4) / 16 ≡ f / 16
  sixteenths =
      let before : f / 16 ≡ f / 8 / 2 = omega arith in
      let after : (f + 4) / 16 ≡ (f + 4) / 8 / 2 = omega arith in
      omega (arith, eighths)

  route_kept : has_route f ≡ has_route (f + 4)
  route_kept = rw eighths

  topic_kept : has_topic f ≡ has_topic (f + 4)
  topic_kept = tested (f % 2) ((f + 4) % 2) (omega (arith, four_clear))

  payload_kept : has_payload f ≡ has_payload (f + 4)
  payload_kept = tested (f / 2 % 2) ((f + 4) / 2 % 2) (omega (arith, four_clear))

  upstream_kept : is_upstream (f + 4) ≡ is_upstream f
  upstream_kept = rw sixteenths

-- a request, a response, or neither
pub by_type : {A : Type 0} (h : Header) → (h.kind ≡ 1 → A) → ((h.kind ≡ 1 → ⊥) → h.kind ≡ 2 → A) → ((h.kind ≡ 1 → ⊥) → (h.kind ≡ 2 → ⊥) → A) → A
by_type h one two neither =
    ⊎_elim
    (λ e. one (eqb-true h.kind 1 e))
    (λ n. ⊎_elim (λ e. two (eqb-false h.kind 1 n) (eqb-true h.kind 2 e)) (λ k. neither (eqb-false h.kind 1 n) (eqb-false h.kind 2 k)) (outcome (eqb h.kind 2)))
    (outcome (eqb h.kind 1))

module _ (t : Tables) (b : Broker) (m : Message) where
  abbrev f : ℕ
  f = m.header.flags

  module _ (clear : no_response f ≡ false) where
    same_body : (m : Message) → no_response m.header.flags ≡ false → length (body_of (hushed m)) ≡ length (body_of m)
    same_body m clear =
        body_length_lem (hushed m) (route_kept m.header.flags clear) (topic_kept m.header.flags clear) (payload_kept m.header.flags clear)
        ∙ sym (body_length_lem m refl refl refl)

    same_way : way_of t b (hushed m) ≡ way_of t b m
    unfolding request_way
    same_way = rw (upstream_kept f clear)

    abbrev grown : Message
    grown = pushed (identity_at t.identities b.rank) m

    same_size : too_large (hushed grown) ≡ too_large grown
    same_size = ap (λ (n : ℕ). ltb most_routes (length grown.routes) || ltb 32768 n) (same_body grown clear)

    request_silently : (way : Way) → requested t b (hushed m) way ≡ silently (requested t b m way)
    request_silently (Deliver number) = refl
    request_silently (Forward next) =
        ⊎_elim
        (λ large. forward_large next (hushed grown) (same_size ∙ large) ∙ sym (ap silently (forward_large next grown large)))
        (λ fits. forward_fits next (hushed grown) (same_size ∙ fits) ∙ sym (ap silently (forward_fits next grown fits)))
        (outcome (too_large grown))
    request_silently (Fail errnum) = rw (now_set f clear, clear)

    response_silently : (way : Back) → responded (hushed m) way ≡ silently (responded m way)
    response_silently (Ok None) = refl
    response_silently (Ok (Some broker)) = refl
    response_silently (Err r) = refl

  pub only_silence : no_response f ≡ false → routed t b (hushed m) ≡ silently (routed t b m)
  only_silence clear =
      by_type m.header
      (λ one. routed_request t b (hushed m) one ∙ ap (requested t b (hushed m)) (same_way clear) ∙ request_silently clear (way_of t b m) ∙ sym (ap silently (routed_request t b m one)))
      (λ n two. routed_response t b (hushed m) two ∙ response_silently clear (back_of t b m) ∙ sym (ap silently (routed_response t b m two)))
      (λ n k. routed_neither t b (hushed m) n k ∙ sym (ap silently (routed_neither t b m n k)))
