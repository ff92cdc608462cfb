-- The messages that a step makes of a message that can be written: they can be written too, and how long they are.
use mathlib.Core.Path.{◌≡◌, refl, sym, ap, ◌∙◌}
use mathlib.Core.Bool.{Bool, true, false, cond, ◌&&◌}
use mathlib.Core.Logic.{◌⊎◌, ⊎_elim}
use Prim.Native.Nat.{ℕ, ◌+◌, ◌<◌, ◌≤◌}
use mathlib.Core.List.{List, ◌∷◌}
use native.Mathlib.Omega.{arith}
use borrow.Author.Tests.{le-leb}
use lib.Dec.{leb}
use lib.ListN.{length}
use Rattle.bytes_number.proofs.Truth.{and_both, and_left, and_right}
use Rattle.frame_forms.specs.Forms.{is_route}
use Rattle.refusal.specs.Answer.{answered}
use Rattle.frame_message.specs.Header.{has_topic, has_payload, has_route, is_streaming}
use Rattle.frame_message.specs.Message.{Message}
use Rattle.frame_message.specs.Frame.{body_of, frame_of}
use Rattle.frame_message.specs.Writing.{all_routes, routes_good, writing}
use Rattle.frame_message.proofs.Fields.{known_in, call_fits, free_fields}
use Rattle.frame_message.proofs.Frames.{frame_long}
use Rattle.frame_message.proofs.Forms.{route_length_lem, routes_few}
use Rattle.frame_message.proofs.Messages.{Written, written, given_fit, fit_given, write}
use Rattle.step_routing.specs.Messages.{with_routes, pushed, error_reply}
use Rattle.step_routing.proofs.Bodies.{body_grows, body_length_lem}

-- ---- one route more, one route less

pub routes_more : (r : List ℕ) (rs : List (List ℕ)) → is_route r ≡ true → length rs < 64 → routes_good rs ≡ true → routes_good (r ∷ rs) ≡ true
unfolding routes_good
routes_more r rs is few good = and_both (le-leb (length (r ∷ rs)) 64 (omega arith)) (and_both is (and_right (leb (length rs) 64) (all_routes rs) good))

pub route_first : (r : List ℕ) (rs : List (List ℕ)) → routes_good (r ∷ rs) ≡ true → is_route r ≡ true
unfolding routes_good
route_first r rs good = and_left (is_route r) (all_routes rs) (and_right (leb (length (r ∷ rs)) 64) (is_route r && all_routes rs) good)

pub routes_fewer : (r : List ℕ) (rs : List (List ℕ)) → routes_good (r ∷ rs) ≡ true → routes_good rs ≡ true
unfolding routes_good
routes_fewer r rs good =
    and_both (le-leb (length rs) 64 (omega (arith, routes_few (r ∷ rs) good)))
    (and_right (is_route r) (all_routes rs) (and_right (leb (length (r ∷ rs)) 64) (is_route r && all_routes rs) good))

-- ---- a request or a response that can be written

-- the flags of an error reply, 09 or 49: a delimiter, a topic, no payload, and not 80
record ReplyFlags (flags : ℕ) : Type 0 where
  known : flags < 128
  group : has_route flags ≡ true
  topic : has_topic flags ≡ true
  payload : has_payload flags ≡ false

reply_flags : (streaming : Bool) → ReplyFlags (cond streaming 0x49 0x09)
reply_flags true = record { known = omega arith; group = refl; topic = refl; payload = refl }
reply_flags false = record { known = omega arith; group = refl; topic = refl; payload = refl }

module _ (m : Message) (can : writing m ≡ answered (frame_of m)) (call : (m.header.kind ≡ 1) ⊎ (m.header.kind ≡ 2)) where
  w : Written m (frame_of m)
  w = written m (frame_of m) can

  fit : (has_route m.header.flags && has_topic m.header.flags) ≡ true
  fit =
      sym (call_fits m.header refl refl refl (λ e. ⊎_elim (λ k. omega arith) (λ k. omega arith) call) (λ e. ⊎_elim (λ k. omega arith) (λ k. omega arith) call))
      ∙ w.passes.fit

  -- it has the delimiter and a topic
  pub has_group : has_route m.header.flags ≡ true
  has_group = and_left (has_route m.header.flags) (has_topic m.header.flags) fit

  pub has_topic_lem : has_topic m.header.flags ≡ true
  has_topic_lem = and_right (has_route m.header.flags) (has_topic m.header.flags) fit

  -- whatever its routes are, as long as they are good and the body is not too long
  re_routed : (routes : List (List ℕ)) → routes_good routes ≡ true → length (body_of (with_routes m routes)) ≤ 32768 → writing (with_routes m routes) ≡ answered (frame_of (with_routes m routes))
  re_routed routes good short =
      let p = w.passes in
      let g = given_fit m p.given in
      write (with_routes m routes)
      (record {
        known = p.known;
        fit = p.fit;
        given = fit_given (with_routes m routes) (record { routes = rw has_group; topic = g.topic; payload = g.payload });
        routes = good;
        topic = p.topic;
        fields = p.fields;
      })
      short

  module _ (identity : List ℕ) (is : is_route identity ≡ true) where
    pub pushed_body : length (body_of (pushed identity m)) ≡ length (body_of m) + 38
    pushed_body = body_grows m has_group identity m.routes (route_length_lem identity is)

    pub pushed_frame : length (frame_of (pushed identity m)) ≡ length (frame_of m) + 38
    pushed_frame = omega (arith, pushed_body, frame_long m, frame_long (pushed identity m))

    pub pushed_writable : length m.routes < 64 → length (body_of m) ≤ 32730 → writing (pushed identity m) ≡ answered (frame_of (pushed identity m))
    pushed_writable few short = re_routed (identity ∷ m.routes) (routes_more identity m.routes is few w.passes.routes) (omega (arith, pushed_body))

  module _ (top : List ℕ) (below : List (List ℕ)) (routes : m.routes ≡ top ∷ below) where
    good : routes_good (top ∷ below) ≡ true
    good = rw (← routes) w.passes.routes

    popped_body : length (body_of (with_routes m below)) + 38 ≡ length (body_of m)
    popped_body = sym (ap (λ (rs : List (List ℕ)). length (body_of (with_routes m rs))) routes ∙ body_grows m has_group top below (route_length_lem top (route_first top below good)))

    pub popped_frame : length (frame_of (with_routes m below)) + 38 ≡ length (frame_of m)
    popped_frame = omega (arith, popped_body, frame_long m, frame_long (with_routes m below))

    pub popped_writable : writing (with_routes m below) ≡ answered (frame_of (with_routes m below))
    popped_writable = re_routed below (routes_fewer top below good) (omega (arith, popped_body, w.short))

  module _ (userid rolemask errnum : ℕ) where
    abbrev reply : Message
    reply = error_reply userid rolemask errnum m

    flagged : ReplyFlags reply.header.flags
    flagged = reply_flags (is_streaming m.header.flags)

    -- the payload is what an error reply leaves out
    reply_body : length (body_of reply) ≤ length (body_of m)
    reply_body =
        omega (arith, body_length_lem reply (sym flagged.group) (sym flagged.topic) (sym flagged.payload), body_length_lem m (sym has_group) (sym has_topic_lem) refl)

    pub reply_frame : length (frame_of (error_reply userid rolemask errnum m)) ≤ length (frame_of m)
    reply_frame = omega (arith, reply_body, frame_long m, frame_long reply)

    pub reply_writable : writing (error_reply userid rolemask errnum m) ≡ answered (frame_of (error_reply userid rolemask errnum m))
    reply_writable =
        let p = w.passes in
        write reply
        (record {
          known = known_in reply.header refl flagged.known;
          fit = call_fits reply.header refl refl refl (λ e. omega arith) (λ e. omega arith) ∙ and_both flagged.group flagged.topic;
          given = fit_given reply (record { routes = rw flagged.group; topic = rw flagged.topic; payload = rw flagged.payload });
          routes = p.routes;
          topic = λ e. p.topic has_topic_lem;
          fields = free_fields reply.header (λ e. omega arith) (λ e. omega arith);
        })
        (omega (arith, reply_body, w.short))
