-- The rules on forwarding and on 12.
use mathlib.Core.Path.{◌≡◌, refl, sym, ap, ◌∙◌}
use mathlib.Core.Bool.{true, false}
use mathlib.Core.Logic.{inl, ⊎_elim}
use Prim.Native.Nat.{ℕ, ◌+◌, ◌<◌}
use native.Mathlib.Omega.{arith}
use mathlib.Core.List.{List}
use borrow.Author.Tests.{ltb-true, ltb-false, le-ltb}
use lib.Dec.{ltb}
use lib.ListN.{length}
use Rattle.bytes_number.proofs.Truth.{outcome, or_left, or_right, or_neither, clash}
use Rattle.frame_forms.specs.Forms.{is_route}
use Rattle.refusal.specs.declared.Refusal.TheVariants.{ForwardLong}
use Rattle.refusal.specs.Answer.{answered}
use Rattle.frame_message.specs.Message.{Message}
use Rattle.frame_message.specs.Frame.{body_of, frame_of}
use Rattle.frame_message.proofs.Forms.{routes_few}
use Rattle.frame_message.proofs.Messages.{written}
use Rattle.table_tree.specs.Tree.{ranks_in}
use Rattle.table_tree.proofs.Depths.{parent_in}
use Rattle.table_tree_hops.specs.Towards.{towards}
use Rattle.table_tree_hops.proofs.Paths.{next_neighbour}
use Rattle.table_identities.specs.Identities.{identity_at}
use Rattle.table_identities.proofs.Identities.{good_identities}
use Rattle.step_routing.specs.declared.Broker.{Broker}
use Rattle.step_routing.specs.declared.Way.TheVariants.{Forward}
use Rattle.step_routing.specs.Messages.{pushed, too_large}
use Rattle.step_routing.specs.Routed.{Tables, forwarded, requested, routed}
use Rattle.step_routing.proofs.Made.{pushed_body, pushed_frame, pushed_writable}
use Rattle.step_routing.proofs.Outcomes.{routed_request, forward_fits, forward_large, forwarded_is, refused_is}
use Rattle.claim_steps.specs.Rules.{Right, Valid, Neighbour, GoesTo, Gains, Fits, TooLarge, Forwards}
use Rattle.claim_steps.proofs.ErrorReplies.{request_came}
use Rattle.claim_steps.proofs.Neighbours.{passes_neighbour}
use Rattle.claim_steps.proofs.Cases.{way_goes, goes_only}

module _ (t : Tables) (b : Broker) (right : Right t b) (m : Message) (v : Valid 1 m) where
  abbrev identity : List ℕ
  identity = identity_at t.identities b.rank

  abbrev grown : Message
  grown = pushed identity m

  is : is_route identity ≡ true
  is = (good_identities t.tree t.identities right.tables.identities).form b.rank right.rank

  grown_body : length (body_of grown) ≡ length (body_of m) + 38
  grown_body = pushed_body m v.writable (inl v.typed) identity is

  -- ---- what is too large

  fits_not : Fits m → too_large grown ≡ false
  fits_not f =
      or_neither (ltb 64 (length grown.routes)) (ltb 32768 (length (body_of grown))) (le-ltb 64 (length grown.routes) (omega (arith, f.routes)))
      (le-ltb 32768 (length (body_of grown)) (omega (arith, f.body, grown_body)))

  pub not_fits : too_large grown ≡ false → Fits m
  not_fits e =
      record {
        routes = omega (arith, ltb-false 64 (length grown.routes) (or_left (ltb 64 (length grown.routes)) (ltb 32768 (length (body_of grown))) e));
        body = omega (arith, grown_body, ltb-false 32768 (length (body_of grown)) (or_right (ltb 64 (length grown.routes)) (ltb 32768 (length (body_of grown))) e));
      }

  large_not_fits : TooLarge m → Fits m → ⊥
  large_not_fits (TooLarge.routes e) f = omega (arith, f.routes)
  large_not_fits (TooLarge.body e) f = omega (arith, f.body)

  large_test : TooLarge m → too_large grown ≡ true
  large_test l = ⊎_elim (λ e. e) (λ e. absurd (large_not_fits l (not_fits e))) (outcome (too_large grown))

  pub test_large : too_large grown ≡ true → TooLarge m
  test_large e =
      ⊎_elim
      (λ many. TooLarge.routes (omega (arith, ltb-true 63 (length m.routes) many, routes_few m.routes (written m (frame_of m) v.writable).passes.routes)))
      (λ few.
      ⊎_elim
      (λ long. TooLarge.body (ltb-true 32730 (length (body_of m)) long))
      (λ short. clash (too_large grown) e (fits_not (record { routes = omega (arith, ltb-false 63 (length m.routes) few); body = ltb-false 32730 (length (body_of m)) short })))
      (outcome (ltb 32730 (length (body_of m)))))
      (outcome (ltb 63 (length m.routes)))

  -- ---- what is forwarded

  gains_grown : (new : Message) → Gains identity m new → new ≡ grown
  gains_grown new g = λ i. record { header = g.header i; routes = g.routes i; topic = g.topic i; payload = g.payload i }

  pub grown_gains : (new : Message) → new ≡ grown → Gains identity m new
  grown_gains new e = rw e (record { header = refl; routes = refl; topic = refl; payload = refl })

  onwards : (next : ℕ) → GoesTo t b m next → routed t b m ≡ requested t b m (Forward next)
  onwards next g = routed_request t b m v.typed ∙ ap (requested t b m) (way_goes t b m right next g)

  neighbour_next : (next : ℕ) → GoesTo t b m next → (next < ranks_in t.tree) × Neighbour t b next
  neighbour_next next (GoesTo.up g low e) = (omega (arith, parent_in t.tree right.tables.tree b.rank right.rank low), Neighbour.parent (sym e))
  neighbour_next next (GoesTo.ahead f inside apart e) =
      let near = next_neighbour t.tree right.tables.tree b.rank m.header.first right.rank inside (λ s. apart (sym s)) in
      rw e (near.1, passes_neighbour t b right.rank (towards t.tree b.rank m.header.first) near.1 near.0)

  module _ (next : ℕ) (new : Message) (e : routed t b m ≡ answered (forwarded next new)) where
    goes : GoesTo t b m next
    goes = goes_only t b m right next (forwarded_is (request_came t b m v) next new e).0

    fits : Fits m
    fits = not_fits (forwarded_is (request_came t b m v) next new e).1

    new_is : new ≡ grown
    new_is = (forwarded_is (request_came t b m v) next new e).2

    new_valid : Valid 1 new
    new_valid =
        rw new_is
        (record { typed = v.typed; writable = pushed_writable m v.writable (inl v.typed) identity is fits.routes fits.body })

    new_grows : length (frame_of new) ≡ length (frame_of m) + 38
    new_grows = rw new_is (pushed_frame m v.writable (inl v.typed) identity is)

  pub forwards : Forwards t b m (routed t b m)
  forwards =
      record {
        forward =
            λ next new. (
              λ e. (goes next new e, fits next new e, grown_gains new (new_is next new e)),
              λ c. onwards next c.0 ∙ forward_fits next grown (fits_not c.1) ∙ ap (λ (new : Message). answered (forwarded next new)) (sym (gains_grown new c.2)),
            );
        too_large = (
          λ e.
              let r = refused_is (request_came t b m v) ForwardLong e in
              ((r.0.0, goes_only t b m right r.0.0 r.0.1), test_large r.1),
          λ c. onwards c.0.0 c.0.1 ∙ forward_large c.0.0 grown (large_test c.1),
        );
        refusal = λ r e. (refused_is (request_came t b m v) r e).2;
        grows = λ next new e. omega (arith, new_grows next new e);
        valid = new_valid;
        neighbour = λ next new e. neighbour_next next (goes next new e);
      }
