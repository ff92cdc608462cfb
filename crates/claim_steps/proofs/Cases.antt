-- The way of a request by the conditions of specs/Rules.antt: each leads to one way, and one of them holds.
use Rattle.std.specs.Prelude.{Option, None, Some}
use mathlib.Core.Path.{◌≡◌, refl, sym, ap, ◌∙◌}
use mathlib.Core.Logic.{⊎_elim}
use Prim.Native.Nat.{ℕ, ◌<◌}
use native.Mathlib.Omega.{arith}
use borrow.Author.Tests.{eqb-true, eqb-false, eq-eqb, ne_eqb, ltb-true, ltb-false}
use lib.Dec.{eqb, ltb}
use Rattle.bytes_number.proofs.Truth.{outcome}
use Rattle.frame_message.specs.Header.{is_upstream}
use Rattle.frame_message.specs.Message.{Message}
use Rattle.table_tree.specs.Tree.{ranks_in, parent_of}
use Rattle.table_tree_hops.specs.Towards.{towards}
use Rattle.table_services.proofs.Services.{good_services}
use Rattle.table_services_find.specs.Lookup.{service_of}
use Rattle.table_services_find.proofs.Lookup.{found_only}
use Rattle.step_routing.specs.declared.Broker.{Broker}
use Rattle.step_routing.specs.declared.Way.{Way}
use Rattle.step_routing.specs.declared.Way.TheVariants.{Deliver, Forward, Fail}
use Rattle.step_routing.specs.Requests.{any_rank, registered, deliver_or, to_parent}
use Rattle.step_routing.specs.Routed.{Tables}
use Rattle.step_routing.proofs.Outcomes.{way_of, clashing}
use Rattle.step_routing.proofs.Ways.{parent_none, parent_some, up_skipped, up_tried, rank_outside, rank_reached, rank_ahead, way_any, way_upstream, way_rank}
use Rattle.claim_steps.proofs.Registering.{registers}
use Rattle.claim_steps.specs.Rules.{Right, ForAny, ForRank, Upstream, Registers, Unregistered, Tries, GoesUp, GoesTo, NoService, Unreachable}

-- which of the conditions holds
pub data Which (t : Tables) (b : Broker) (m : Message) : Type 0 where
  served : (number : ℕ) → Tries b m → Registers t b m number → Which t b m
  goes : (next : ℕ) → GoesTo t b m next → Which t b m
  no_service_lem : NoService t b m → Which t b m
  no_rank : Unreachable t m → Which t b m

-- an error is 38 or 113, each in its own case
pub data Fails (t : Tables) (b : Broker) (m : Message) (errnum : ℕ) : Type 0 where
  by_service : errnum ≡ 38 → NoService t b m → Fails t b m errnum
  by_rank : errnum ≡ 113 → Unreachable t m → Fails t b m errnum

module _ (t : Tables) (b : Broker) (m : Message) (right : Right t b) where
  -- ---- the record that is found registers the service, and no other

  abbrev found : Option ℕ
  found = registered t.services b.rank m.topic

  found_registers : (number : ℕ) → found ≡ Some number → Registers t b m number
  found_registers = registers t b m

  registers_found : (number : ℕ) → Registers t b m number → found ≡ Some number
  registers_found number r =
      found_only t.services b.rank (service_of m.topic) t.tree (good_services t.tree t.services right.tables.services) number r.within r.rank r.name

  none_found : Unregistered t b m → found ≡ None
  none_found none = go found refl
    where
      go : (f : Option ℕ) → found ≡ f → found ≡ None
      go (Some number) e = absurd (none number (found_registers number e))
      go None e = e

  found_none : found ≡ None → Unregistered t b m
  found_none e number r =
      let there = registers_found number r in
      clashing cc

  -- ---- each condition leads to one way

  abbrev way : Way
  way = way_of t b m

  abbrev up : Way
  up = to_parent t.tree b.rank

  abbrev n : ℕ
  n = m.header.first

  there : ForRank m → n ≡ b.rank → way ≡ deliver_or found (Fail 38)
  there f e =
      way_rank t.tree t.services b.rank m.topic m.header f.other f.clear
      ∙ rank_reached t.tree t.services b.rank m.topic n (omega (arith, right.rank)) e

  anyhow : ForAny m → way ≡ deliver_or found up
  anyhow a = way_any t.tree t.services b.rank m.topic m.header a ∙ up_tried t.tree t.services b.rank m.topic refl

  upstream_tried : Upstream m → (b.rank ≡ n → ⊥) → way ≡ deliver_or found up
  upstream_tried u c =
      way_upstream t.tree t.services b.rank m.topic m.header u.other u.set ∙ up_tried t.tree t.services b.rank m.topic (ne_eqb b.rank n c)

  upstream_skipped : Upstream m → b.rank ≡ n → way ≡ up
  upstream_skipped u c =
      way_upstream t.tree t.services b.rank m.topic m.header u.other u.set ∙ up_skipped t.tree t.services b.rank m.topic (eq-eqb b.rank n c)

  pub way_served : (number : ℕ) → Tries b m → Registers t b m number → way ≡ Deliver number
  way_served number (Tries.any a) r = anyhow a ∙ ap (λ (f : Option ℕ). deliver_or f up) (registers_found number r)
  way_served number (Tries.upstream u c) r = upstream_tried u c ∙ ap (λ (f : Option ℕ). deliver_or f up) (registers_found number r)
  way_served number (Tries.target f e) r = there f (omega arith) ∙ ap (λ (f : Option ℕ). deliver_or f (Fail 38)) (registers_found number r)

  way_up : GoesUp t b m → way ≡ up
  way_up (GoesUp.any a none) = anyhow a ∙ ap (λ (f : Option ℕ). deliver_or f up) (none_found none)
  way_up (GoesUp.upstream u none) =
      ⊎_elim
      (λ c. upstream_skipped u (eqb-true b.rank n c))
      (λ c. upstream_tried u (eqb-false b.rank n c) ∙ ap (λ (f : Option ℕ). deliver_or f up) (none_found none))
      (outcome (eqb b.rank n))
  way_up (GoesUp.skipped u c) = upstream_skipped u c

  pub way_goes : (next : ℕ) → GoesTo t b m next → way ≡ Forward next
  way_goes next (GoesTo.up g low e) = way_up g ∙ parent_some t.tree b.rank low ∙ ap Forward (sym e)
  way_goes next (GoesTo.ahead f inside apart e) =
      way_rank t.tree t.services b.rank m.topic m.header f.other f.clear
      ∙ rank_ahead t.tree t.services b.rank m.topic n (omega arith) apart ∙ ap Forward (sym e)

  pub way_no_service : NoService t b m → way ≡ Fail 38
  way_no_service (NoService.top g e) = way_up g ∙ parent_none t.tree b.rank (omega arith)
  way_no_service (NoService.target f e none) = there f (omega arith) ∙ ap (λ (f : Option ℕ). deliver_or f (Fail 38)) (none_found none)

  pub way_no_rank : Unreachable t m → way ≡ Fail 113
  way_no_rank o =
      way_rank t.tree t.services b.rank m.topic m.header o.named.other o.named.clear
      ∙ rank_outside t.tree t.services b.rank m.topic n (omega (arith, o.outside))

  -- ---- one of them holds

  climbing : GoesUp t b m → Which t b m
  climbing g =
      ⊎_elim
      (λ e. no_service_lem (NoService.top g (omega (arith, eqb-true b.rank 0 e))))
      (λ e. goes (parent_of t.tree b.rank) (GoesTo.up g (eqb-false b.rank 0 e) refl))
      (outcome (eqb b.rank 0))

  -- the service is looked for: it is there, or it is not
  looking : Tries b m → (Unregistered t b m → Which t b m) → Which t b m
  looking tries else = go found refl
    where
      go : (f : Option ℕ) → found ≡ f → Which t b m
      go (Some number) e = served number tries (found_registers number e)
      go None e = else (found_none e)

  upstream_which : Upstream m → Which t b m
  upstream_which u =
      ⊎_elim
      (λ c. climbing (GoesUp.skipped u (eqb-true b.rank n c)))
      (λ c. looking (Tries.upstream u (eqb-false b.rank n c)) (λ none. climbing (GoesUp.upstream u none)))
      (outcome (eqb b.rank n))

  rank_which : ForRank m → Which t b m
  rank_which f = ⊎_elim (λ inside. within (ltb-true n (ranks_in t.tree) inside)) (λ outside. no_rank (record { named = f; outside = omega (arith, ltb-false n (ranks_in t.tree) outside) })) (outcome (ltb n (ranks_in t.tree)))
    where
      within : n < ranks_in t.tree → Which t b m
      within inside =
          ⊎_elim
          (λ e. looking (Tries.target f (omega (arith, eqb-true n b.rank e))) (λ none. no_service_lem (NoService.target f (omega (arith, eqb-true n b.rank e)) none)))
          (λ e. goes (towards t.tree b.rank n) (GoesTo.ahead f inside (eqb-false n b.rank e) refl))
          (outcome (eqb n b.rank))

  pub which : Which t b m
  which =
      ⊎_elim
      (λ e. looking (Tries.any (eqb-true n any_rank e)) (λ none. climbing (GoesUp.any (eqb-true n any_rank e) none)))
      (λ e.
      ⊎_elim
      (λ set. upstream_which (record { other = eqb-false n any_rank e; set = set }))
      (λ clear. rank_which (record { other = eqb-false n any_rank e; clear = clear }))
      (outcome (is_upstream m.header.flags)))
      (outcome (eqb n any_rank))

  -- ---- so each way tells its condition

  pub served_only : (number : ℕ) → way ≡ Deliver number → Tries b m × Registers t b m number
  served_only number e = go which
    where
      go : Which t b m → Tries b m × Registers t b m number
      go (served k tries r) =
          let w = way_served k tries r in
          let same : k ≡ number = cc in
          (tries, rw (← same) r)
      go (goes next g) = let w = way_goes next g in clashing cc
      go (no_service_lem s) = let w = way_no_service s in clashing cc
      go (no_rank o) = let w = way_no_rank o in clashing cc

  pub goes_only : (next : ℕ) → way ≡ Forward next → GoesTo t b m next
  goes_only next e = go which
    where
      go : Which t b m → GoesTo t b m next
      go (served k tries r) = let w = way_served k tries r in clashing cc
      go (goes k g) =
          let w = way_goes k g in
          let same : k ≡ next = cc in
          rw (← same) g
      go (no_service_lem s) = let w = way_no_service s in clashing cc
      go (no_rank o) = let w = way_no_rank o in clashing cc

  pub fails_only : (errnum : ℕ) → way ≡ Fail errnum → Fails t b m errnum
  fails_only errnum e = go which
    where
      go : Which t b m → Fails t b m errnum
      go (served k tries r) = let w = way_served k tries r in clashing cc
      go (goes k g) = let w = way_goes k g in clashing cc
      go (no_service_lem s) = let w = way_no_service s in by_service (cc) s
      go (no_rank o) = let w = way_no_rank o in by_rank (cc) o
