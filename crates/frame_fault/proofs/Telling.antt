-- Why a body is refused whose parts were counted: what the tests of the code tell.
use mathlib.Core.Path.{◌≡◌, refl, sym, ap, ◌∙◌}
use Prim.Native.Nat.{ℕ, ◌+◌, ◌<◌, ◌≤◌}
use mathlib.Core.Bool.{Bool, true, false, cond, ◌&&◌}
use mathlib.Core.List.{List, []}
use native.Mathlib.Omega.{arith}
use borrow.Author.Tests.{le-leb}
use lib.Dec.{eqb, leb}
use lib.ListN.{length, get_or}
use Rattle.bytes_number.specs.Number.{Bytes}
use Rattle.refusal.specs.declared.Refusal.TheVariants.{PartsDisagree, RouteWrong}
use Rattle.refusal.specs.Answer.{Answer, and_then}
use Rattle.frame_message.specs.declared.Header.{Header}
use Rattle.frame_message.specs.Header.{has_route, parts_fit, header_in}
use Rattle.frame_message.specs.Message.{Message}
use Rattle.frame_message.specs.Working.{is_header}
use Rattle.frame_message.specs.Reading.{parts_in, front, final, parts_agree, judged_as, judged}
use Rattle.frame_message.proofs.Headers.{header_tested, header_answers}
use Rattle.frame_message.proofs.Parts.{split}
use Rattle.std.specs.Prelude.{Ok}
use Rattle.frame_parts.specs.declared.PartCounts.{PartCounts}
use Rattle.frame_layout.specs.declared.Layout.{Layout}
use Rattle.frame_layout.specs.WorkingPlacing.{read_as}
use Rattle.frame_body.specs.WorkingJudging.{parts_found, parts_wanted, CountsOf, Headed}
use Rattle.frame_body.proofs.Agreeing.{empty_low, agree_tested, many_routes}
use Rattle.frame_body.proofs.Sorting.{judged_parts, judged_routes}
use Rattle.frame_body.proofs.Readings.{accepted_read}
use Rattle.frame_fault.specs.Fault.{header_of_parts, fault_number}
use Rattle.frame_fault.specs.WorkingFaults.{IsRefused}
use Rattle.frame_fault.proofs.Parts.{header-byte}

-- ---- the number of what is read

pub accepted_number : (a : Answer Message) {l : Layout} → Ok l ≡ read_as a → 0 ≡ fault_number a
accepted_number a e = sym (ap fault_number (accepted_read a e).is)

-- ---- 7 and 8, by the header's type and flags

-- whether the flags fit the type depends on nothing else
fit_same : (h : Header) {kind flags : ℕ} → kind ≡ h.kind → flags ≡ h.flags → parts_fit (record { kind = kind; flags = flags; userid = 0; rolemask = 0; first = 0; second = 0 }) ≡ parts_fit h
unfolding parts_fit
fit_same h ek ef = rw (ek, ef)

module _ (body : List ℕ) (b : Bytes body) (counts : PartCounts) (o : CountsOf body counts) (short : length body ≤ 32768) (is : is_header (final [] (parts_found body)) ≡ true) where
  abbrev ps : List (List ℕ)
  ps = parts_found body

  abbrev h : Header
  h = header_of_parts ps

  headed : Headed body counts h
  headed = record { over = o; short = short; headed = is; same = refl }

  -- a byte of the header
  head_byte : (k : ℕ) → get_or body (counts.last + 1 + k) 0 ≡ get_or (final [] ps) k 0
  head_byte k = ap (λ (m : ℕ). get_or body (m + 1 + k) 0) o.last ∙ header-byte ps (header_tested _ is).long body (split 68 body ps b o.found).same k

  rest : and_then (parts_in 68 body) judged ≡ judged_as h (front ps)
  unfolding judged
  rest = ap (λ (a : Answer (List (List ℕ))). and_then a judged) o.found ∙ rw (header_answers (final [] ps) is)

  -- type and flags, where they were read
  module _ {kind flags routes i j : ℕ} (ek : kind ≡ get_or body i 0) (ei : i ≡ counts.last + 3) (ef : flags ≡ get_or body j 0) (ej : j ≡ counts.last + 4) (er : routes ≡ cond (has_route flags) counts.empty 0) where
    kind_is : kind ≡ h.kind
    unfolding header_in
    kind_is =
        let there : i ≡ counts.last + 1 + 2 = omega arith in
        ek ∙ ap (λ (m : ℕ). get_or body m 0) there ∙ head_byte 2

    flags_are : flags ≡ h.flags
    unfolding header_in
    flags_are =
        let there : j ≡ counts.last + 1 + 3 = omega arith in
        ef ∙ ap (λ (m : ℕ). get_or body m 0) there ∙ head_byte 3

    routes_are : routes ≡ cond (has_route h.flags) counts.empty 0
    routes_are = er ∙ ap (λ (f : ℕ). cond (has_route f) counts.empty 0) flags_are

    abbrev asked : Bool
    asked = leb routes 68 && (parts_fit (record { kind = kind; flags = flags; userid = 0; rolemask = 0; first = 0; second = 0 }) && eqb counts.count (parts_wanted flags routes))

    agree_told : {t : Bool} → t ≡ asked → parts_agree h (front ps) ≡ t
    agree_told e =
        let few = le-leb routes 68 (omega (arith, routes_are, empty_low body counts h headed b)) in
        let fit = fit_same h kind_is flags_are in
        agree_tested body counts h headed routes routes_are
        ∙ ap (λ (f : ℕ). parts_fit h && eqb counts.count (parts_wanted f routes)) (sym flags_are)
        ∙ ap (λ (t : Bool). t && eqb counts.count (parts_wanted flags routes)) (sym fit)
        ∙ ap (λ (t : Bool). t && (parts_fit (record { kind = kind; flags = flags; userid = 0; rolemask = 0; first = 0; second = 0 }) && eqb counts.count (parts_wanted flags routes))) (sym few)
        ∙ sym e

    pub early_parts : {t : Bool} → t ≡ asked → t ≡ false → IsRefused body PartsDisagree
    early_parts e wrong = rest ∙ judged_parts _ _ (agree_told e ∙ wrong)

    pub early_routes : {t : Bool} → t ≡ asked → t ≡ true → 64 < routes → IsRefused body RouteWrong
    early_routes e right many =
        let agree = agree_told e ∙ right in
        rest ∙ judged_routes _ _ agree (many_routes body counts h headed routes routes_are agree many)
