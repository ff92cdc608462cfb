-- The last part of a body: what its place tells, and what the counting tells of the parts.
use mathlib.Core.Path.{◌≡◌, refl, sym, ap, ◌∙◌}
use mathlib.Core.Bool.{Bool, true, false}
use Prim.Native.Nat.{ℕ, ◌+◌, ◌-◌, ◌<◌, ◌≤◌}
use mathlib.Core.List.{List, [], ◌∷◌, ◌++◌, append-nil}
use native.Mathlib.Omega.{arith}
use borrow.Author.Tests.{ltb-true, ltb-false, ne_eqb}
use lib.Dec.{ltb}
use lib.ListN.{length, take, drop, length-append}
use lib.Seq.{drop-drop, drop_at, take_all}
use Rattle.bytes_number.specs.Number.{Bytes}
use Rattle.frame_message.specs.declared.Header.{Header}
use Rattle.refusal.specs.declared.Refusal.{Refusal}
use Rattle.refusal.specs.declared.Refusal.TheVariants.{HeaderWrong}
use Rattle.refusal.specs.Answer.{Answer, refused, answered, and_then}
use Rattle.frame_message.specs.Frame.{part_bytes, joined}
use Rattle.frame_message.specs.Reading.{parts_in, front, final, before_empty, header_or_why, judged_as, judged}
use Rattle.frame_message.proofs.Lists.{front-final}
use Rattle.frame_message.proofs.Headers.{Answers, header_answered}
use Rattle.frame_message.proofs.Parts.{joined-append, split, part_short, part_long}
use Rattle.frame_parts.specs.declared.PartCounts.{PartCounts}
use Rattle.std.specs.Prelude.{Ok, Err}
use Rattle.frame_parts.specs.declared.Stop.{Stop}
use Rattle.frame_header.specs.WorkingHead.{head_as}
use Rattle.frame_parts.specs.WorkingCounting.{stop_byte, counted_as, counting_of}
use Rattle.frame_parts.proofs.Passing.{before_short}
use Rattle.frame_body.specs.WorkingJudging.{parts_found, CountsOf, Headed}

-- ---- what the counting tells

not_both : {stop : Stop} {counts : PartCounts} → Err stop ≡ Ok counts → ⊥
not_both e = let z : ◌≡◌ {A = ℕ} 0 1 = cc in omega arith

pub counting_refused : (stop : ℕ) (a : Answer (List (List ℕ))) {told : Stop} → Err told ≡ counted_as stop a → a ≡ refused told.why
counting_refused stop (refused q) {told} e = let same : told ≡ record { why = q; at = stop } = cc in
    ap refused (sym (ap (λ (s : Stop). s.why) same))
counting_refused stop (answered ps) e = absurd (not_both e)

pub counting_done : (body : List ℕ) {counts : PartCounts} → Ok counts ≡ counting_of 68 body → CountsOf body counts
unfolding parts_found
counting_done body {counts} e = go (parts_in 68 body) refl e
  where
    go : (a : Answer (List (List ℕ))) → parts_in 68 body ≡ a → Ok counts ≡ counted_as (stop_byte 68 body) a → CountsOf body counts
    go (refused r) k e = absurd (not_both (sym e))
    go (answered ps) k e =
        let same : counts ≡ record { count = length ps; empty = length (before_empty ps); group = length (joined (before_empty ps)); last = length (joined (front ps)) } = cc in
        record {
          found = rw k;
          count = rw k (ap (λ (c : PartCounts). c.count) same);
          empty = rw k (ap (λ (c : PartCounts). c.empty) same);
          group = rw k (ap (λ (c : PartCounts). c.group) same);
          last = rw k (ap (λ (c : PartCounts). c.last) same);
        }

-- ---- the last part

-- a part of 20 bytes takes 21
size_of : (p : List ℕ) → (length (part_bytes p) ≡ 21 → length p ≡ 20) × (length p ≡ 20 → length (part_bytes p) ≡ 21)
size_of p = go (ltb (length p) 255) refl
  where
    go : (t : Bool) → ltb (length p) 255 ≡ t → (length (part_bytes p) ≡ 21 → length p ≡ 20) × (length p ≡ 20 → length (part_bytes p) ≡ 21)
    go true t = let size = ap length (part_short p (ltb-true _ _ t)) in ((λ e. omega (arith, size)), (λ e. omega (arith, size)))
    go false t =
        let long = ltb-false (length p) 255 t in
        let size = ap length (part_long p long) in
        ((λ e. absurd (omega (arith, size))), (λ e. absurd (omega arith)))

-- 6
not_header : (p : List ℕ) → (length p ≡ 20 → ⊥) → header_or_why p ≡ refused HeaderWrong
unfolding header_or_why
not_header p n = rw (ne_eqb (length p) 20 n)

-- what is told of a header that was read
told_wrong : (a : Answer Header) {r : Refusal} → Err r ≡ head_as a → a ≡ refused r
told_wrong (refused q) e = cc
told_wrong (answered h) e = let z : ◌≡◌ {A = ℕ} 0 1 = cc in absurd (omega arith)

told_fields : (a : Answer Header) {h : Header} → Ok h ≡ head_as a → a ≡ answered h
told_fields (refused q) e = let z : ◌≡◌ {A = ℕ} 0 1 = cc in absurd (omega arith)
told_fields (answered h) e = cc

module _ (body : List ℕ) (b : Bytes body) (counts : PartCounts) (o : CountsOf body counts) where
  abbrev ps : List (List ℕ)
  ps = parts_found body

  whole : body ≡ joined ps
  whole = (split 68 body ps b o.found).same

  judged_all : and_then (parts_in 68 body) judged ≡ judged ps
  judged_all = rw o.found

  -- the body is the parts in front of the last and the last
  halves : 0 < length ps → body ≡ joined (front ps) ++ part_bytes (final [] ps)
  halves h =
      whole ∙ ap joined (sym (front-final [] ps h)) ∙ joined-append (front ps) (final [] ps ∷ [])
      ∙ ap (λ (s : List ℕ). joined (front ps) ++ s) (append-nil (part_bytes (final [] ps)))

  -- there are parts, or there are none
  pub last_within : counts.last ≤ length body
  last_within = go ps refl
    where
      go : (qs : List (List ℕ)) → parts_found body ≡ qs → counts.last ≤ length body
      go [] e = omega (arith, o.last, ap (λ (rs : List (List ℕ)). length (joined (front rs))) e)
      go (q ∷ qs) e = omega (arith, o.last, ap length (halves (omega (arith, ap length e))), length-append (joined (front ps)) (part_bytes (final [] ps)))

  pub group_within : counts.group ≤ length body
  group_within = omega (arith, o.group, before_short ps, ap length whole)

  header_refused : {r : Refusal} → header_or_why (final [] ps) ≡ refused r → and_then (parts_in 68 body) judged ≡ refused r
  unfolding judged
  header_refused e = judged_all ∙ rw e

  -- 6, by the bytes that are left for the last part
  pub last_wrong : (length body - counts.last ≡ 21 → ⊥) → and_then (parts_in 68 body) judged ≡ refused HeaderWrong
  last_wrong n = header_refused (not_header (final [] ps) (λ e. go ps refl e))
    where
      go : (qs : List (List ℕ)) → parts_found body ≡ qs → length (final [] ps) ≡ 20 → ⊥
      go [] k e = omega (arith, ap (λ (rs : List (List ℕ)). length (final [] rs)) k)
      go (q ∷ qs) k e =
          n (omega (arith, o.last, ap length (halves (omega (arith, ap length k))), length-append (joined (front ps)) (part_bytes (final [] ps)), (size_of (final [] ps)).1 e))

  module _ (size : length body - counts.last ≡ 21) where
    some : 0 < length ps
    some = go ps refl
      where
        go : (qs : List (List ℕ)) → parts_found body ≡ qs → 0 < length ps
        go [] k = absurd (omega (arith, ap length (whole ∙ ap joined k)))
        go (q ∷ qs) k = omega (arith, ap length k)

    head_size : length (final [] ps) ≡ 20
    head_size = (size_of (final [] ps)).0 (omega (arith, o.last, ap length (halves some), length-append (joined (front ps)) (part_bytes (final [] ps))))

    -- the header's bytes, as a part of the slice has them
    pub head_bytes : take (length body - (counts.last + 1)) (drop (counts.last + 1) body) ≡ final [] ps
    head_bytes =
        let behind : drop counts.last body ≡ part_bytes (final [] ps) = ap (drop counts.last) (halves some) ∙ drop_at (joined (front ps)) (part_bytes (final [] ps)) counts.last (sym o.last) in
        let bytes : drop (counts.last + 1) body ≡ final [] ps = sym (drop-drop 1 counts.last body) ∙ rw (behind, part_short (final [] ps) (omega (arith, head_size))) in
        rw bytes (take_all (length body - (counts.last + 1)) (final [] ps) (omega (arith, head_size)))

    pub head_wrong : {r : Refusal} → Err r ≡ head_as (header_or_why (take (length body - (counts.last + 1)) (drop (counts.last + 1) body))) → and_then (parts_in 68 body) judged ≡ refused r
    head_wrong e = header_refused (ap header_or_why (sym head_bytes) ∙ told_wrong _ e)

    module _ (h : Header) (e : Ok h ≡ head_as (header_or_why (take (length body - (counts.last + 1)) (drop (counts.last + 1) body)))) (short : length body ≤ 32768) where
      read : header_or_why (final [] ps) ≡ answered h
      read = ap header_or_why (sym head_bytes) ∙ told_fields _ e

      pub headed : Headed body counts h
      headed = let a : Answers (final [] ps) h = header_answered _ _ read in
          record { over = o; short = short; headed = a.passes; same = a.same }

      pub judged_rest : and_then (parts_in 68 body) judged ≡ judged_as h (front ps)
      unfolding judged
      judged_rest = judged_all ∙ rw read
