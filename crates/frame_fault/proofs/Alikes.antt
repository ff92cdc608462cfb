-- The leading parts of a route's size: how many they are, and what they add to the counting of the others.
use mathlib.Core.Path.{◌≡◌, refl, sym, ap, subst, ◌∙◌}
use Prim.Native.Nat.{ℕ, zero, suc, ◌+◌, ◌-◌, ◌*◌, ◌<◌, ◌≤◌}
use native.Mathlib.Numerals.{add-one}
use mathlib.Core.List.{List, [], ◌∷◌, ◌++◌, append_assoc}
use native.Mathlib.Omega.{arith}
use native.Mathlib.Decide.{dec_lt}
use borrow.Author.Tests.{le-ltb}
use lib.ListN.{length, get_or, drop, length-append, length-drop}
use Rattle.bytes_number.specs.Number.{Bytes}
use Rattle.bytes_number.proofs.Numbers.{bytes_drop}
use Rattle.refusal.specs.Answer.{Answer, refused, answered}
use Rattle.frame_message.specs.Frame.{joined}
use Rattle.frame_message.specs.Reading.{parts_in, front, final, before_empty}
use Rattle.frame_message.proofs.Lists.{front_snoc, front-final}
use Rattle.frame_message.proofs.Parts.{split, joined-append}
use Rattle.std.specs.Prelude.{Result, Ok, Err, Some}
use Rattle.frame_part_size.specs.WorkingSizes.{size_at}
use Rattle.frame_part_size.proofs.Sizes.{size_short}
use Rattle.frame_parts.specs.declared.PartCounts.{PartCounts}
use Rattle.frame_parts.specs.declared.Stop.{Stop}
use Rattle.frame_parts.specs.WorkingCounting.{stop_byte, counted_as, counting_of}
use Rattle.frame_parts.proofs.Passing.{Passed, passed_none, passed_none_empty}
use Rattle.frame_fault.specs.WorkingAlike.{Alike}
use Rattle.frame_fault.proofs.Sizes.{byte_there}

-- ---- how many they are

pub alike_none : (body : List ℕ) → Alike body 0
alike_none body = record { sizes = λ k h. absurd (omega arith); behind = λ h. absurd (omega arith); most = omega arith }

pub alike_more : {body : List ℕ} {n : ℕ} → Alike body n → {at : ℕ} → at ≡ 38 * n → n < 64 → get_or body at 0 ≡ 37 → at + 38 < length body → Alike body (suc n)
alike_more {body} {n} a {at} e few size room = record { sizes = sizes; behind = λ h. omega arith; most = omega arith }
  where
    sizes : (k : ℕ) → k < suc n → get_or body (38 * k) 0 ≡ 37
    sizes k h = go (dec_lt k n)
      where
        go : Dec (k < n) → get_or body (38 * k) 0 ≡ 37
        go (yes l) = a.sizes k l
        go (no l) = let same : 38 * k ≡ at = omega arith in ap (λ (m : ℕ). get_or body m 0) same ∙ size

-- four at a time
pub alike_four : {body : List ℕ} {n at : ℕ} → Alike body n → at ≡ 38 * n → n + 4 ≤ 64 → at + 152 < length body →
    get_or body at 0 ≡ 37 → get_or body (at + 38) 0 ≡ 37 → get_or body (at + 76) 0 ≡ 37 → get_or body (at + 114) 0 ≡ 37 → Alike body (n + 4)
alike_four {body} {n} {at} a e few room one two three four =
    let a₁ = alike_more a e (omega arith) one (omega arith) in
    let a₂ = alike_more a₁ {at = at + 38} (omega arith) (omega arith) two (omega arith) in
    let a₃ = alike_more a₂ {at = at + 76} (omega arith) (omega arith) three (omega arith) in
    let a₄ = alike_more a₃ {at = at + 114} (omega arith) (omega arith) four (omega arith) in
    let last : suc (suc (suc (suc n))) ≡ n + 4 = omega arith in
    subst (Alike body) last a₄

pub alike_within : {body : List ℕ} {n : ℕ} → Alike body n → 38 * n ≤ length body
alike_within {body} {n} a = go (dec_lt 0 n)
  where
    go : Dec (0 < n) → 38 * n ≤ length body
    go (yes h) = omega (arith, a.behind h)
    go (no h) = omega arith

alike_less : {body : List ℕ} {n : ℕ} → Alike body (suc n) → Alike body n
alike_less a =
    record { sizes = λ k h. a.sizes k (omega arith); behind = λ h. omega (arith, a.behind (omega arith)); most = omega (arith, a.most) }

-- ---- they are passed as the counting would pass them

record AlikePassed (body : List ℕ) (n : ℕ) : Type 0 where
  last : ℕ
  passed : Passed 68 body (38 * n) (record { count = n; empty = n; group = 38 * n; last = last })

alike_passed : (body : List ℕ) → Bytes body → (n : ℕ) → Alike body n → AlikePassed body n
alike_passed body b zero a = record { last = 0; passed = passed_none 68 body }
alike_passed body b (suc n) a =
    let before = alike_passed body b n (alike_less a) in
    let at = 38 * n in
    let long : at + 38 < length body = omega (arith, a.behind (omega arith)) in
    let first : get_or (drop at body) 0 0 ≡ 37 = sym (byte_there body at refl) ∙ a.sizes n (omega arith) in
    let size : Some (record { start = 1; len = 37 }) ≡ size_at (drop at body) = rw (le-ltb (length (drop at body)) 38 (omega (arith, length-drop at body))) at (size_short (drop at body) 37 (omega (arith, length-drop at body)) (sym first) (omega arith)) in
    let next = passed_none_empty before.passed (λ e. omega arith) b size (λ e. omega (arith, a.most)) {n = n + 1} {e = n + 1} {g = at + 1 + 37} refl refl (λ e. omega arith) refl refl in
    let there : at + 1 + 37 ≡ 38 * suc n = omega arith in
    let C : ℕ → ℕ → PartCounts = λ m k. record { count = m; empty = m; group = k; last = at } in
    record { last = at; passed = subst (λ (m : ℕ). Passed 68 body (38 * suc n) (C m (38 * suc n))) (add-one n) (subst (λ (m : ℕ). Passed 68 body m (C (n + 1) m)) there next) }

-- ---- lists of parts

before-append : (ps qs : List (List ℕ)) → length (before_empty ps) ≡ length ps → before_empty (ps ++ qs) ≡ ps ++ before_empty qs
before-append [] qs e = refl
before-append ([] ∷ ps) qs e = absurd (omega arith)
before-append ((x ∷ p) ∷ ps) qs e = ap (λ (rs : List (List ℕ)). (x ∷ p) ∷ rs) (before-append ps qs (omega arith))

front-append : (ps qs : List (List ℕ)) → (0 < length ps → 0 < length qs) → front (ps ++ qs) ≡ ps ++ front qs
front-append [] qs h = refl
front-append (p ∷ ps) qs h =
    let some : 0 < length qs = h (omega arith) in
    let parts = p ∷ ps in
    let all : (parts ++ front qs) ++ (final [] qs ∷ []) ≡ parts ++ qs = append_assoc parts (front qs) (final [] qs ∷ []) ∙ ap (λ (rs : List (List ℕ)). parts ++ rs) (front-final [] qs some) in
    ap front (sym all) ∙ front_snoc (parts ++ front qs) (final [] qs)

-- ---- the counting of all parts, by that of the others

-- so many parts of 38 bytes in front of those that were counted
abbrev pub added : ℕ → PartCounts → PartCounts
added n c = record { count = n + c.count; empty = n + c.empty; group = 38 * n + c.group; last = 38 * n + c.last }

-- however the sums are written
pub added_as : (n : ℕ) (c : PartCounts) {s : PartCounts} {counting : Result PartCounts Stop} → s.count ≡ n + c.count → s.empty ≡ n + c.empty → s.group ≡ 38 * n + c.group → s.last ≡ 38 * n + c.last → Ok (added n c) ≡ counting → Ok s ≡ counting
added_as n c count empty group last e = (λ i. Ok (record { count = count i; empty = empty i; group = group i; last = last i })) ∙ e

module _ (body : List ℕ) (b : Bytes body) (n : ℕ) (a : Alike body n) where
  abbrev at : ℕ
  at = 38 * n

  abbrev rest : List ℕ
  rest = drop at body

  p : AlikePassed body n
  p = alike_passed body b n a

  abbrev done : List (List ℕ)
  done = p.passed.done

  no_empty : length (before_empty done) ≡ length done
  no_empty = omega (arith, p.passed.emptied, p.passed.counted)

  others_refused : (answer : Answer (List (List ℕ))) → parts_in (68 - n) rest ≡ answer → {stop : Stop} → Err stop ≡ counted_as (stop_byte (68 - n) rest) answer → Err (record { why = stop.why; at = at + stop.at }) ≡ counting_of 68 body
  others_refused (refused q) k {stop} e =
      let same : stop ≡ record { why = q; at = stop_byte (68 - n) rest } = cc in
      let whole : stop_byte 68 body ≡ at + stop.at = p.passed.stops ∙ ap (λ (s : Stop). at + s.at) (sym same) in
      let none : parts_in 68 body ≡ refused stop.why = p.passed.rest ∙ rw k (ap (λ (s : Stop). refused s.why) (sym same)) in
      rw (whole, none)
  others_refused (answered qs) k e = let z : ◌≡◌ {A = ℕ} 0 1 = cc in absurd (omega arith)

  others_counted : (answer : Answer (List (List ℕ))) → parts_in (68 - n) rest ≡ answer → {c : PartCounts} → Ok c ≡ counted_as (stop_byte (68 - n) rest) answer →
      Ok (added n c) ≡ counting_of 68 body
  others_counted (refused q) k e = let z : ◌≡◌ {A = ℕ} 0 1 = cc in absurd (omega arith)
  others_counted (answered qs) k {c} e =
      let same : c ≡ record { count = length qs; empty = length (before_empty qs); group = length (joined (before_empty qs)); last = length (joined (front qs)) } = cc in
      let all : parts_in 68 body ≡ answered (done ++ qs) = p.passed.rest ∙ rw k in
      let bytes : rest ≡ joined qs = (split (68 - n) rest qs (bytes_drop at body b) k).same in
      let some : 0 < length done → 0 < length qs = λ h. some_part qs (omega (arith, a.behind (omega (arith, p.passed.counted)), length-drop at body, ap length bytes)) in
      let before = before-append done qs no_empty in
      let count : n + c.count ≡ length (done ++ qs) = omega (arith, ap (λ (d : PartCounts). d.count) same, length-append done qs, p.passed.counted) in
      let empty : n + c.empty ≡ length (before_empty (done ++ qs)) = omega (arith, ap (λ (d : PartCounts). d.empty) same, ap length before, length-append done (before_empty qs), p.passed.counted) in
      let group : at + c.group ≡ length (joined (before_empty (done ++ qs))) = omega (arith, ap (λ (d : PartCounts). d.group) same, behind_done (before_empty (done ++ qs)) (before_empty qs) before) in
      let last : at + c.last ≡ length (joined (front (done ++ qs))) = omega (arith, ap (λ (d : PartCounts). d.last) same, behind_done (front (done ++ qs)) (front qs) (front-append done qs some)) in
      rw all (λ i. Ok (record { count = count i; empty = empty i; group = group i; last = last i }))
    where
      some_part : (qs : List (List ℕ)) → 0 < length (joined qs) → 0 < length qs
      some_part [] h = absurd (omega arith)
      some_part (q ∷ qs) h = omega arith

      behind_done : (rs qs : List (List ℕ)) → rs ≡ done ++ qs → length (joined rs) ≡ at + length (joined qs)
      behind_done rs qs e = omega (arith, ap (λ (ts : List (List ℕ)). length (joined ts)) e, ap length (joined-append done qs), length-append (joined done) (joined qs), p.passed.here)

  pub alike_refused : {stop : Stop} → Err stop ≡ counting_of (68 - n) rest → Err (record { why = stop.why; at = at + stop.at }) ≡ counting_of 68 body
  alike_refused e = others_refused (parts_in (68 - n) rest) refl e

  pub alike_counted : {c : PartCounts} → Ok c ≡ counting_of (68 - n) rest → Ok (added n c) ≡ counting_of 68 body
  alike_counted e = others_counted (parts_in (68 - n) rest) refl e
