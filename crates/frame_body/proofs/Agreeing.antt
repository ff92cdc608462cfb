-- 7 and 8, by the counts of the parts; and how long the routing group is.
use mathlib.Core.Path.{◌≡◌, refl, sym, ap, ◌∙◌}
use mathlib.Core.Bool.{Bool, true, false, cond, ◌&&◌}
use Prim.Native.Nat.{ℕ, suc, ◌+◌, ◌<◌, ◌≤◌}
use mathlib.Core.List.{List, [], ◌∷◌, ◌++◌}
use native.Mathlib.Omega.{arith}
use native.Mathlib.Decide.{ℕ_discrete}
use lib.Dec.{eqb}
use borrow.Author.Tests.{eqb-true, lt-leb}
use lib.ListN.{length, take, length-append}
use lib.Seq.{take-append-le}
use Rattle.frame_message.specs.declared.Header.{Header}
use Rattle.frame_forms.specs.Count.{one}
use Rattle.frame_message.specs.Header.{has_topic, has_payload, has_route, parts_fit}
use Rattle.frame_message.specs.Frame.{joined, group_if}
use Rattle.frame_message.specs.Writing.{routes_good}
use Rattle.frame_message.specs.Reading.{front, final, before_empty, routes_in, topic_place, payload_place, parts_agree}
use Rattle.bytes_number.proofs.Truth.{and_right}
use Rattle.frame_message.proofs.Lists.{front-final}
use Rattle.bytes_number.specs.Number.{Bytes}
use Rattle.frame_forms.proofs.Counts.{same_test}
use Rattle.frame_message.proofs.Parts.{split, joined-append}
use Rattle.frame_message.proofs.Headers.{header_tested}
use Rattle.frame_parts.specs.declared.PartCounts.{PartCounts}
use Rattle.frame_body.specs.WorkingJudging.{parts_found, parts_wanted, group_in, Headed, Sorted}
use Rattle.frame_parts.proofs.Passing.{before_few, before-none, before_earlier}

-- ---- on numbers: n parts in front of the header, e of them in front of the first empty one; found is the same number of all parts

-- as many as are wanted, or not
record AsWanted (r : Bool) (n e found others : ℕ) : Type 0 where
  right : suc n ≡ cond r found 0 + one r + others + 1 → (n ≡ cond r e 0 + one r + others) × (cond r found 0 ≡ cond r e 0)
  wrong : n ≡ cond r e 0 + one r + others → suc n ≡ cond r found 0 + one r + others + 1

as_wanted : (r : Bool) (n e found others : ℕ) → (e ≡ n → found ≡ e + 1) → ((e ≡ n → ⊥) → found ≡ e) → AsWanted r n e found others
as_wanted false n e found others none some = record { right = λ h. (omega arith, refl); wrong = λ h. omega arith }
as_wanted true n e found others none some = go (ℕ_discrete e n)
  where
    go : Dec (e ≡ n) → AsWanted true n e found others
    go (yes same) = record { right = λ h. absurd (omega (arith, none same)); wrong = λ h. absurd (omega arith) }
    go (no other) = record { right = λ h. (omega (arith, some other), omega (arith, some other)); wrong = λ h. omega (arith, some other) }

-- ---- the parts in front of the first empty one are the first ones

before-take : (ps : List (List ℕ)) → take (length (before_empty ps)) ps ≡ before_empty ps
before-take [] = refl
before-take ([] ∷ ps) = refl
before-take ((x ∷ p) ∷ ps) = ap (λ (qs : List (List ℕ)). (x ∷ p) ∷ qs) (before-take ps)

length_cond : (r : Bool) (ps : List (List ℕ)) → length (cond r ps []) ≡ cond r (length ps) 0
length_cond true ps = refl
length_cond false ps = refl

take_cond : (r : Bool) (ps : List (List ℕ)) → take (cond r (length (before_empty ps)) 0) ps ≡ cond r (before_empty ps) []
take_cond true ps = before-take ps
take_cond false ps = refl

cond_few : (r : Bool) (ps : List (List ℕ)) → cond r (length (before_empty ps)) 0 ≤ length ps
cond_few true ps = before_few ps
cond_few false ps = omega arith

-- ---- the body

module _ (body : List ℕ) (counts : PartCounts) (h : Header) (d : Headed body counts h) where
  abbrev ps : List (List ℕ)
  ps = parts_found body

  abbrev fr : List (List ℕ)
  fr = front ps

  abbrev r : Bool
  r = has_route h.flags

  -- the sums of the code do not wrap
  pub empty_low : Bytes body → cond r counts.empty 0 ≤ 68
  empty_low b = go r
    where
      go : (t : Bool) → cond t counts.empty 0 ≤ 68
      go true = omega (arith, d.over.empty, before_few ps, (split 68 body ps b d.over.found).few)
      go false = omega arith

  head_long : length (final [] ps) ≡ 20
  head_long = (header_tested _ d.headed).long

  some : 0 < length ps
  some = go ps head_long
    where
      go : (qs : List (List ℕ)) → length (final [] qs) ≡ 20 → 0 < length qs
      go [] e = absurd (omega arith)
      go (q ∷ qs) e = omega arith

  two : fr ++ (final [] ps ∷ []) ≡ ps
  two = front-final [] ps some

  count_is : counts.count ≡ suc (length fr)
  count_is = omega (arith, d.over.count, ap length two, length-append fr (final [] ps ∷ []))

  -- no part in front of the header is empty, or one is
  empty_none : length (before_empty fr) ≡ length fr → counts.empty ≡ length (before_empty fr) + 1
  empty_none e =
      let all : before_empty ps ≡ fr ++ (final [] ps ∷ []) = ap before_empty (sym two) ∙ before-none fr (final [] ps) e (λ z. omega (arith, head_long)) in
      omega (arith, d.over.empty, ap length all, length-append fr (final [] ps ∷ []))

  before_is : (length (before_empty fr) ≡ length fr → ⊥) → before_empty ps ≡ before_empty fr
  before_is n = ap before_empty (sym two) ∙ before_earlier fr (final [] ps) n

  abbrev others : ℕ
  others = one (has_topic h.flags) + one (has_payload h.flags)

  wanted : AsWanted r (length fr) (length (before_empty fr)) counts.empty others
  wanted = as_wanted r (length fr) (length (before_empty fr)) counts.empty others empty_none (λ n. d.over.empty ∙ ap length (before_is n))

  routes_long : length (routes_in h fr) ≡ cond r (length (before_empty fr)) 0
  unfolding routes_in
  routes_long = length_cond r (before_empty fr)

  place_is : payload_place h fr + one (has_payload h.flags) ≡ cond r (length (before_empty fr)) 0 + one r + others
  unfolding payload_place topic_place
  place_is = omega (arith, routes_long)

  -- how many bytes the routing group has: those in front of the first empty part, which is the delimiter, and its size
  pub group_long : parts_agree h fr ≡ true → length (joined (group_in h fr)) ≡ cond r (counts.group + 1) 0
  unfolding parts_agree
  group_long agree = go r (eqb-true (length fr) _ (and_right (parts_fit h) _ agree) ∙ place_is)
    where
      go : (t : Bool) → length fr ≡ cond t (length (before_empty fr)) 0 + one t + others → length (joined (group_if t (before_empty fr))) ≡ cond t (counts.group + 1) 0
      go true k =
          let same = before_is (λ e. omega arith) in
          omega (arith, d.over.group, ap (λ (qs : List (List ℕ)). length (joined qs)) same, ap length (joined-append (before_empty fr) ([] ∷ [])), length-append (joined (before_empty fr)) (joined ([] ∷ [])))
      go false k = refl

  module _ (routes : ℕ) (k : routes ≡ cond r counts.empty 0) where
    -- 7 is what the code compares
    pub agree_tested : parts_agree h fr ≡ (parts_fit h && eqb counts.count (parts_wanted h.flags routes))
    unfolding parts_agree
    agree_tested =
        let place = payload_place h fr + one (has_payload h.flags) in
        let asked = parts_wanted h.flags routes in
        let to : length fr ≡ place → counts.count ≡ asked = λ e. omega (arith, count_is, wanted.wrong (omega (arith, place_is))) in
        let from : counts.count ≡ asked → length fr ≡ place = λ e. omega (arith, place_is, (wanted.right (omega (arith, count_is))).0) in
        ap (λ (t : Bool). parts_fit h && t) (same_test to from)

    module _ (agree : parts_agree h fr ≡ true) where
      both : (length fr ≡ cond r (length (before_empty fr)) 0 + one r + others) × (cond r counts.empty 0 ≡ cond r (length (before_empty fr)) 0)
      both = wanted.right (omega (arith, count_is, eqb-true counts.count (parts_wanted h.flags routes) (and_right (parts_fit h) (eqb counts.count (parts_wanted h.flags routes)) (sym agree_tested ∙ agree))))

      pub routes_is : routes ≡ length (routes_in h fr)
      routes_is = omega (arith, both.1, routes_long)

      pub routes_in_lem : routes ≤ length ps
      routes_in_lem = omega (arith, both.1, cond_few r fr, ap length two, length-append fr (final [] ps ∷ []))

      routes_are : take routes ps ≡ routes_in h fr
      unfolding routes_in
      routes_are =
          ap (take routes) (sym two) ∙ take-append-le routes fr (final [] ps ∷ []) (omega (arith, both.1, cond_few r fr))
          ∙ ap (λ (n : ℕ). take n fr) (k ∙ both.1) ∙ take_cond r fr

      pub many_routes : 64 < routes → routes_good (routes_in h fr) ≡ false
      unfolding routes_good
      many_routes m = rw (lt-leb (length (routes_in h fr)) 64 (omega (arith, routes_is)))

      pub routes_tested : routes_good (routes_in h fr) ≡ routes_good (take routes ps)
      routes_tested = ap routes_good (sym routes_are)

      pub sorted : routes_good (take routes ps) ≡ true → Sorted body counts h routes
      sorted a = record { head = d; agree = agree; count = routes_is; good = routes_tested ∙ a }
