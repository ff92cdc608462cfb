-- Where a string ends, byte by byte at a place; and that it is read on from there.
use Rattle.std.specs.Prelude.{Ok, Err}
use mathlib.Core.Path.{◌≡◌, refl, sym, ap, subst, subst⁻¹, ◌∙◌}
use mathlib.Core.Bool.{Bool, true, false, cond}
use mathlib.Core.List.{List, [], ◌∷◌}
use mathlib.Core.Logic.{⊎_elim}
use Prim.Native.Nat.{ℕ, zero, suc, ◌+◌, ◌<◌, ◌≤◌}
use native.Mathlib.Omega.{arith}
use borrow.Author.Tests.{ltb-true, ltb-false}
use lib.Dec.{eqb, ltb}
use lib.ListN.{length, drop, get_or, drop_of_length-le}
use Rattle.bytes_number.proofs.Truth.{outcome}
use Rattle.json_scan.specs.WorkingEnds.{Reached}
use Rattle.json_scan.specs.Scan.{is_within, is_escape, Class, hex, holds, tails_of, Kind, Due, behind, State, between, text, escape, rest, nowhere, to, text_move, escape_move, remaining, move_of, is_ended}
use Rattle.json_scan.specs.WorkingEnds.{end_of, rest_end, followed}
use Rattle.json_scan.specs.WorkingReads.{place_of, came, ReadsOn}
use Rattle.json_scan.proofs.Scanning.{drop_at, inside as inside_bytes}
use Rattle.json_utf8.specs.WorkingCharacters.{character_end}
use Rattle.json_utf8.proofs.Leads.{no_lead_below}
use Rattle.json_scan.proofs.Leading.{passes_to}
use Rattle.json_scan.proofs.Reading.{Takes, ReadsText, reads_last, reads_more, reads_wrong, reads_over, takes_more}
use Rattle.json_scan.proofs.Rest.{rest_more, rest_wrong, rest_over, rest_on, rest_off, rest_onward}
use Rattle.json_plain.specs.WorkingPlain.{is_plain}
use Rattle.json_string.specs.WorkingText.{is_between, text_on, text_from, text_end, Escaped}
use Rattle.json_string.proofs.Steps.{text_plain, text_backslash, text_lead, text_wrong}

-- ---- one byte, from a place on

pub from_over : (state : State) (bytes : List ℕ) (at : ℕ) → length bytes ≤ at → text_from state at (drop at bytes) ≡ Err at
unfolding text_from
from_over state bytes at l = ap (text_from state at) (drop_of_length-le bytes l)

module _ (state : State) (bytes : List ℕ) (at : ℕ) (l : at < length bytes) where
  abbrev onward : State → Reached
  onward state₁ = text_from state₁ (at + 1) (drop (at + 1) bytes)

  first : text_from state at (drop at bytes) ≡ text_on at onward (move_of state [] (get_or bytes at 0))
  unfolding text_from
  first = ap (text_from state at) (drop_at bytes at l)

  -- it leads on in the string
  pub from_on : (state₁ : State) → is_between state₁ ≡ false → move_of state [] (get_or bytes at 0) ≡ to state₁ [] → text_from state at (drop at bytes) ≡ text_from state₁ (at + 1) (drop (at + 1) bytes)
  from_on state₁ within e = first ∙ ap (text_on at onward) e ∙ ap (λ (t : Bool). cond t (Ok (at + 1)) (onward state₁)) within

  -- it is the closing mark
  pub from_closed : (due : Due) → move_of state [] (get_or bytes at 0) ≡ to (between due) [] → text_from state at (drop at bytes) ≡ Ok (at + 1)
  from_closed due e = first ∙ ap (text_on at onward) e

  pub from_wrong : move_of state [] (get_or bytes at 0) ≡ nowhere → text_from state at (drop at bytes) ≡ Err at
  from_wrong e = first ∙ ap (text_on at onward) e

-- it leads nowhere, or there is none
pub from_stuck : (state : State) (bytes : List ℕ) (at : ℕ) → (at < length bytes → move_of state [] (get_or bytes at 0) ≡ nowhere) → text_from state at (drop at bytes) ≡ Err at
from_stuck state bytes at e =
    ⊎_elim (λ t. let l = ltb-true at (length bytes) t in from_wrong state bytes at l (e l)) (λ t. from_over state bytes at (ltb-false at (length bytes) t)) (outcome (ltb at (length bytes)))

-- ---- several bytes

-- those that stand for themselves
pub text_passes : (bytes : List ℕ) (at : ℕ) → text_end at (drop at bytes) ≡ text_end (end_of is_plain bytes at) (drop (end_of is_plain bytes at) bytes)
unfolding text_from
text_passes = passes_to (text_from (text behind)) is_plain (λ at c cs e. ap (text_on at (λ state₁. text_from state₁ (at + 1) cs)) (text_plain behind [] c e))

-- those that are still to come of a character or an escape
within : (ks : List Class) → is_between (remaining ks (text behind)) ≡ false
within [] = refl
within (k ∷ ks) = refl

module _ (bytes : List ℕ) where
  -- behind those the string goes on
  abbrev next : ℕ → Reached
  next i = text_end i (drop i bytes)

  one_more :
      (k : Class) (ks : List Class) (at : ℕ) → text_from (remaining ks (text behind)) (at + 1) (drop (at + 1) bytes) ≡ followed (rest_end ks (at + 1) (drop (at + 1) bytes)) next →
      text_from (rest k ks (text behind)) at (drop at bytes) ≡ followed (rest_end (k ∷ ks) at (drop at bytes)) next
  one_more k ks at again =
      ⊎_elim
      (λ t. let l = ltb-true at (length bytes) t in
      ⊎_elim
      (λ e. from_on _ bytes at l (remaining ks (text behind)) (within ks) (rest_on k ks (text behind) [] _ e) ∙ again ∙ by (rest_more k ks bytes at l e))
      (λ e. from_wrong _ bytes at l (rest_off k ks (text behind) [] _ e) ∙ by (rest_wrong k ks bytes at l e))
      (outcome (holds k (get_or bytes at 0))))
      (λ t. let l = ltb-false at (length bytes) t in from_over _ bytes at l ∙ by (rest_over k ks bytes at l))
      (outcome (ltb at (length bytes)))
    where
      by : {r : Reached} → rest_end (k ∷ ks) at (drop at bytes) ≡ r → followed r next ≡ followed (rest_end (k ∷ ks) at (drop at bytes)) next
      by e = ap (λ (x : Reached). followed x next) (sym e)

  pub text_rest : (ks : List Class) (at : ℕ) → text_from (remaining ks (text behind)) at (drop at bytes) ≡ followed (rest_end ks at (drop at bytes)) next
  unfolding rest_end
  text_rest [] at = refl
  text_rest (k ∷ ks) at = one_more k ks at (text_rest ks (at + 1))

-- ---- an escape and a character, from the first byte on

-- how far it came, and how the string goes on there
pub record Goes (bytes : List ℕ) (at : ℕ) (r : Reached) : Type 0 where
  pub same : text_end at (drop at bytes) ≡ followed r (next bytes)
  pub onward : (j : ℕ) → r ≡ Ok j → (at < length bytes) × (at < j)

-- a place that lies in front of where it stops lies in front of where it comes to
further : {at n : ℕ} (r : Reached) → at < n → n ≤ place_of (came r) → (j : ℕ) → r ≡ Ok j → at < j
further {at} {n} r l m j e = let on : n ≤ j = subst (λ (x : Reached). n ≤ place_of (came x)) e m in omega (arith, l, on)

pub text_escaped : {bytes : List ℕ} {r : Reached} (at : ℕ) → at < length bytes → get_or bytes at 0 ≡ 92 → Escaped bytes (at + 1) r → Goes bytes at r
text_escaped {bytes} {r} at l mark e =
    record {
      same = from_on (text behind) bytes at l (escape behind) refl (text_backslash behind [] _ mark) ∙ e.same;
      onward = λ j is. (l, further r (omega arith) e.onward j is);
    }

abbrev Stops : Reached → Type 0
Stops (Ok i) = ⊥
Stops (Err i) = Unit {0}

-- a character of two bytes or more
module _ (bytes : List ℕ) (at : ℕ) where
  abbrev lead : ℕ
  lead = get_or bytes at 0

  abbrev tails : List ℕ
  tails = drop (at + 1) bytes

  -- a byte that is neither a mark, nor a backslash, nor stands for itself
  module _ (f : 32 ≤ lead → 127 < lead) (q : lead ≡ 92 → ⊥) where
    character_goes : (ks : List Class) → tails_of lead ≡ ks → Goes bytes at (character_end at ks tails)
    character_goes [] e = record { same = from_stuck (text behind) bytes at (λ l. text_wrong behind [] lead f q e); onward = λ j e. absurd (subst Stops e tt) }
    character_goes (k ∷ ks) e =
        record {
          same = from_on (text behind) bytes at there (rest k ks (text behind)) refl (text_lead behind [] lead f q e) ∙ text_rest bytes (k ∷ ks) (at + 1);
          onward = λ j is. (there, further (rest_end (k ∷ ks) (at + 1) tails) (omega arith) (rest_onward bytes (k ∷ ks) (at + 1)) j is);
        }
      where
        there : at < length bytes
        there = inside_bytes bytes at (λ z. omega (arith, ap (λ (ks : List Class). length ks) e, no_lead_below lead (omega (arith, z))))

    pub text_wide : {r : Reached} → r ≡ character_end at (tails_of lead) tails → Goes bytes at r
    text_wide is = subst⁻¹ (Goes bytes at) is (character_goes (tails_of lead) refl)

-- ---- it reads on

-- where it stands in a string: behind a character, behind a backslash, or with these bytes still to come
data Part : Type 0 where
  whole : Part
  marked : Part
  broken : Class → List Class → Part

abbrev state_of : Part → Due → State
state_of whole due = text due
state_of marked due = escape due
state_of (broken k ks) due = rest k ks (text due)

going : (p : Part) (due : Due) → is_ended (state_of p due) ≡ false
going whole due = refl
going marked due = refl
going (broken k ks) due = refl

inside : (p : Part) (due : Due) → is_between (state_of p due) ≡ false
inside whole due = refl
inside marked due = refl
inside (broken k ks) due = refl

-- what a byte does there, whatever is open around the string and due behind it
data Turn (p : Part) (c : ℕ) : Type 0 where
  on : (q : Part) → ((due : Due) (around : List Kind) → move_of (state_of p due) around c ≡ to (state_of q due) around) → Turn p c
  closed : ((due : Due) (around : List Kind) → move_of (state_of p due) around c ≡ to (between due) around) → Turn p c
  stuck : ((due : Due) (around : List Kind) → move_of (state_of p due) around c ≡ nowhere) → Turn p c

turn_text : (c : ℕ) → Turn whole c
unfolding move_of text_move
turn_text c = go (eqb c 34) (eqb c 92) (is_within 32 127 c) (tails_of c) refl refl refl refl
  where
    go : (q b w : Bool) (ks : List Class) → eqb c 34 ≡ q → eqb c 92 ≡ b → is_within 32 127 c ≡ w → tails_of c ≡ ks → Turn whole c
    go true b w ks e f g h = closed (λ due around. rw e refl)
    go false true w ks e f g h = on marked (λ due around. rw (e, f) refl)
    go false false true ks e f g h = on whole (λ due around. rw (e, f, g) refl)
    go false false false [] e f g h = stuck (λ due around. rw (e, f, g, h) refl)
    go false false false (k ∷ ks) e f g h = on (broken k ks) (λ due around. rw (e, f, g, h) refl)

turn_escape : (c : ℕ) → Turn marked c
unfolding move_of escape_move
turn_escape c = go (is_escape c) (eqb c 117) refl refl
  where
    go : (t u : Bool) → is_escape c ≡ t → eqb c 117 ≡ u → Turn marked c
    go true u e f = on whole (λ due around. rw e refl)
    go false true e f = on (broken hex (hex ∷ hex ∷ hex ∷ [])) (λ due around. rw (e, f) refl)
    go false false e f = stuck (λ due around. rw (e, f) refl)

turn_rest : (k : Class) (ks : List Class) (c : ℕ) → Turn (broken k ks) c
turn_rest k ks c = go ks (holds k c) refl
  where
    go : (ks : List Class) (t : Bool) → holds k c ≡ t → Turn (broken k ks) c
    go [] true e = on whole (λ due around. rest_on k [] (text due) around c e)
    go (k₁ ∷ ks₁) true e = on (broken k₁ ks₁) (λ due around. rest_on k (k₁ ∷ ks₁) (text due) around c e)
    go [] false e = stuck (λ due around. rest_off k [] (text due) around c e)
    go (k₁ ∷ ks₁) false e = stuck (λ due around. rest_off k (k₁ ∷ ks₁) (text due) around c e)

turn : (p : Part) (c : ℕ) → Turn p c
turn whole c = turn_text c
turn marked c = turn_escape c
turn (broken k ks) c = turn_rest k ks c

module _ (bytes : List ℕ) where
  -- from a place on, and so much was read
  abbrev Reads : Part → ℕ → Reached → Type 0
  Reads p at r = ((due : Due) (room : ℕ) → ReadsOn bytes room at (state_of p due) (between due) (came r)) × Takes at (came r)

  abbrev from : Part → ℕ → Reached
  from p at = text_from (state_of p behind) at (drop at bytes)

  by : (p : Part) (at : ℕ) {r : Reached} → from p at ≡ r → Reads p at r → Reads p at (from p at)
  by p at e = subst⁻¹ (Reads p at) e

  at_byte : (p : Part) (at : ℕ) → at < length bytes → ((q : Part) → Reads q (at + 1) (from q (at + 1))) → Turn p (get_or bytes at 0) → Reads p at (from p at)
  at_byte p at l again (on q e) =
      by p at (from_on (state_of p behind) bytes at l (state_of q behind) (inside q behind) (e behind []))
      (λ due room. reads_more (state_of q due) l (e due) ((again q).0 due room), takes_more (at + 1) (came (from q (at + 1))) (omega arith) (again q).1)
  at_byte p at l again (closed e) = by p at (from_closed (state_of p behind) bytes at l behind (e behind [])) (λ due room. reads_last l (e due), omega arith)
  at_byte p at l again (stuck e) = by p at (from_wrong (state_of p behind) bytes at l (e behind [])) (λ due room. reads_wrong l (e due), tt)

  -- with at most so many bytes left
  reads : (n : ℕ) (p : Part) (at : ℕ) → length bytes ≤ at + n → Reads p at (from p at)
  reads zero p at few = let over : length bytes ≤ at = omega arith in
      by p at (from_over (state_of p behind) bytes at over) (λ due room. reads_over over (going p due), tt)
  reads (suc n) p at few =
      ⊎_elim
      (λ t. at_byte p at (ltb-true at (length bytes) t) (λ q. reads n q (at + 1) (omega arith)) (turn p (get_or bytes at 0)))
      (λ t. let over = ltb-false at (length bytes) t in by p at (from_over (state_of p behind) bytes at over) (λ due room. reads_over over (going p due), tt))
      (outcome (ltb at (length bytes)))

  pub text_reads : (at : ℕ) → ReadsText bytes at text between (came (text_end at (drop at bytes)))
  text_reads at = (reads (length bytes) whole at (omega arith)).0

  pub text_takes : (at : ℕ) → Takes at (came (text_end at (drop at bytes)))
  text_takes at = (reads (length bytes) whole at (omega arith)).1
