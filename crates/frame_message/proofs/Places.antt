-- Where the parts in front of the header lie, by the flags that stand for them: routes and delimiter, topic, payload.
use mathlib.Core.Path.{◌≡◌, refl, sym, ap, ◌∙◌}
use Prim.Native.Nat.{ℕ, ◌+◌, ◌<◌, ◌≤◌}
use native.Mathlib.Nat.{add-zero}
use mathlib.Core.Bool.{Bool, true, false, cond, ◌||◌}
use mathlib.Core.List.{List, [], ◌∷◌, ◌++◌, append_assoc}
use native.Mathlib.Numerals.{add-one}
use native.Mathlib.Omega.{arith}
use lib.ListN.{length, get_or, drop, length-append, length-drop}
use lib.Seq.{get_or-drop, get_or-append-add}
use Rattle.frame_message.specs.Frame.{part_if, group_if}
use Rattle.frame_message.specs.Writing.{is_empty}
use Rattle.frame_forms.specs.Count.{one}
use Rattle.frame_message.specs.Reading.{before_empty}
use Rattle.bytes_number.proofs.Truth.{true_false}
use Rattle.frame_message.proofs.Lists.{Each, before_empty_lem, before_split}

-- the parts behind the routing group
abbrev pub behind : Bool → Bool → List ℕ → List ℕ → List (List ℕ)
behind t p topic payload = part_if t topic ++ part_if p payload

-- all the parts in front of the header
abbrev pub before : Bool → Bool → Bool → List (List ℕ) → List ℕ → List ℕ → List (List ℕ)
before r t p rs topic payload = group_if r rs ++ behind t p topic payload

-- ---- found where they were put

-- routes that are given only where their flag is set
group_length_lem : (r : Bool) (rs : List (List ℕ)) → (r || is_empty rs) ≡ true → length (group_if r rs) ≡ length rs + one r
group_length_lem true rs e = simp length-append
group_length_lem false [] e = refl
group_length_lem false (q ∷ rs) e = absurd (true_false (sym e))

behind_length : (t p : Bool) (topic payload : List ℕ) → length (behind t p topic payload) ≡ one t + one p
behind_length true true topic payload = refl
behind_length true false topic payload = refl
behind_length false true topic payload = refl
behind_length false false topic payload = refl

behind_payload : (t p : Bool) (topic payload : List ℕ) → p ≡ true → get_or (behind t p topic payload) (one t) [] ≡ payload
behind_payload true p topic payload e = rw e
behind_payload false p topic payload e = rw e

module _ (r t p : Bool) (rs : List (List ℕ)) (topic payload : List ℕ) (given : (r || is_empty rs) ≡ true) where
  pub before-length : length (before r t p rs topic payload) ≡ length rs + one r + one t + one p
  before-length = omega (arith, length-append (group_if r rs) (behind t p topic payload), group_length_lem r rs given, behind_length t p topic payload)

  before_at : (n : ℕ) → get_or (before r t p rs topic payload) (length rs + one r + n) [] ≡ get_or (behind t p topic payload) n []
  before_at n = rw (← group_length_lem r rs given) (get_or-append-add (group_if r rs) (behind t p topic payload) n [])

  pub before_topic : t ≡ true → get_or (before r t p rs topic payload) (length rs + one r) [] ≡ topic
  before_topic e = ap (λ (n : ℕ). get_or (before r t p rs topic payload) n []) (sym (add-zero _)) ∙ before_at 0 ∙ rw e

  pub before_payload : p ≡ true → get_or (before r t p rs topic payload) (length rs + one r + one t) [] ≡ payload
  before_payload e = before_at (one t) ∙ behind_payload t p topic payload e

pub before_routes : (r : Bool) (rs behind : List (List ℕ)) → Each (λ q. 0 < length q) rs → (r || is_empty rs) ≡ true → cond r (before_empty (group_if r rs ++ behind)) [] ≡ rs
before_routes true rs behind h e = rw append_assoc (before_empty_lem rs behind h)
before_routes false [] behind h e = refl
before_routes false (q ∷ rs) behind h e = absurd (true_false (sym e))

-- ---- the other way: as many parts as the flags say are these

behind_all : (t p : Bool) (qs : List (List ℕ)) → length qs ≡ one t + one p → behind t p (get_or qs 0 []) (get_or qs (one t) []) ≡ qs
behind_all true true [] e = absurd (omega arith)
behind_all true true (x ∷ []) e = absurd (omega arith)
behind_all true true (x ∷ y ∷ []) e = refl
behind_all true true (x ∷ y ∷ z ∷ qs) e = absurd (omega arith)
behind_all true false [] e = absurd (omega arith)
behind_all true false (x ∷ []) e = refl
behind_all true false (x ∷ y ∷ qs) e = absurd (omega arith)
behind_all false true [] e = absurd (omega arith)
behind_all false true (x ∷ []) e = refl
behind_all false true (x ∷ y ∷ qs) e = absurd (omega arith)
behind_all false false [] e = refl
behind_all false false (x ∷ qs) e = absurd (omega arith)

group_all : (r : Bool) (ps : List (List ℕ)) → length (cond r (before_empty ps) []) + one r ≤ length ps →
    group_if r (before_empty ps) ++ drop (length (cond r (before_empty ps) []) + one r) ps ≡ ps
group_all true ps h = rw (append_assoc, add-one) (before_split ps (omega arith))
group_all false ps h = refl

pub before_all : (r t p : Bool) (ps : List (List ℕ)) (k : ℕ) → k ≡ length (cond r (before_empty ps) []) + one r → length ps ≡ k + one t + one p →
    before r t p (before_empty ps) (get_or ps k []) (get_or ps (k + one t) []) ≡ ps
before_all r t p ps k place long =
    let topic : get_or (drop k ps) 0 [] ≡ get_or ps k [] = get_or-drop k ps 0 [] ∙ ap (λ (n : ℕ). get_or ps n []) (add-zero k) in
    let payload : get_or (drop k ps) (one t) [] ≡ get_or ps (k + one t) [] = get_or-drop k ps (one t) [] in
    let left : length (drop k ps) ≡ one t + one p = simp length-drop (omega arith) in
    rw (← topic, ← payload, behind_all t p (drop k ps) left, place) (group_all r ps (omega arith))

-- ---- a part that is kept only where its flag is set

pub kept : {A : Type 0} (flag : Bool) (p q : List A) → (flag || is_empty p) ≡ true → (flag ≡ true → q ≡ p) → cond flag q [] ≡ p
kept true p q e same = same refl
kept false [] q e same = refl
kept false (x ∷ p) q e same = absurd (true_false (sym e))

pub kept_given : {A : Type 0} (flag : Bool) (q : List A) → (flag || is_empty (cond flag q [])) ≡ true
kept_given true q = refl
kept_given false q = refl

pub kept_group : (r : Bool) (rs : List (List ℕ)) → group_if r (cond r rs []) ≡ group_if r rs
kept_group true rs = refl
kept_group false rs = refl

kept_part : (flag : Bool) (p q : List ℕ) → (flag ≡ true → q ≡ p) → part_if flag q ≡ part_if flag p
kept_part true p q same = ap (λ (x : List ℕ). x ∷ []) (same refl)
kept_part false p q same = refl

-- what is kept without its flag is no part
pub before_kept : (r t p : Bool) (rs : List (List ℕ)) (topic shown payload : List ℕ) → (t ≡ true → shown ≡ topic) →
    before r t p (cond r rs []) shown (cond p payload []) ≡ before r t p rs topic payload
before_kept r t p rs topic shown payload same =
    let paid : part_if p (cond p payload []) ≡ part_if p payload = kept_part p payload _ (λ e. rw e) in
    rw (kept_group r rs, kept_part t topic shown same, paid)
