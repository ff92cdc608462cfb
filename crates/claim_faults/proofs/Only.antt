-- No other byte meets a row: parts can be taken apart in one way only.
use mathlib.Core.Path.{◌≡◌, refl, sym, ap, ◌∙◌}
use Prim.Native.Nat.{ℕ, ◌+◌, ◌<◌, ◌≤◌}
use mathlib.Core.Bool.{true, false}
use mathlib.Core.List.{List, [], ◌∷◌, ◌++◌, append_assoc}
use native.Mathlib.Omega.{arith}
use lib.ListN.{length, get_or, length-append}
use Rattle.bytes_number.proofs.Truth.{true_false, and_left, and_right}
use Rattle.refusal.specs.Answer.{answered}
use Rattle.refusal.proofs.Answers.{answered_same}
use Rattle.frame_forms.specs.Forms.{is_route}
use Rattle.frame_message.specs.Header.{has_route}
use Rattle.frame_message.specs.Frame.{part_bytes, joined, group_if}
use Rattle.frame_message.specs.Writing.{all_routes}
use Rattle.frame_message.specs.Reading.{first_part, front, before_empty, body_length}
use Rattle.frame_message.proofs.Lists.{Each, front_snoc}
use Rattle.frame_message.proofs.Parts.{Sized, first_join, joined_sized}
use Rattle.frame_parts.proofs.Passing.{joined_snoc, part_has_size}
use Rattle.frame_fault.specs.Fault.{body_in, size_byte}
use Rattle.claim_faults.specs.Faults.{data_byte, header_at, NoPart, HeaderIn, RightHeader, FaultAt, size_wrong, too_many, no_part, length_wrong, parts_disagree, route_wrong, route_65, topic_wrong, nodeid_wrong, unused_wrong, magic_wrong, version_wrong, type_wrong, flag_wrong}
use Rattle.claim_faults.proofs.Frames.{body_long}

-- ---- one part, and what is behind it

module _ (p q s t : List ℕ) (ps : Sized p) (qs : Sized q) (e : part_bytes p ++ s ≡ part_bytes q ++ t) where
  same_cut : ◌≡◌ {A = List ℕ × List ℕ} (p, s) (q, t)
  same_cut =
      let one = first_join p s ps in
      let two = first_join q t qs in
      let cons : one.size ∷ one.left ≡ two.size ∷ two.left = sym one.same ∙ e ∙ two.same in
      let size : one.size ≡ two.size = cc in
      let left : one.left ≡ two.left = cc in
      let read : first_part one.size one.left ≡ answered (q, t) = rw (size, left) two.read in
      answered_same (sym one.read ∙ read)

  same_part : p ≡ q
  same_part = ap (λ (c : List ℕ × List ℕ). c.0) same_cut

  same_rest : s ≡ t
  same_rest = ap (λ (c : List ℕ × List ℕ). c.1) same_cut

-- ---- several parts

-- in front of what begins with no part
same_front : (ps qs : List (List ℕ)) (s t : List ℕ) → Each Sized ps → Each Sized qs → NoPart s → NoPart t → joined ps ++ s ≡ joined qs ++ t → ps ≡ qs
same_front [] [] s t zs ws no₁ no₂ e = refl
same_front [] (q ∷ qs) s t zs ws no₁ no₂ e = absurd (no₁.none q (joined qs ++ t) ws.0 (e ∙ append_assoc (part_bytes q) (joined qs) t))
same_front (p ∷ ps) [] s t zs ws no₁ no₂ e = absurd (no₂.none p (joined ps ++ s) zs.0 (sym e ∙ append_assoc (part_bytes p) (joined ps) s))
same_front (p ∷ ps) (q ∷ qs) s t zs ws no₁ no₂ e =
    let cut : part_bytes p ++ (joined ps ++ s) ≡ part_bytes q ++ (joined qs ++ t) = sym (append_assoc (part_bytes p) (joined ps) s) ∙ e ∙ append_assoc (part_bytes q) (joined qs) t in
    let first = same_part p q (joined ps ++ s) (joined qs ++ t) zs.0 ws.0 cut in
    let rest = same_front ps qs s t zs.1 ws.1 no₁ no₂ (same_rest p q (joined ps ++ s) (joined qs ++ t) zs.0 ws.0 cut) in
    rw (first, rest)

-- as many of them
same_many : (ps qs : List (List ℕ)) (s t : List ℕ) → Each Sized ps → Each Sized qs → length ps ≡ length qs → joined ps ++ s ≡ joined qs ++ t → ps ≡ qs
same_many [] [] s t zs ws l e = refl
same_many [] (q ∷ qs) s t zs ws l e = absurd (omega arith)
same_many (p ∷ ps) [] s t zs ws l e = absurd (omega arith)
same_many (p ∷ ps) (q ∷ qs) s t zs ws l e =
    let cut : part_bytes p ++ (joined ps ++ s) ≡ part_bytes q ++ (joined qs ++ t) = sym (append_assoc (part_bytes p) (joined ps) s) ∙ e ∙ append_assoc (part_bytes q) (joined qs) t in
    let first = same_part p q (joined ps ++ s) (joined qs ++ t) zs.0 ws.0 cut in
    let rest = same_many ps qs s t zs.1 ws.1 (omega arith) (same_rest p q (joined ps ++ s) (joined qs ++ t) zs.0 ws.0 cut) in
    rw (first, rest)

-- all of them
same_all : (ps qs : List (List ℕ)) → Each Sized ps → Each Sized qs → joined ps ≡ joined qs → ps ≡ qs
same_all [] [] zs ws e = refl
same_all [] (q ∷ qs) zs ws e = absurd (omega (arith, ap length e, length-append (part_bytes q) (joined qs), part_has_size q))
same_all (p ∷ ps) [] zs ws e = absurd (omega (arith, ap length e, length-append (part_bytes p) (joined ps), part_has_size p))
same_all (p ∷ ps) (q ∷ qs) zs ws e =
    let first = same_part p q (joined ps) (joined qs) zs.0 ws.0 e in
    let rest = same_all ps qs zs.1 ws.1 (same_rest p q (joined ps) (joined qs) zs.0 ws.0 e) in
    rw (first, rest)

-- ---- routes: the first that is none, or the one behind 64

-- an element that is no route stands behind those that are
same_routes : (rs ts : List (List ℕ)) (r t : List ℕ) (behind after : List (List ℕ)) → rs ++ r ∷ behind ≡ ts ++ t ∷ after → all_routes rs ≡ true → all_routes ts ≡ true → (length rs < length ts → is_route r ≡ false) → (length ts < length rs → is_route t ≡ false) → (rs ≡ ts) × (r ≡ t)
same_routes [] [] r t behind after e a b f g = (refl, cc)
same_routes [] (u ∷ ts) r t behind after e a b f g =
    let first : r ≡ u = cc in
    absurd (true_false (sym (and_left (is_route u) (all_routes ts) b) ∙ ap is_route (sym first) ∙ f (omega arith)))
same_routes (u ∷ rs) [] r t behind after e a b f g =
    let first : u ≡ t = cc in
    absurd (true_false (sym (and_left (is_route u) (all_routes rs) a) ∙ ap is_route first ∙ g (omega arith)))
same_routes (u ∷ rs) (v ∷ ts) r t behind after e a b f g =
    let first : u ≡ v = cc in
    let rest : rs ++ r ∷ behind ≡ ts ++ t ∷ after = cc in
    let same = same_routes rs ts r t behind after rest (and_right (is_route u) (all_routes rs) a) (and_right (is_route v) (all_routes ts) b) (λ l. f (omega arith)) (λ l. g (omega arith)) in
    (rw (first, same.0), same.1)

-- two lists that go on from the same front
same_next : (group : List (List ℕ)) (t u : List ℕ) (behind after : List (List ℕ)) → group ++ t ∷ behind ≡ group ++ u ∷ after → t ≡ u
same_next [] t u behind after e = cc
same_next (g ∷ group) t u behind after e =
    let rest : group ++ t ∷ behind ≡ group ++ u ∷ after = cc in
    same_next group t u behind after rest

-- ---- the rows

module _ (b : List ℕ) (fits : 8 + body_length b ≤ length b) (low : body_length b ≤ 32768) where
  sized : (ps : List (List ℕ)) (s : List ℕ) → body_in b ≡ joined ps ++ s → Each Sized ps
  sized ps s e = joined_sized ps (omega (arith, body_long b fits, ap length e, length-append (joined ps) s))

  sized_all : (ps : List (List ℕ)) → body_in b ≡ joined ps → Each Sized ps
  sized_all ps e = joined_sized ps (omega (arith, body_long b fits, ap length e))

  -- the parts in front of the last
  same_ahead : (ps qs : List (List ℕ)) (p q : List ℕ) → body_in b ≡ joined (ps ++ (p ∷ [])) → body_in b ≡ joined (qs ++ (q ∷ [])) → ps ≡ qs
  same_ahead ps qs p q e k =
      let all = same_all (ps ++ (p ∷ [])) (qs ++ (q ∷ [])) (sized_all (ps ++ (p ∷ [])) e) (sized_all (qs ++ (q ∷ [])) k) (sym e ∙ k) in
      sym (front_snoc ps p) ∙ ap front all ∙ front_snoc qs q

  same_header : {ps qs : List (List ℕ)} {p q : List ℕ} → HeaderIn b ps p → HeaderIn b qs q → ps ≡ qs
  same_header {ps} {qs} {p} {q} h k = same_ahead ps qs p q h.whole k.whole

  -- one part at the least is no empty body
  not_empty : (ps : List (List ℕ)) (p : List ℕ) → body_in b ≡ joined (ps ++ (p ∷ [])) → body_in b ≡ [] → ⊥
  not_empty ps p e k = omega (arith, ap length (sym e ∙ k), ap length (joined_snoc ps p), length-append (joined ps) (part_bytes p), part_has_size p)

  -- the same route in the same place
  same_route : {ps qs : List (List ℕ)} {p q : List ℕ} → RightHeader b ps p → RightHeader b qs q → (rs ts : List (List ℕ)) (r t : List ℕ) (behind after : List (List ℕ)) → before_empty ps ≡ rs ++ r ∷ behind → before_empty qs ≡ ts ++ t ∷ after → all_routes rs ≡ true → all_routes ts ≡ true → (length rs < length ts → is_route r ≡ false) → (length ts < length rs → is_route t ≡ false) → data_byte rs r ≡ data_byte ts t
  same_route h k rs ts r t behind after e d a c f g =
      let same = same_routes rs ts r t behind after (sym e ∙ ap before_empty (same_header h.head k.head) ∙ d) a c f g in
      rw (same.0, same.1)

  -- the fields of two types
  two_types : {ps qs : List (List ℕ)} → ps ≡ qs → get_or b (header_at ps + 2) 0 ≡ 1 → get_or b (header_at qs + 2) 0 ≡ 4 → ⊥
  two_types e one four = omega (arith, one, four, ap (λ (rs : List (List ℕ)). get_or b (header_at rs + 2) 0) e)

  same_topic : {ps qs : List (List ℕ)} {p q : List ℕ} → RightHeader b ps p → RightHeader b qs q → (group set : List (List ℕ)) (t u : List ℕ) (behind after : List (List ℕ)) →
      group ≡ group_if (has_route (get_or b (header_at ps + 3) 0)) (before_empty ps) → set ≡ group_if (has_route (get_or b (header_at qs + 3) 0)) (before_empty qs) → ps ≡ group ++ t ∷ behind → qs ≡ set ++ u ∷ after → data_byte group t ≡ data_byte set u
  same_topic h k group set t u behind after g s e d =
      let same = same_header h.head k.head in
      let groups : group ≡ set = g ∙ ap (λ (rs : List (List ℕ)). group_if (has_route (get_or b (header_at rs + 3) 0)) (before_empty rs)) same ∙ sym s in
      let topic = same_next group t u behind after (sym e ∙ same ∙ d ∙ ap (λ (rs : List (List ℕ)). rs ++ u ∷ after) (sym groups)) in
      rw (groups, topic)

  pub only : {n x y : ℕ} → FaultAt b n x → FaultAt b n y → x ≡ y
  only (size_wrong ps rest e few none) (size_wrong qs left k less nothing) = ap size_byte (same_front ps qs rest left (sized ps rest e) (sized qs left k) none nothing (sym e ∙ k))
  only (too_many ps rest e few some) (too_many qs left k less more) = ap size_byte (same_many ps qs rest left (sized ps rest e) (sized qs left k) (few ∙ sym less) (sym e ∙ k))
  only (no_part e) (no_part k) = refl
  only (no_part e) (length_wrong qs q k n) = absurd (not_empty qs q k e)
  only (length_wrong ps p e n) (no_part k) = absurd (not_empty ps p e k)
  only (length_wrong ps p e n) (length_wrong qs q k m) = ap size_byte (same_ahead ps qs p q e k)
  only (parts_disagree ps p h a) (parts_disagree qs q k c) = ap header_at (same_header h.head k.head)
  only (route_wrong ps p h f rs r behind e a l n) (route_wrong qs q k g ts t after d c o m) = same_route h k rs ts r t behind after e d a c (λ _. n) (λ _. m)
  only (route_wrong ps p h f rs r behind e a l n) (route_65 qs q k g ts t after d c o) = same_route h k rs ts r t behind after e d a c (λ _. n) (λ s. absurd (omega arith))
  only (route_65 ps p h f rs r behind e a l) (route_wrong qs q k g ts t after d c o m) = same_route h k rs ts r t behind after e d a c (λ s. absurd (omega arith)) (λ _. m)
  only (route_65 ps p h f rs r behind e a l) (route_65 qs q k g ts t after d c o) = same_route h k rs ts r t behind after e d a c (λ s. absurd (omega arith)) (λ s. absurd (omega arith))
  only (topic_wrong ps p h f group t behind g e n) (topic_wrong qs q k j set u after s d m) = same_topic h k group set t u behind after g s e d
  only (nodeid_wrong ps p h k n) (nodeid_wrong qs q i j m) = ap (λ (rs : List (List ℕ)). header_at rs + 12) (same_header h.head i.head)
  only (nodeid_wrong ps p h k n) (unused_wrong qs q i j m) = absurd (two_types (same_header h.head i.head) k j)
  only (unused_wrong ps p h k n) (nodeid_wrong qs q i j m) = absurd (two_types (same_header i.head h.head) j k)
  only (unused_wrong ps p h k n) (unused_wrong qs q i j m) = ap (λ (rs : List (List ℕ)). header_at rs + 16) (same_header h.head i.head)
  only (magic_wrong ps p h m) (magic_wrong qs q k o) = ap header_at (same_header h k)
  only (version_wrong ps p h m v) (version_wrong qs q k o w) = ap (λ (rs : List (List ℕ)). header_at rs + 1) (same_header h k)
  only (type_wrong ps p h m v k) (type_wrong qs q i o w j) = ap (λ (rs : List (List ℕ)). header_at rs + 2) (same_header h i)
  only (flag_wrong ps p h m v k f) (flag_wrong qs q i o w j g) = ap (λ (rs : List (List ℕ)). header_at rs + 3) (same_header h i)
