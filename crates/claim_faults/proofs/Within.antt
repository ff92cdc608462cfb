-- The byte of a row lies within the frame, of any frame whose body is all there; and of an empty body there is one row alone.
use mathlib.Core.Path.{◌≡◌, refl, sym, ap, ◌∙◌}
use Prim.Native.Nat.{ℕ, ◌+◌, ◌<◌, ◌≤◌}
use mathlib.Core.List.{List, ◌∷◌, ◌++◌}
use native.Mathlib.Omega.{arith}
use lib.ListN.{length, length-append}
use Rattle.frame_message.specs.Frame.{size_bytes, part_bytes, joined}
use Rattle.frame_message.specs.Reading.{body_length}
use Rattle.frame_message.proofs.Parts.{joined-append}
use Rattle.frame_parts.proofs.Passing.{joined_snoc, part_has_size, before_short}
use Rattle.frame_fault.specs.Fault.{body_in}
use Rattle.claim_faults.specs.Faults.{data_byte, HeaderIn, FaultAt, size_wrong, too_many, no_part, length_wrong, parts_disagree, route_wrong, route_65, topic_wrong, nodeid_wrong, unused_wrong, magic_wrong, version_wrong, type_wrong, flag_wrong}
use Rattle.claim_faults.proofs.Frames.{body_long, header_long}

-- a part that is one of several starts its data at their end at the latest
data_within : (before behind : List (List ℕ)) (p : List ℕ) → data_byte before p ≤ 8 + length (joined (before ++ p ∷ behind))
data_within before behind p =
    omega (arith, ap length (joined-append before (p ∷ behind)), length-append (joined before) (part_bytes p ++ joined behind), length-append (part_bytes p) (joined behind), length-append (size_bytes (length p)) p)

-- what a byte of a row is, by its place in the body: 6 of no part, or inside
pub record Inside (size n x : ℕ) : Type 0 where
  pub least : 8 ≤ x
  pub within : 0 < size → x < 8 + size
  pub empty : size ≡ 0 → (n ≡ 6) × (x ≡ 8)

inside : {size n x : ℕ} → 8 ≤ x → x < 8 + size → Inside size n x
inside l h = record { least = l; within = λ _. h; empty = λ e. absurd (omega arith) }

module _ (b : List ℕ) (fits : 8 + body_length b ≤ length b) where
  long : length (body_in b) ≡ body_length b
  long = body_long b fits

  -- in front of what is left
  left : (ps : List (List ℕ)) (rest : List ℕ) → body_in b ≡ joined ps ++ rest → 0 < length rest → length (joined ps) < body_length b
  left ps rest e some = omega (arith, long, ap length e, length-append (joined ps) rest)

  -- in the header
  header : (ps : List (List ℕ)) (p : List ℕ) → HeaderIn b ps p → body_length b ≡ length (joined ps) + 21
  header ps p e = sym long ∙ ap length e.whole ∙ header_long ps p e.long

  pub place_inside : {n x : ℕ} → FaultAt b n x → Inside (body_length b) n x
  place_inside (size_wrong ps rest e few none) = inside (omega arith) (omega (arith, left ps rest e none.some))
  place_inside (too_many ps rest e few some) = inside (omega arith) (omega (arith, left ps rest e some))
  place_inside (no_part e) = record { least = omega arith; within = λ l. absurd (omega (arith, long, ap length e)); empty = λ _. (refl, refl) }
  place_inside (length_wrong ps p e n) = inside (omega arith) (omega (arith, left ps (part_bytes p) (e ∙ joined_snoc ps p) (part_has_size p)))
  place_inside (parts_disagree ps p r a) = inside (omega arith) (omega (arith, header ps p r.head))
  place_inside (route_wrong ps p r f rs q behind e a l n) =
      inside (omega arith) (omega (arith, header ps p r.head, data_within rs behind q, ap (λ (qs : List (List ℕ)). length (joined qs)) e, before_short ps))
  place_inside (route_65 ps p r f rs q behind e a l) =
      inside (omega arith) (omega (arith, header ps p r.head, data_within rs behind q, ap (λ (qs : List (List ℕ)). length (joined qs)) e, before_short ps))
  place_inside (topic_wrong ps p r f group t behind g e n) =
      inside (omega arith) (omega (arith, header ps p r.head, data_within group behind t, ap (λ (qs : List (List ℕ)). length (joined qs)) e))
  place_inside (nodeid_wrong ps p r k n) = inside (omega arith) (omega (arith, header ps p r.head))
  place_inside (unused_wrong ps p r k n) = inside (omega arith) (omega (arith, header ps p r.head))
  place_inside (magic_wrong ps p r m) = inside (omega arith) (omega (arith, header ps p r))
  place_inside (version_wrong ps p r m v) = inside (omega arith) (omega (arith, header ps p r))
  place_inside (type_wrong ps p r m v k) = inside (omega arith) (omega (arith, header ps p r))
  place_inside (flag_wrong ps p r m v k f) = inside (omega arith) (omega (arith, header ps p r))
