-- A part that is known to be there: where its data lies.
use mathlib.Core.Path.{◌≡◌, refl, ap, ◌∙◌}
use mathlib.Core.Bool.{Bool, true, false}
use Prim.Native.Nat.{ℕ, ◌+◌, ◌-◌, ◌<◌, ◌≤◌}
use mathlib.Core.List.{List, [], ◌∷◌, ◌++◌, append_assoc}
use native.Mathlib.Omega.{arith}
use borrow.Author.Tests.{ltb-true, ltb-false}
use lib.Dec.{ltb}
use lib.ListN.{length, get_or, take, drop, length-append, length-drop}
use Rattle.bytes_number.specs.Number.{number, four, Bytes}
use Rattle.bytes_number.proofs.Numbers.{number-four, bytes_drop}
use Rattle.frame_message.specs.Frame.{size_bytes, part_bytes, joined}
use Rattle.frame_message.proofs.Lists.{Each}
use Rattle.frame_message.proofs.Parts.{Sized, split, part_short, part_long}
use Rattle.frame_message.specs.declared.Stretch.{Stretch}
use lib.Seq.{take_at}
use Rattle.std.specs.Prelude.{Some}
use Rattle.frame_part_size.specs.WorkingSizes.{size_at}
use Rattle.frame_part_size.proofs.Sizes.{short_cut, long_cut}
use Rattle.frame_parts.proofs.Passing.{part_from}
use Rattle.frame_body.specs.WorkingJudging.{parts_found, Found, piece_at}

-- ---- a part at the front of bytes

module _ (q rest : List ℕ) where
  front_short : length q < 255 → part_bytes q ++ rest ≡ length q ∷ (q ++ rest)
  front_short h = rw (part_short q h)

  front_long : 255 ≤ length q → part_bytes q ++ rest ≡ 255 ∷ (four (length q) ++ (q ++ rest))
  front_long h = rw (part_long q h) (ap (λ (t : List ℕ). 255 ∷ t) (append_assoc (four (length q)) q rest))

  -- the byte in front is the size, or 255
  pub first_byte : (get_or (part_bytes q ++ rest) 0 0 ≡ 37 → length q ≡ 37) × (length q ≡ 37 → get_or (part_bytes q ++ rest) 0 0 ≡ 37)
  first_byte = go (ltb (length q) 255) refl
    where
      go : (t : Bool) → ltb (length q) 255 ≡ t → (get_or (part_bytes q ++ rest) 0 0 ≡ 37 → length q ≡ 37) × (length q ≡ 37 → get_or (part_bytes q ++ rest) 0 0 ≡ 37)
      go true t = rw (front_short (ltb-true _ _ t)) ((λ e. e), (λ e. e))
      go false t = rw (front_long (ltb-false _ _ t)) ((λ (e : ◌≡◌ {A = ℕ} 255 37). absurd (omega arith)), (λ (e : length q ≡ 37). absurd (omega (arith, ltb-false (length q) 255 t))))

  -- its size is found in front
  pub size_part : Sized q → size_at (part_bytes q ++ rest) ≡ Some (record { start = length (size_bytes (length q)); len = length q })
  size_part sized = go (ltb (length q) 255) refl
    where
      go : (t : Bool) → ltb (length q) 255 ≡ t → size_at (part_bytes q ++ rest) ≡ Some (record { start = length (size_bytes (length q)); len = length q })
      go true t =
          let small = ltb-true (length q) 255 t in
          rw (front_short small, short_cut (length q) (q ++ rest) small (omega (arith, length-append q rest)), take_at q rest (length q) refl)
      go false t =
          let big = ltb-false (length q) 255 t in
          let behind = four (length q) ++ (q ++ rest) in
          let is : number behind ≡ length q = number-four (length q) (q ++ rest) sized in
          let left : drop 4 behind ≡ q ++ rest = refl in
          rw (front_long big, long_cut 255 behind (omega arith) (omega (arith, length-append (four (length q)) (q ++ rest))) (omega (arith, is)) (omega (arith, is, ap length left, length-append q rest)), is, left, take_at q rest (length q) refl)

-- ---- bytes whose parts were found

-- the first part, and the others
pub record PartBegins (s : List ℕ) : Type 0 where
  pub part : List ℕ
  pub others : List (List ℕ)
  pub found : parts_found s ≡ part ∷ others
  pub same : s ≡ part_bytes part ++ joined others
  pub sized : Sized part

pub begins : (s : List ℕ) → Bytes s → Found s → 0 < length s → PartBegins s
begins s b f h = go (parts_found s) (split 68 s (parts_found s) b f).same (split 68 s (parts_found s) b f).sized refl
  where
    go : (ps : List (List ℕ)) → s ≡ joined ps → Each Sized ps → parts_found s ≡ ps → PartBegins s
    go [] e z k = absurd (omega (arith, ap length e))
    go (q ∷ qs) e z k = record { part = q; others = qs; found = k; same = e; sized = z.0 }

-- ---- a part at a place of the body

module _ (body : List ℕ) (at : ℕ) (b : Bytes body) (f : Found (drop at body)) (h : 0 < length (drop at body)) where
  abbrev here : PartBegins (drop at body)
  here = begins (drop at body) (bytes_drop at body b) f h

  lent : take (length body - at) (drop at body) ≡ part_bytes here.part ++ joined here.others
  lent = part_from body at ∙ here.same

  pub found_there : size_at (take (length body - at) (drop at body)) ≡ Some (record { start = length (size_bytes (length here.part)); len = length here.part })
  found_there = ap size_at lent ∙ size_part here.part (joined here.others) here.sized

  module _ (s : Stretch) (e : Some s ≡ size_at (take (length body - at) (drop at body))) where
    found_at : s ≡ record { start = length (size_bytes (length here.part)); len = length here.part }
    found_at = let same = e ∙ found_there in cc

    pub piece_fits : at + s.start + s.len ≤ length body
    piece_fits =
        let part = length-append (size_bytes (length here.part)) here.part in
        let whole = length-append (part_bytes here.part) (joined here.others) in
        omega (arith, ap (λ (t : Stretch). t.start) found_at, ap (λ (t : Stretch). t.len) found_at, part, whole, ap length here.same, length-drop at body)

    pub piece_there : Some (record { start = at + s.start; len = s.len }) ≡ Some (piece_at at (get_or (parts_found (drop at body)) 0 []))
    piece_there = rw (found_at, here.found)
