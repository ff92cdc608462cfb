-- Laws on bytes that helpers lay behind each other: one law for a helper that is lent the rest of the output, one for a byte stored there.
use mathlib.Core.Path.{◌≡◌, refl, sym, ap, ◌∙◌}
use Prim.Native.Nat.{ℕ, ◌+◌, ◌-◌, ◌<◌, ◌≤◌}
use mathlib.Core.List.{List, [], ◌∷◌, ◌++◌, append-nil, append_assoc}
use native.Mathlib.Omega.{arith}
use native.Mathlib.Numerals.{add-one}
use lib.ListN.{length, drop, set, length-append, length-drop, drop_of_length-le}
use lib.Seq.{set-append_seam, drop-cons}
use borrow.Author.Rules.{part_to_end}
use borrow.Rule.Slice.PartMut.{mid_of, put_mid}
use Rattle.bytes_number.specs.Laid.{laid}
use Rattle.bytes_number.specs.WorkingLays.{laid_if_room, laid_count, Lays}
use Rattle.bytes_number.proofs.Buffers.{laid_room, count_room, length-laid, laid_more}

pub lays_none : (out : List ℕ) → Lays [] out out 0
lays_none out = record { told = refl; bytes = refl }

-- what a leaf that lays its bytes only where there is room does where there is room
pub lays_room : {xs lent left : List ℕ} → length xs ≤ length lent → left ≡ laid_if_room xs lent → Lays xs lent left (length xs)
lays_room {xs} {lent} h e = record { told = refl; bytes = e ∙ laid_room xs lent h }

-- the same of a leaf that tells how many they are, and the other way
pub lays_counted : {xs lent left : List ℕ} {n : ℕ} → length xs ≤ length lent → n ≡ laid_count xs lent → left ≡ laid_if_room xs lent → Lays xs lent left n
lays_counted {xs} {lent} h n e = record { told = n ∙ count_room xs lent h; bytes = e ∙ laid_room xs lent h }

pub counted_lays : {xs lent left : List ℕ} {n : ℕ} → length xs ≤ length lent → Lays xs lent left n → (n ≡ laid_count xs lent) × (left ≡ laid_if_room xs lent)
counted_lays {xs} {lent} h l = (l.told ∙ sym (count_room xs lent h), l.bytes ∙ sym (laid_room xs lent h))

module _ {w lent out : List ℕ} {at : ℕ} (l : Lays w lent out at) where
  -- the rest of the output is lent on, and the bytes laid there come behind those that are laid already
  pub lays_more : {x last : List ℕ} {n : ℕ} → Lays x (mid_of at (length out - at) out) last n → Lays (w ++ x) lent (put_mid at (length out - at) out last) (at + n)
  lays_more {x} {last} m =
      let behind : drop (length out - at) (drop at out) ≡ [] = drop_of_length-le (drop at out) {i = length out - at} (simp length-drop (omega arith)) in
      let there : last ≡ laid x (drop at out) = rw (part_to_end out at) at m.bytes in
      record {
        told = simp length-append (omega arith);
        bytes = rw (behind, append-nil, there, l.told, l.bytes) (laid_more w x lent);
      }

  -- a byte is stored behind those that are laid already
  pub lays_byte : (v : ℕ) → length w < length lent → Lays (w ++ (v ∷ [])) lent (set out at v) (at + 1)
  lays_byte v h =
      record {
        told = simp length-append (omega arith);
        bytes = rw (l.told, l.bytes, drop-cons lent (length w) 0, set-append_seam, length-append, append_assoc, add-one);
      }

  pub lays_length : length w ≤ length lent → length out ≡ length lent
  lays_length h = ap length l.bytes ∙ length-laid w lent h

  -- the rest has room for what the whole had room for
  pub lays_rest : (x : List ℕ) → length (w ++ x) ≤ length lent → length x ≤ length (mid_of at (length out - at) out)
  lays_rest x h =
      let all : length w + length x ≤ length lent = rw length-append at h in
      rw (part_to_end out at, length-drop) (omega (arith, lays_length (omega arith)))

  -- the rest is lent to such a leaf
  pub lays_leaf : (x : List ℕ) {last : List ℕ} → length (w ++ x) ≤ length lent → last ≡ laid_if_room x (mid_of at (length out - at) out) → Lays (w ++ x) lent (put_mid at (length out - at) out last) (at + length x)
  lays_leaf x h e = lays_more (lays_room (lays_rest x h) e)

  -- the place behind what is laid lies in the output
  pub lays_within : length w ≤ length lent → at ≤ length out
  lays_within h = omega (arith, lays_length h)
