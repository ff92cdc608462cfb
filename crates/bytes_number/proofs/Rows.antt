-- Laws on a row of numbers that is laid number by number.
use mathlib.Core.Path.{◌≡◌, refl, sym, ap, ◌∙◌}
use Prim.Native.Nat.{ℕ, zero, suc, ◌+◌, ◌-◌, ◌*◌, ◌<◌, ◌≤◌}
use mathlib.Core.List.{List, [], ◌∷◌, ◌++◌, append_assoc}
use native.Mathlib.Omega.{arith}
use native.Mathlib.Nat.{le_of_suc-le-suc}
use native.Mathlib.Numerals.{add-one}
use lib.ListN.{length, get_or, take, drop, length-append}
use lib.Seq.{take-suc, take-length, length-take-le, drop-drop}
use borrow.Rule.Slice.PartMut.{mid_of, put_mid}
use Rattle.bytes_number.specs.Number.{number, four, row_bytes}
use Rattle.bytes_number.specs.Laid.{laid}
use Rattle.bytes_number.specs.WorkingLays.{laid_if_room, Lays}
use Rattle.bytes_number.proofs.Numbers.{number-four}
use Rattle.bytes_number.proofs.Buffers.{laid_room}
use Rattle.bytes_number.proofs.Laying.{lays_none, lays_leaf, lays_length}

pub row_length : (ns : List ℕ) → length (row_bytes ns) ≡ 4 * length ns
row_length [] = refl
row_length (n ∷ ns) = omega (arith, row_length ns)

pub row_append : (ms ns : List ℕ) → row_bytes (ms ++ ns) ≡ row_bytes ms ++ row_bytes ns
row_append [] ns = refl
row_append (m ∷ ms) ns = rw (row_append ms ns) (sym (append_assoc (four m) (row_bytes ms) (row_bytes ns)))

pub row_more : (ns : List ℕ) (i : ℕ) → i < length ns → row_bytes (take (i + 1) ns) ≡ row_bytes (take i ns) ++ four (get_or ns i 0)
row_more ns i h = rw (add-one, take-suc ns i 0 h, row_append)

-- the first i numbers of a row are laid
pub record Rowed (row lent out : List ℕ) (at i : ℕ) : Type 0 where
  pub most : i ≤ length row
  pub lays : Lays (row_bytes (take i row)) lent out at

pub rowed_none : (row lent : List ℕ) → Rowed row lent lent 0 0
rowed_none row lent = record { most = omega arith; lays = lays_none lent }

module _ {row lent out : List ℕ} {at i : ℕ} (r : Rowed row lent out at i) (room : 4 * length row ≤ length lent) where
  pub rowed_at : at ≡ 4 * i
  rowed_at = omega (arith, r.lays.told, row_length (take i row), length-take-le i row r.most)

  pub rowed_length : length out ≡ length lent
  rowed_length = lays_length r.lays (omega (arith, r.most, row_length (take i row), length-take-le i row r.most))

  pub rowed_more : i < length row → {last : List ℕ} → last ≡ laid_if_room (four (get_or row i 0)) (mid_of at (length out - at) out) → Rowed row lent (put_mid at (length out - at) out last) (at + 4) (i + 1)
  rowed_more h e =
      let n = get_or row i 0 in
      let fits : length (row_bytes (take i row) ++ four n) ≤ length lent = simp length-append (omega (arith, row_length (take i row), length-take-le i row r.most)) in
      record {
        most = omega arith;
        lays = rw (row_more row i h) (lays_leaf r.lays (four n) fits e);
      }

  pub rowed_all : length row ≤ i → out ≡ laid_if_room (row_bytes row) lent
  rowed_all h =
      let all : i ≡ length row = omega (arith, r.most) in
      r.lays.bytes ∙ ap (λ (k : ℕ). laid (row_bytes (take k row)) lent) all ∙ ap (λ (ns : List ℕ). laid (row_bytes ns) lent) (take-length row)
      ∙ sym (laid_room (row_bytes row) lent (omega (arith, row_length row)))

-- a number that a row holds is read back from it, if it fits four bytes
pub row_number : (ns rest : List ℕ) (i : ℕ) → i < length ns → get_or ns i 0 < 4294967296 → number (drop (4 * i) (row_bytes ns ++ rest)) ≡ get_or ns i 0
row_number [] rest i h fits = absurd (omega arith)
row_number (n ∷ ns) rest zero h fits = number-four n (row_bytes ns ++ rest) fits
row_number (n ∷ ns) rest (suc i) h fits =
    let at : 4 * suc i ≡ 4 + 4 * i = omega arith in
    ap (λ (k : ℕ). number (drop k (row_bytes (n ∷ ns) ++ rest))) at ∙ ap number (sym (drop-drop (4 * i) 4 (row_bytes (n ∷ ns) ++ rest)))
    ∙ row_number ns rest i (le_of_suc-le-suc h) fits
