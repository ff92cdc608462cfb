-- Laws on a row of numbers that is laid two numbers at a time.
use mathlib.Core.Path.{◌≡◌, ap, subst, ◌∙◌}
use Prim.Native.Nat.{ℕ, ◌+◌, ◌-◌, ◌*◌, ◌<◌, ◌≤◌}
use mathlib.Core.List.{List, ◌++◌, append_assoc}
use native.Mathlib.Omega.{arith}
use lib.ListN.{length, get_or, take, length-append}
use lib.Seq.{length-take-le}
use borrow.Rule.Slice.PartMut.{mid_of, put_mid}
use Rattle.bytes_number.specs.Number.{four, row_bytes}
use Rattle.bytes_number.specs.WorkingLays.{laid_if_room}
use Rattle.bytes_number.proofs.Laying.{lays_leaf}
use Rattle.bytes_number.proofs.Rows.{Rowed, row_length, row_more}

row_two : (ns : List ℕ) (i : ℕ) → i + 1 < length ns → row_bytes (take (i + 2) ns) ≡ row_bytes (take i ns) ++ (four (get_or ns i 0) ++ four (get_or ns (i + 1) 0))
row_two ns i h =
    let next : i + 2 ≡ i + 1 + 1 = omega arith in
    ap (λ (k : ℕ). row_bytes (take k ns)) next ∙ row_more ns (i + 1) h ∙ ap (λ (xs : List ℕ). xs ++ four (get_or ns (i + 1) 0)) (row_more ns i (omega arith))
    ∙ append_assoc (row_bytes (take i ns)) (four (get_or ns i 0)) (four (get_or ns (i + 1) 0))

pub rowed_two : {row lent out : List ℕ} {at i : ℕ} → Rowed row lent out at i → 4 * length row ≤ length lent → i + 1 < length row → {last : List ℕ} → last ≡ laid_if_room (four (get_or row i 0) ++ four (get_or row (i + 1) 0)) (mid_of at (length out - at) out) → Rowed row lent (put_mid at (length out - at) out last) (at + 8) (i + 2)
rowed_two {row} {lent} {out} {at} {i} r room h e =
    let pair = four (get_or row i 0) ++ four (get_or row (i + 1) 0) in
    let fits : length (row_bytes (take i row) ++ pair) ≤ length lent = simp length-append (omega (arith, row_length (take i row), length-take-le i row r.most)) in
    record {
      most = omega arith;
      lays = rw (row_two row i h) (lays_leaf r.lays pair fits e);
    }

-- so many pairs are laid
abbrev pub Paired : List ℕ → List ℕ → List ℕ → ℕ → Type 0
Paired row lent out n = Rowed row lent out (8 * n) (2 * n)

-- one more
pub paired_more : {row lent out : List ℕ} (n : ℕ) → Paired row lent out n → 4 * length row ≤ length lent → 2 * n + 1 < length row → {last : List ℕ} → last ≡ laid_if_room (four (get_or row (2 * n) 0) ++ four (get_or row (2 * n + 1) 0)) (mid_of (8 * n) (length out - 8 * n) out) → Paired row lent (put_mid (8 * n) (length out - 8 * n) out last) (n + 1)
paired_more {row} {lent} {out} n p room h {last} e =
    let now = put_mid (8 * n) (length out - 8 * n) out last in
    let place : 8 * n + 8 ≡ 8 * (n + 1) = omega arith in
    let count : 2 * n + 2 ≡ 2 * (n + 1) = omega arith in
    subst (λ (k : ℕ). Rowed row lent now k (2 * (n + 1))) place (subst (λ (k : ℕ). Rowed row lent now (8 * n + 8) k) count (rowed_two p room h e))
