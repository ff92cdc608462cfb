-- Laws on the parts that are written: the routes one at a time, and the parts that are there only where their flag is set.
use mathlib.Core.Path.{◌≡◌, refl}
use mathlib.Core.Bool.{Bool, true}
use Prim.Native.Nat.{ℕ, ◌+◌, ◌-◌, ◌<◌}
use mathlib.Core.List.{List, [], ◌∷◌, ◌++◌, append-nil}
use native.Mathlib.Omega.{arith}
use lib.ListN.{length, take, drop, length-drop}
use lib.Seq.{drop-drop, take_at}
use Rattle.bytes_number.specs.WorkingLays.{Lays}
use Rattle.frame_message.specs.Frame.{part_bytes, joined, part_if, group_if}
use Rattle.frame_message.specs.Writing.{cut}
use Rattle.frame_write_given.proofs.Cuts.{cut_more}
use Rattle.frame_message.proofs.Parts.{joined-append}

-- the parts from the route at i on
pub cut_next : (xs : List ℕ) (i : ℕ) → i < length xs → joined (cut (drop i xs)) ≡ part_bytes (take 37 (drop i xs)) ++ joined (cut (drop (i + 37) xs))
cut_next xs i h = rw (cut_more (drop i xs) (simp length-drop (omega arith)), drop-drop)

-- each of these where the flag is set
module _ {given : Bool} where
  pub one_part : (p : List ℕ) → given ≡ true → joined (part_if given p) ≡ part_bytes p
  one_part p e = rw e (append-nil (part_bytes p))

  pub group_parts : (routes : List ℕ) → given ≡ true → joined (group_if given (cut routes)) ≡ joined (cut routes) ++ (0 ∷ [])
  group_parts routes e = rw (e, joined-append)

-- what was laid over the front of an array, cut from it
pub held_front : (xs : List ℕ) {lent held : List ℕ} {n : ℕ} → Lays xs lent held n → take (n - 0) held ≡ xs
held_front xs {lent} l =
    let all : length xs - 0 ≡ length xs = omega arith in
    rw (l.told, l.bytes, all) (take_at xs (drop (length xs) lent) (length xs) refl)
