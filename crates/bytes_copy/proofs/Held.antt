-- Laws on bytes that are copied one by one, into an array of one's own and out of it.
use mathlib.Core.Path.{◌≡◌, sym, ap, ◌∙◌}
use Prim.Native.Nat.{ℕ, suc, ◌+◌, ◌<◌}
use mathlib.Core.List.{List, ◌++◌}
use native.Mathlib.Omega.{arith}
use native.Mathlib.Numerals.{add-one}
use lib.ListN.{length, get_or, take, drop, set}
use lib.Seq.{drop-cons, set_at, take-suc, take-suc-set, get_or-take, append_snoc, length-take-le}

-- a turn of a copy: the bytes in front of i are those of the source
pub copy_more : (src dst : List ℕ) (i : ℕ) → i < length src → i < length dst → set (take i src ++ drop i dst) i (get_or src i 0) ≡ take (i + 1) src ++ drop (i + 1) dst
copy_more src dst i hs hd =
    rw (add-one, drop-cons dst i 0 hd, set_at (take i src) (get_or dst i 0) (drop (suc i) dst) (get_or src i 0) i (length-take-le i src (omega arith)), take-suc src i 0 hs, append_snoc)

-- a turn of a copy into an array of one's own: the bytes in front of i are those of the source, whatever was there
pub held_more : (src held : List ℕ) (i k : ℕ) → i < length src → i < length held → k ≡ i → take i held ≡ take i src → take (i + 1) (set held i (get_or src k 0)) ≡ take (i + 1) src
held_more src held i k hs hh own e = rw (own, add-one, take-suc-set held i (get_or src i 0) hh, take-suc src i 0 hs, e)

-- what the array then holds at a place of the source
pub held_at : (src held : List ℕ) (j : ℕ) → j < length src → take (length src) held ≡ take (length src) src → get_or held j 0 ≡ get_or src j 0
held_at src held j h e = sym (get_or-take (length src) held j 0 h) ∙ ap (λ (l : List ℕ). get_or l j 0) e ∙ get_or-take (length src) src j 0 h
