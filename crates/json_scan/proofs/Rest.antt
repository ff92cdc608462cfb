-- The rest of a token, one byte after another: the bytes of a name, the hex digits of an escape, the tails of a character.
use Rattle.std.specs.Prelude.{Ok, Err}
use Rattle.std.specs.List.{prefix_len}
use Rattle.std.proofs.lemmas.List.{length-take}
use Rattle.std.proofs.lemmas.List.Sums.{prefix_len-le-length}
use mathlib.Core.Path.{◌≡◌, refl, sym, ap, subst, subst⁻¹, ◌∙◌}
use mathlib.Core.Bool.{Bool, true, false, cond}
use mathlib.Core.List.{List, [], ◌∷◌}
use mathlib.Core.Logic.{⊎_elim}
use Prim.Native.Nat.{ℕ, zero, suc, ◌+◌, ◌-◌, ◌<◌, ◌≤◌}
use native.Mathlib.Omega.{arith}
use borrow.Author.Tests.{ltb-true, ltb-false, eqb-true, eqb-false, eq-eqb, ne_eqb}
use lib.Dec.{ltb, eqb}
use lib.ListN.{length, take, drop, get_or, replicate, drop_of_length-le}
use Rattle.bytes_number.proofs.Truth.{outcome, clash}
use Rattle.json_scan.specs.WorkingEnds.{Reached}
use Rattle.json_scan.specs.Scan.{Class, holds, Kind, State, rest, ended, nowhere, to, remaining, rest_move, move_of}
use Rattle.json_scan.specs.WorkingEnds.{rest_end, run_of}
use Rattle.json_scan.specs.WorkingReads.{place_of, came, ReadsOn}
use Rattle.json_scan.proofs.Scanning.{drop_at, inside}
use Rattle.json_scan.proofs.Reading.{ReadsRest, reads_none, reads_more, reads_wrong, reads_over}

-- ---- one byte of it

-- there is none
pub rest_over : (k : Class) (ks : List Class) (bytes : List ℕ) (at : ℕ) → length bytes ≤ at → rest_end (k ∷ ks) at (drop at bytes) ≡ Err at
unfolding rest_end
rest_over k ks bytes at l = ap (rest_end (k ∷ ks) at) (drop_of_length-le bytes l)

-- it may come, or not
module _ (k : Class) (ks : List Class) (bytes : List ℕ) (at : ℕ) (l : at < length bytes) where
  first : rest_end (k ∷ ks) at (drop at bytes) ≡ cond (holds k (get_or bytes at 0)) (rest_end ks (at + 1) (drop (at + 1) bytes)) (Err at)
  unfolding rest_end
  first = ap (rest_end (k ∷ ks) at) (drop_at bytes at l)

  pub rest_more : holds k (get_or bytes at 0) ≡ true → rest_end (k ∷ ks) at (drop at bytes) ≡ rest_end ks (at + 1) (drop (at + 1) bytes)
  rest_more e = first ∙ ap (λ (t : Bool). cond t (rest_end ks (at + 1) (drop (at + 1) bytes)) (Err at)) e

  pub rest_wrong : holds k (get_or bytes at 0) ≡ false → rest_end (k ∷ ks) at (drop at bytes) ≡ Err at
  rest_wrong e = first ∙ ap (λ (t : Bool). cond t (rest_end ks (at + 1) (drop (at + 1) bytes)) (Err at)) e

-- ---- so far it was read

-- of what was still to come at a place, so much is still to come further on
pub record Passed (bytes : List ℕ) (at : ℕ) (ks : List Class) (i : ℕ) (left : List Class) : Type 0 where
  pub same : rest_end ks at (drop at bytes) ≡ rest_end left i (drop i bytes)

pub passed_none : {bytes : List ℕ} {at : ℕ} {ks : List Class} → Passed bytes at ks at ks
passed_none = record { same = refl }

pub passed_more :
    {bytes : List ℕ} {at : ℕ} {ks : List Class} {i : ℕ} {k : Class} {left : List Class} →
    Passed bytes at ks i (k ∷ left) → i < length bytes → holds k (get_or bytes i 0) ≡ true → Passed bytes at ks (i + 1) left
passed_more {bytes} {i = i} {k = k} {left = left} p l e = record { same = p.same ∙ rest_more k left bytes i l e }

pub passed_wrong :
    {bytes : List ℕ} {at : ℕ} {ks : List Class} {i : ℕ} {k : Class} {left : List Class} →
    Passed bytes at ks i (k ∷ left) → i < length bytes → holds k (get_or bytes i 0) ≡ false → Err i ≡ rest_end ks at (drop at bytes)
passed_wrong {bytes} {i = i} {k = k} {left = left} p l e = sym (p.same ∙ rest_wrong k left bytes i l e)

pub passed_over :
    {bytes : List ℕ} {at : ℕ} {ks : List Class} {i : ℕ} {k : Class} {left : List Class} →
    Passed bytes at ks i (k ∷ left) → length bytes ≤ i → Err i ≡ rest_end ks at (drop at bytes)
passed_over {bytes} {i = i} {k = k} {left = left} p l = sym (p.same ∙ rest_over k left bytes i l)

-- the same where the byte was had as `byte_at` has it: no 0 may come
pub passed_held :
    {bytes : List ℕ} {at : ℕ} {ks : List Class} {i : ℕ} {k : Class} {left : List Class} →
    holds k 0 ≡ false → Passed bytes at ks i (k ∷ left) → holds k (get_or bytes i 0) ≡ true → (i < length bytes) × Passed bytes at ks (i + 1) left
passed_held {bytes} {i = i} {k = k} z p e =
    let l = inside bytes i (λ none. clash (holds k (get_or bytes i 0)) e (ap (holds k) none ∙ z)) in
    (l, passed_more p l e)

pub passed_stuck :
    {bytes : List ℕ} {at : ℕ} {ks : List Class} {i : ℕ} {k : Class} {left : List Class} →
    Passed bytes at ks i (k ∷ left) → holds k (get_or bytes i 0) ≡ false → Err i ≡ rest_end ks at (drop at bytes)
passed_stuck {bytes} {i = i} p e =
    ⊎_elim (λ t. passed_wrong p (ltb-true i (length bytes) t) e) (λ t. passed_over p (ltb-false i (length bytes) t)) (outcome (ltb i (length bytes)))

pub passed_all : {bytes : List ℕ} {at : ℕ} {ks : List Class} {i j : ℕ} → Passed bytes at ks i [] → j ≡ i → Ok j ≡ rest_end ks at (drop at bytes)
unfolding rest_end
passed_all p is = ap Ok is ∙ sym p.same

-- ---- where all that is still to come is of one kind

pub some_left : (k : Class) (n : ℕ) → 0 < n → replicate n k ≡ k ∷ replicate (n - 1) k
some_left k zero l = absurd (omega arith)
some_left k (suc n) l = let less : n ≡ suc n - 1 = omega arith in ap (λ (m : ℕ). k ∷ replicate m k) less

pub none_left : (k : Class) (n : ℕ) → n ≤ 0 → replicate n k ≡ []
none_left k zero l = refl
none_left k (suc n) l = absurd (omega arith)

-- the same of a place where so many are left, and at least one
pub at_least_one :
    {bytes : List ℕ} {at : ℕ} {ks : List Class} {i : ℕ} (k : Class) (n : ℕ) → 0 < n → Passed bytes at ks i (replicate n k) → Passed bytes at ks i (k ∷ replicate (n - 1) k)
at_least_one {bytes} {at} {ks} {i} k n l p = subst (λ (left : List Class). Passed bytes at ks i left) (some_left k n l) p

pub no_more : {bytes : List ℕ} {at : ℕ} {ks : List Class} {i j : ℕ} (k : Class) (n : ℕ) → n ≤ 0 → Passed bytes at ks i (replicate n k) → j ≡ i → Ok j ≡ rest_end ks at (drop at bytes)
no_more {bytes} {at} {ks} {i} k n l p is = passed_all (subst (λ (left : List Class). Passed bytes at ks i left) (none_left k n l) p) is

-- how far they go is how many of them pass at the front
pub run_by : (k : Class) (n at : ℕ) (xs : List ℕ) → rest_end (replicate n k) at xs ≡ run_of (holds k) n at xs
unfolding rest_end
run_by k zero at xs = ap Ok (omega arith)
run_by k (suc n) at [] = rw (ne_eqb 0 (suc n) (λ e. omega (arith, e))) (ap Err (omega arith))
run_by k (suc n) at (x ∷ xs) = go (run_by k n (at + 1) xs) (holds k x)
  where
    m : ℕ
    m = prefix_len (holds k) (take n xs)

    far : at + 1 + m ≡ at + (1 + m)
    far = omega arith

    same : eqb m n ≡ eqb (1 + m) (suc n)
    same = ⊎_elim (λ t. t ∙ sym (eq-eqb (1 + m) (suc n) (omega (arith, eqb-true m n t)))) (λ t. t ∙ sym (ne_eqb (1 + m) (suc n) (λ e. eqb-false m n t (omega (arith, e))))) (outcome (eqb m n))

    go :
        rest_end (replicate n k) (at + 1) xs ≡ cond (eqb m n) (Ok (at + 1 + m)) (Err (at + 1 + m)) → (t : Bool) →
        let o = cond t (1 + m) 0 in cond t (rest_end (replicate n k) (at + 1) xs) (Err at) ≡ cond (eqb o (suc n)) (Ok (at + o)) (Err (at + o))
    go again true = again ∙ ap (λ (i : ℕ). cond (eqb m n) (Ok i) (Err i)) far ∙ ap (λ (t : Bool). cond t (Ok (at + (1 + m))) (Err (at + (1 + m)))) same
    go again false = rw (ne_eqb 0 (suc n) (λ e. omega (arith, e))) (ap Err (omega arith))

-- a run of any test, by the number that pass at the front
module _ (test : ℕ → Bool) (n at : ℕ) (xs : List ℕ) {m : ℕ} (is : m ≡ prefix_len test (take n xs)) where
  by_front : run_of test n at xs ≡ cond (eqb m n) (Ok (at + m)) (Err (at + m))
  by_front = ap (λ (i : ℕ). cond (eqb i n) (Ok (at + i)) (Err (at + i))) (sym is)

  -- no more pass than there are
  most : m ≤ n
  most = omega (arith, is, prefix_len-le-length test (take n xs), length-take n xs)

  pub run_whole : {j : ℕ} → j ≡ at + m → n ≤ m → Ok j ≡ run_of test n at xs
  run_whole there l = ap Ok there ∙ sym (by_front ∙ ap (λ (t : Bool). cond t (Ok (at + m)) (Err (at + m))) (eq-eqb m n (omega (arith, most))))

  pub run_part : {j : ℕ} → j ≡ at + m → (m ≡ n → ⊥) → Err j ≡ run_of test n at xs
  run_part there f = ap Err there ∙ sym (by_front ∙ ap (λ (t : Bool). cond t (Ok (at + m)) (Err (at + m))) (ne_eqb m n f))

module _ (k : Class) (n at : ℕ) (xs : List ℕ) {m : ℕ} (is : m ≡ prefix_len (holds k) (take n xs)) where
  by_count : rest_end (replicate n k) at xs ≡ cond (eqb m n) (Ok (at + m)) (Err (at + m))
  by_count = run_by k n at xs ∙ by_front (holds k) n at xs is

  pub run_passed : m ≡ n → Ok (at + m) ≡ rest_end (replicate n k) at xs
  run_passed e = sym (by_count ∙ ap (λ (t : Bool). cond t (Ok (at + m)) (Err (at + m))) (eq-eqb m n e))

  pub run_stopped : (m ≡ n → ⊥) → Err (at + m) ≡ rest_end (replicate n k) at xs
  run_stopped f = sym (by_count ∙ ap (λ (t : Bool). cond t (Ok (at + m)) (Err (at + m))) (ne_eqb m n f))

-- ---- it reads on

pub rest_on : (k : Class) (ks : List Class) (next : State) (around : List Kind) (c : ℕ) → holds k c ≡ true → move_of (rest k ks next) around c ≡ to (remaining ks next) around
unfolding move_of rest_move
rest_on k ks next around c e = ap (λ (t : Bool). cond t (to (remaining ks next) around) nowhere) e

pub rest_off : (k : Class) (ks : List Class) (next : State) (around : List Kind) (c : ℕ) → holds k c ≡ false → move_of (rest k ks next) around c ≡ nowhere
unfolding move_of rest_move
rest_off k ks next around c e = ap (λ (t : Bool). cond t (to (remaining ks next) around) nowhere) e

step :
    (bytes : List ℕ) (k : Class) (ks : List Class) (at : ℕ) (next : State) (room : ℕ) → ReadsOn bytes room (at + 1) (remaining ks next) next (came (rest_end ks (at + 1) (drop (at + 1) bytes))) →
    ReadsOn bytes room at (rest k ks next) next (came (rest_end (k ∷ ks) at (drop at bytes)))
step bytes k ks at next room again =
    ⊎_elim
    (λ t. let l = ltb-true at (length bytes) t in
    ⊎_elim
    (λ e. by (rest_more k ks bytes at l e) (reads_more (remaining ks next) l (λ around. rest_on k ks next around (get_or bytes at 0) e) again))
    (λ e. by (rest_wrong k ks bytes at l e) (reads_wrong l (λ around. rest_off k ks next around (get_or bytes at 0) e)))
    (outcome (holds k (get_or bytes at 0))))
    (λ t. let l = ltb-false at (length bytes) t in by (rest_over k ks bytes at l) (reads_over l refl))
    (outcome (ltb at (length bytes)))
  where
    by : {r : Reached} → rest_end (k ∷ ks) at (drop at bytes) ≡ r → ReadsOn bytes room at (rest k ks next) next (came r) → ReadsOn bytes room at (rest k ks next) next (came (rest_end (k ∷ ks) at (drop at bytes)))
    by e = subst⁻¹ (λ (r : Reached). ReadsOn bytes room at (rest k ks next) next (came r)) e

pub rest_reads : (bytes : List ℕ) (ks : List Class) (at : ℕ) → ReadsRest bytes at ks (came (rest_end ks at (drop at bytes)))
unfolding rest_end
rest_reads bytes [] at next room = reads_none
rest_reads bytes (k ∷ ks) at next room = step bytes k ks at next room (rest_reads bytes ks (at + 1) next room)

pub rest_onward : (bytes : List ℕ) (ks : List Class) (at : ℕ) → at ≤ place_of (came (rest_end ks at (drop at bytes)))
rest_onward bytes ks at = (rest_reads bytes ks at ended 0).onward
