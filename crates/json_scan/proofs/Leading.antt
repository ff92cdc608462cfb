-- Bytes at the front that pass a test: where they end, and what comes of them if they leave the reading where it stands.
use Rattle.std.specs.List.{prefix_len}
use Rattle.std.proofs.lemmas.List.Sums.{prefix_len-drop_yes, prefix_len-drop_no, prefix_len-drop_all, prefix_len_stops}
use mathlib.Core.Path.{◌≡◌, refl, sym, ap, ◌∙◌}
use mathlib.Core.Bool.{Bool, true, false, cond}
use mathlib.Core.List.{List, [], ◌∷◌}
use Prim.Native.Nat.{ℕ, zero, suc, ◌+◌, ◌<◌, ◌≤◌}
use native.Mathlib.Omega.{arith}
use lib.ListN.{length, drop, get_or, length-drop}
use lib.Seq.{drop-drop, get_or-drop}
use Rattle.json_scan.specs.Scan.{Kind, State, to, move_of, go_on, scan}
use Rattle.json_scan.specs.WorkingEnds.{end_of}
use Rattle.json_scan.proofs.Scanning.{go_on_lem}

-- the byte there passes
pub end_more : (test : ℕ → Bool) (bytes : List ℕ) (at : ℕ) → at < length bytes → test (get_or bytes at 0) ≡ true → end_of test bytes at ≡ end_of test bytes (at + 1)
end_more test bytes at l e = omega (arith, prefix_len-drop_yes test bytes at 0 l e)

-- it does not, or there is none
pub end_here : (test : ℕ → Bool) (bytes : List ℕ) (at : ℕ) → at < length bytes → test (get_or bytes at 0) ≡ false → end_of test bytes at ≡ at
end_here test bytes at l e = omega (arith, prefix_len-drop_no test bytes at 0 l e)

pub end_over : (test : ℕ → Bool) (bytes : List ℕ) (at : ℕ) → length bytes ≤ at → end_of test bytes at ≡ at
end_over test bytes at l = omega (arith, prefix_len-drop_all test bytes at l)

-- ---- behind them

pub end_stops : (test : ℕ → Bool) (bytes : List ℕ) (at : ℕ) → end_of test bytes at < length bytes → test (get_or bytes (end_of test bytes at) 0) ≡ false
end_stops test bytes at l =
    ap test (sym (get_or-drop at bytes (prefix_len test (drop at bytes)) 0))
    ∙ prefix_len_stops test (drop at bytes) 0 (omega (arith, length-drop at bytes))

one_more : (n : ℕ) → 1 + n ≡ suc n
one_more n = omega arith

-- whatever is read of bytes from a place on: if such a byte in front does not change it, then all of them do not
passes : {A : Type 0} (f : ℕ → List ℕ → A) (test : ℕ → Bool) → ((at c : ℕ) (cs : List ℕ) → test c ≡ true → f at (c ∷ cs) ≡ f (at + 1) cs) → (at : ℕ) (xs : List ℕ) → f at xs ≡ f (at + prefix_len test xs) (drop (prefix_len test xs) xs)
passes f test same at [] = ap (λ (i : ℕ). f i []) (omega arith)
passes f test same at (x ∷ xs) = go (passes f test same (at + 1) xs) (test x) refl
  where
    go :
        f (at + 1) xs ≡ f (at + 1 + prefix_len test xs) (drop (prefix_len test xs) xs) → (t : Bool) → test x ≡ t →
        f at (x ∷ xs) ≡ f (at + cond t (1 + prefix_len test xs) 0) (drop (cond t (1 + prefix_len test xs) 0) (x ∷ xs))
    go again true e =
        let n = prefix_len test xs in
        same at x xs e ∙ again ∙ ap (λ (i : ℕ). f i (drop n xs)) (omega arith) ∙ ap (λ (k : ℕ). f (at + (1 + n)) (drop k (x ∷ xs))) (sym (one_more n))
    go again false e = ap (λ (i : ℕ). f i (x ∷ xs)) (omega arith)

pub passes_to :
    {A : Type 0} (f : ℕ → List ℕ → A) (test : ℕ → Bool) → ((at c : ℕ) (cs : List ℕ) → test c ≡ true → f at (c ∷ cs) ≡ f (at + 1) cs) → (bytes : List ℕ) (at : ℕ) →
    f at (drop at bytes) ≡ f (end_of test bytes at) (drop (end_of test bytes at) bytes)
passes_to f test same bytes at = passes f test same at (drop at bytes) ∙ ap (f (end_of test bytes at)) (drop-drop (prefix_len test (drop at bytes)) at bytes)

-- so it is with bytes that leave the reading where it stands
pub scan_passes :
    (most : ℕ) (state : State) (around : List Kind) (test : ℕ → Bool) (bytes : List ℕ) (at : ℕ) → ((c : ℕ) → test c ≡ true → move_of state around c ≡ to state around) →
    length around ≤ most → scan most state around at (drop at bytes) ≡ scan most state around (end_of test bytes at) (drop (end_of test bytes at) bytes)
unfolding scan
scan_passes most state around test bytes at stays room =
    passes_to (scan most state around) test
    (λ i c cs e.
    ap (go_on most i (λ state₁ around₁. scan most state₁ around₁ (i + 1) cs)) (stays c e) ∙ go_on_lem most i (λ state₁ around₁. scan most state₁ around₁ (i + 1) cs) state around room)
    bytes at

-- ---- so many of them, and then the others

pub leading_past : (test : ℕ → Bool) (xs : List ℕ) (n : ℕ) → n ≤ prefix_len test xs → prefix_len test xs ≡ n + prefix_len test (drop n xs)
leading_past test xs zero l = omega arith
leading_past test [] (suc n) l = absurd (omega (arith, l))
leading_past test (x ∷ xs) (suc n) l = go (λ m. leading_past test xs n m) (test x) l
  where
    go : (n ≤ prefix_len test xs → prefix_len test xs ≡ n + prefix_len test (drop n xs)) → (t : Bool) → suc n ≤ cond t (1 + prefix_len test xs) 0 → cond t (1 + prefix_len test xs) 0 ≡ suc n + prefix_len test (drop n xs)
    go again true m = let e = again (omega (arith, m)) in omega (arith, e)
    go again false m = absurd (omega (arith, m))

pub end_past : (test : ℕ → Bool) (bytes : List ℕ) (at n : ℕ) → n ≤ prefix_len test (drop at bytes) → end_of test bytes at ≡ end_of test bytes (at + n)
end_past test bytes at n l =
    let e = leading_past test (drop at bytes) n l in
    let d : prefix_len test (drop n (drop at bytes)) ≡ prefix_len test (drop (at + n) bytes) = ap (prefix_len test) (drop-drop n at bytes) in
    omega (arith, e, d)
