-- Laws on bytes and records in order.
use mathlib.Core.Path.{◌≡◌, refl, sym, ap, ◌∙◌}
use mathlib.Core.Bool.{Bool, true, false, cond, not, ◌&&◌}
use mathlib.Core.List.{List, [], ◌∷◌}
use mathlib.Core.Logic.{◌⊎◌, inl, inr, ⊎_elim}
use Prim.Native.Nat.{ℕ, zero, suc, ◌+◌, ◌-◌, ◌<◌, ◌≤◌}
use native.Mathlib.Nat.{eq-or-lt_of_le, le_of_suc-le-suc, not-suc-le-zero}
use native.Mathlib.Numerals.{add-one}
use native.Mathlib.Omega.{arith}
use borrow.Author.Tests.{eqb-true, eqb-false, eq-eqb, ne_eqb, lt-ltb, ltb-true, ltb-false}
use lib.Dec.{eqb, ltb}
use Rattle.std.specs.Cmp.Lexicographic.{slice_cmp}
use Rattle.std.specs.Ordering.{is_lt, nat_cmp, ordering_then}
use Rattle.std.specs.declared.cmp.Ordering.{Ordering}
use Rattle.std.specs.declared.cmp.Ordering.TheVariants.{Less, Equal, Greater}
use lib.ListN.{length, get_or, take, drop, set, length-set}
use lib.Seq.{drop-cons, drop-length, get_or-set_same, get_or-set_other}
use Rattle.bytes_number.proofs.Truth.{outcome, clash, true_false}
use Rattle.table_records.specs.Bytes.{same_bytes}
use Rattle.table_records.proofs.Bytes.{same_refl, same_equal}
use Rattle.table_records.specs.Below.{all_below}
use Rattle.table_records.proofs.Below.{all_of}
use Rattle.table_distinct_sorted.specs.WorkingOrder.{before, Ordered, Placed, Inserted}

-- ---- the order of bytes

pub before_self : (xs : List ℕ) → before xs xs ≡ false
unfolding before
before_self [] = refl
before_self (x ∷ xs) = rw (eq-eqb x x refl) (before_self xs)

before_cons : (x y : ℕ) (xs ys : List ℕ) → before (x ∷ xs) (y ∷ ys) ≡ cond (eqb x y) (before xs ys) (ltb x y)
unfolding before
before_cons x y xs ys = refl

before_equal : (x y : ℕ) (xs ys : List ℕ) → x ≡ y → before (x ∷ xs) (y ∷ ys) ≡ before xs ys
before_equal x y xs ys e = before_cons x y xs ys ∙ rw (eq-eqb x y e) refl

before_other : (x y : ℕ) (xs ys : List ℕ) → (x ≡ y → ⊥) → before (x ∷ xs) (y ∷ ys) ≡ ltb x y
before_other x y xs ys e = before_cons x y xs ys ∙ rw (ne_eqb x y e) refl

before_ended : (x : ℕ) (xs : List ℕ) → before (x ∷ xs) [] ≡ false
unfolding before
before_ended x xs = refl

before-some : (x : ℕ) (xs : List ℕ) → before [] (x ∷ xs) ≡ true
unfolding before
before-some x xs = refl

-- what stands before a list that stands before a third stands before the third
pub before_trans : (xs ys zs : List ℕ) → before xs ys ≡ true → before ys zs ≡ true → before xs zs ≡ true
before_trans [] [] zs p q = q
before_trans [] (y ∷ ys) [] p q = absurd (true_false (sym q ∙ before_ended y ys))
before_trans [] (y ∷ ys) (z ∷ zs) p q = before-some z zs
before_trans (x ∷ xs) [] zs p q = absurd (true_false (sym p ∙ before_ended x xs))
before_trans (x ∷ xs) (y ∷ ys) [] p q = absurd (true_false (sym q ∙ before_ended y ys))
before_trans (x ∷ xs) (y ∷ ys) (z ∷ zs) p q = first (before_trans xs ys zs) (outcome (eqb x y)) (outcome (eqb y z))
  where
    first : (before xs ys ≡ true → before ys zs ≡ true → before xs zs ≡ true) → (eqb x y ≡ true) ⊎ (eqb x y ≡ false) → (eqb y z ≡ true) ⊎ (eqb y z ≡ false) → before (x ∷ xs) (z ∷ zs) ≡ true
    first later (inl a) (inl b) =
        let e : x ≡ y = eqb-true x y a in
        let f : y ≡ z = eqb-true y z b in
        before_equal x z xs zs (e ∙ f) ∙ later (sym (before_equal x y xs ys e) ∙ p) (sym (before_equal y z ys zs f) ∙ q)
    first later (inl a) (inr b) =
        let e : x ≡ y = eqb-true x y a in
        let l : y < z = ltb-true y z (sym (before_other y z ys zs (eqb-false y z b)) ∙ q) in
        before_other x z xs zs (λ d. absurd (omega arith)) ∙ lt-ltb x z (omega arith)
    first later (inr a) (inl b) =
        let f : y ≡ z = eqb-true y z b in
        let l : x < y = ltb-true x y (sym (before_other x y xs ys (eqb-false x y a)) ∙ p) in
        before_other x z xs zs (λ d. absurd (omega arith)) ∙ lt-ltb x z (omega arith)
    first later (inr a) (inr b) =
        let l : x < y = ltb-true x y (sym (before_other x y xs ys (eqb-false x y a)) ∙ p) in
        let m : y < z = ltb-true y z (sym (before_other y z ys zs (eqb-false y z b)) ∙ q) in
        before_other x z xs zs (λ d. absurd (omega arith)) ∙ lt-ltb x z (omega arith)

-- of two lists that differ one stands before the other
pub before_total : (xs ys : List ℕ) → before xs ys ≡ false → (xs ≡ ys → ⊥) → before ys xs ≡ true
unfolding before
before_total [] [] p d = absurd (d refl)
before_total [] (y ∷ ys) p d = absurd (true_false p)
before_total (x ∷ xs) [] p d = refl
before_total (x ∷ xs) (y ∷ ys) p d = first (before_total xs ys) (outcome (eqb x y))
  where
    first : (before xs ys ≡ false → (xs ≡ ys → ⊥) → before ys xs ≡ true) → (eqb x y ≡ true) ⊎ (eqb x y ≡ false) → before (y ∷ ys) (x ∷ xs) ≡ true
    first later (inl a) =
        let e : x ≡ y = eqb-true x y a in
        before_equal y x ys xs (sym e) ∙ later (sym (before_equal x y xs ys e) ∙ p) (λ q. d (cc))
    first later (inr a) =
        let n : x ≡ y → ⊥ = eqb-false x y a in
        let l : y ≤ x = ltb-false x y (sym (before_other x y xs ys n) ∙ p) in
        before_other y x ys xs (λ q. n (sym q)) ∙ lt-ltb y x (⊎_elim (λ q. absurd (n (sym q))) (λ q. q) (eq-or-lt_of_le l))

-- what `cmp` says of two slices
cmp_before : (xs ys : List ℕ) → is_lt (slice_cmp nat_cmp xs ys) ≡ before xs ys
unfolding before
cmp_before [] [] = refl
cmp_before [] (y ∷ ys) = refl
cmp_before (x ∷ xs) [] = refl
cmp_before (x ∷ xs) (y ∷ ys) =
    more (ltb x y) (eqb x y) (slice_cmp nat_cmp xs ys) (before xs ys) (λ l. ne_eqb x y (λ e. omega (arith, ltb-true x y l))) (cmp_before xs ys)
  where
    more : (less same : Bool) (rest : Ordering) (b : Bool) → (less ≡ true → same ≡ false) → is_lt rest ≡ b → is_lt (ordering_then (cond less Less (cond same Equal Greater)) rest) ≡ cond same b less
    more true true rest b h e = absurd (true_false (h refl))
    more true false rest b h e = refl
    more false true rest b h e = e
    more false false rest b h e = refl

pub before_is : {less : Bool} {order : Ordering} (xs ys : List ℕ) → less ≡ is_lt order → order ≡ slice_cmp nat_cmp xs ys → before xs ys ≡ less
before_is xs ys e f = sym (e ∙ ap is_lt f ∙ cmp_before xs ys)

-- ---- bytes are compared with others of their length

pub one-length : (xs ys : List ℕ) → length xs ≡ length ys → (eqb (length xs) (length ys) && before xs ys) ≡ before xs ys
one-length xs ys e = rw (eq-eqb (length xs) (length ys) e) refl

pub two_lengths : (xs ys : List ℕ) → (length xs ≡ length ys → ⊥) → (eqb (length xs) (length ys) && before xs ys) ≡ false
two_lengths xs ys e = rw (ne_eqb (length xs) (length ys) e) refl

-- ---- a turn of a loop that compares

module _ (xs ys : List ℕ) (i : ℕ) (hx : i < length xs) (hy : i < length ys) where
  pub before_at : get_or xs i 0 ≡ get_or ys i 0 → before (drop i xs) (drop i ys) ≡ before (drop (i + 1) xs) (drop (i + 1) ys)
  before_at e = rw (add-one, drop-cons xs i 0 hx, drop-cons ys i 0 hy) (before_equal (get_or xs i 0) (get_or ys i 0) (drop (suc i) xs) (drop (suc i) ys) e)

  pub before_here : (get_or xs i 0 ≡ get_or ys i 0 → ⊥) → before (drop i xs) (drop i ys) ≡ ltb (get_or xs i 0) (get_or ys i 0)
  before_here e = rw (drop-cons xs i 0 hx, drop-cons ys i 0 hy) (before_other (get_or xs i 0) (get_or ys i 0) (drop (suc i) xs) (drop (suc i) ys) e)

pub before_end : (xs ys : List ℕ) (i : ℕ) → length xs ≡ length ys → i ≡ length xs → before (drop i xs) (drop i ys) ≡ false
before_end xs ys i e q = rw (q, drop-length xs, e, drop-length ys) (before_self [])

-- what both begin with does not matter
pub before-front : (n : ℕ) (xs ys : List ℕ) → n ≤ length xs → n ≤ length ys → take n xs ≡ take n ys → before (drop n xs) (drop n ys) ≡ before xs ys
before-front zero xs ys hx hy e = refl
before-front (suc n) [] ys hx hy e = absurd (not-suc-le-zero hx)
before-front (suc n) (x ∷ xs) [] hx hy e = absurd (not-suc-le-zero hy)
before-front (suc n) (x ∷ xs) (y ∷ ys) hx hy e =
    let heads : x ≡ y = cc in
    let tails : take n xs ≡ take n ys = cc in
    before-front n xs ys (le_of_suc-le-suc hx) (le_of_suc-le-suc hy) tails ∙ sym (before_equal x y xs ys heads)

-- ---- the search for a place

-- so far the things in front of `low` stand before the thing n, and those from `high` on do not
pub record Halved (thing : ℕ → List ℕ) (order : List ℕ) (n low high : ℕ) : Type 0 where
  pub fits : low ≤ high
  pub within : high ≤ n
  pub below : (k : ℕ) → k < low → before (thing (get_or order k 0)) (thing n) ≡ true
  pub above : (k : ℕ) → high ≤ k → k < n → before (thing (get_or order k 0)) (thing n) ≡ false

module _ (thing : ℕ → List ℕ) (order : List ℕ) (n : ℕ) where
  pub halved_start : Halved thing order n 0 n
  halved_start = record { fits = omega arith; within = omega arith; below = λ k l. absurd (omega arith); above = λ k l h. absurd (omega arith) }

  pub halved_end : (low high : ℕ) → high ≤ low → Halved thing order n low high → Placed thing order n low
  halved_end low high e h =
      record { within = omega (arith, h.fits, h.within); low = h.below; high = λ k l m. h.above k (omega (arith, h.fits)) m }

  module _ (o : Ordered thing order n) (low high middle : ℕ) (h : Halved thing order n low high) (l : low ≤ middle) (m : middle < high) where
    pub halved_low : before (thing (get_or order middle 0)) (thing n) ≡ true → Halved thing order n (middle + 1) high
    halved_low b =
        record {
          fits = omega arith;
          within = h.within;
          below =
              λ k q.
              ⊎_elim
              (λ e. rw e b)
              (λ q₂. before_trans (thing (get_or order k 0)) (thing (get_or order middle 0)) (thing n) (o.rise k middle q₂ (omega (arith, h.within))) b)
              (eq-or-lt_of_le {n = k} {m = middle} (omega arith));
          above = h.above;
        }

    pub halved_high : before (thing (get_or order middle 0)) (thing n) ≡ false → Halved thing order n low middle
    halved_high b =
        record {
          fits = l;
          within = omega (arith, h.within);
          below = h.below;
          above =
              λ k q s.
              ⊎_elim
              (λ e. rw (← e) b)
              (λ q₂.
              ⊎_elim
              (λ t. clash (before (thing (get_or order middle 0)) (thing n)) (before_trans (thing (get_or order middle 0)) (thing (get_or order k 0)) (thing n) (o.rise middle k q₂ s) t) b)
              (λ f. f)
              (outcome (before (thing (get_or order k 0)) (thing n))))
              (eq-or-lt_of_le q);
        }

-- ---- a thing more

module _ (thing : ℕ → List ℕ) (order : List ℕ) (n at : ℕ) (o : Ordered thing order n) (p : Placed thing order n at) where
  -- the thing n differs from all before it, if it differs from the one at its place
  differs : (at < n → same_bytes (thing n) (thing (get_or order at 0)) ≡ false) → (k : ℕ) → k < n → same_bytes (thing n) (thing (get_or order k 0)) ≡ false
  differs d k l = ⊎_elim (λ t. absurd (never (same_equal (thing n) (thing (get_or order k 0)) t))) (λ f. f) (outcome (same_bytes (thing n) (thing (get_or order k 0))))
    where
      never : thing n ≡ thing (get_or order k 0) → ⊥
      never e = ⊎_elim in_front (λ f. not_in_front (ltb-false k at f)) (outcome (ltb k at))
        where
          in_front : ltb k at ≡ true → ⊥
          in_front t = true_false (sym (p.low k (ltb-true k at t)) ∙ rw e (before_self (thing (get_or order k 0))))

          not_in_front : at ≤ k → ⊥
          not_in_front q =
              ⊎_elim
              (λ s.
              let there : thing (get_or order k 0) ≡ thing (get_or order at 0) = ap (λ (j : ℕ). thing (get_or order j 0)) (sym s) in
              let same : same_bytes (thing n) (thing (get_or order at 0)) ≡ true = rw (e, there) (same_refl (thing (get_or order at 0))) in
              true_false (sym same ∙ d (omega arith)))
              (λ s. true_false (sym (o.rise at k s l) ∙ (rw e at (p.high at (omega arith) (omega arith)))))
              (eq-or-lt_of_le q)

  pub differs_all : (at < n → same_bytes (thing n) (thing (get_or order at 0)) ≡ false) → all_below n (λ j. not (same_bytes (thing n) (thing j))) ≡ true
  differs_all d =
      all_of (λ j. not (same_bytes (thing n) (thing j))) n
      (λ j l.
      let there = o.all j l in
      rw (← there.2, differs d there.0 there.1) refl)

  module _ (left : List ℕ) (i : Inserted order left n at n) (d : (at < n → same_bytes (thing n) (thing (get_or order at 0)) ≡ false)) where
    -- a place of the new order, by where it lies
    by_place : {A : Type 0} (k : ℕ) → (k < at → A) → (k ≡ at → A) → (at < k → A) → A
    by_place k f g h =
        ⊎_elim (λ t. f (ltb-true k at t)) (λ t. ⊎_elim (λ e. g (sym e)) h (eq-or-lt_of_le (ltb-false k at t))) (outcome (ltb k at))

    new : (k : ℕ) → k ≡ at → get_or left k 0 ≡ n
    new k e = ap (λ (j : ℕ). get_or left j 0) e ∙ i.here

    moved : (k : ℕ) → at < k → k ≤ n → get_or left k 0 ≡ get_or order (k - 1) 0
    moved k l h =
        let there : k ≡ k - 1 + 1 = omega arith in
        ap (λ (j : ℕ). get_or left j 0) there ∙ i.back (k - 1) (omega arith) (omega arith)

    -- what does not stand before the new thing stands behind it
    behind : (k : ℕ) → at ≤ k → k < n → before (thing n) (thing (get_or order k 0)) ≡ true
    behind k l h =
        before_total (thing (get_or order k 0)) (thing n) (p.high k l h)
        (λ e. true_false (sym (rw (← e) (same_refl (thing (get_or order k 0)))) ∙ differs d k h))

    pub ordered_more : Ordered thing left (n + 1)
    ordered_more =
        record {
          known =
              λ k l.
              by_place k
              (λ q. rw (i.front k q) (omega (arith, o.known k (omega (arith, p.within)))))
              (λ q. rw (new k q) (omega arith))
              (λ q. rw (moved k q (omega arith)) (omega (arith, o.known (k - 1) (omega arith))));
          all =
              λ j l.
              ⊎_elim
              (λ e. (at, omega (arith, p.within), i.here ∙ sym e))
              (λ l₂.
              let there = o.all j l₂ in
              ⊎_elim
              (λ t. (there.0, omega (arith, there.1), i.front there.0 (ltb-true there.0 at t) ∙ there.2))
              (λ f. (there.0 + 1, omega (arith, there.1), i.back there.0 (ltb-false there.0 at f) there.1 ∙ there.2))
              (outcome (ltb there.0 at)))
              (eq-or-lt_of_le {n = j} {m = n} (omega arith));
          rise =
              λ k l q h.
              by_place l
              (λ s. rw (i.front k (omega arith), i.front l s) (o.rise k l q (omega (arith, p.within))))
              (λ s. rw (i.front k (omega arith), new l s) (p.low k (omega arith)))
              (λ s.
              by_place k
              (λ r. rw (i.front k r, moved l s (omega arith)) (o.rise k (l - 1) (omega arith) (omega arith)))
              (λ r. rw (new k r, moved l s (omega arith)) (behind (l - 1) (omega arith) (omega arith)))
              (λ r. rw (moved k r (omega arith), moved l s (omega arith)) (o.rise (k - 1) (l - 1) (omega arith) (omega arith))));
        }

-- ---- nothing is in order yet

pub ordered_none : (thing : ℕ → List ℕ) (order : List ℕ) → Ordered thing order 0
ordered_none thing order = record { known = λ k l. absurd (omega arith); all = λ j l. absurd (omega arith); rise = λ k l q h. absurd (omega arith) }

-- ---- a number put at a place, from the back

-- so far those from j on are one place further back, and those in front of j where they were
pub record Shifted (was now : List ℕ) (n j : ℕ) : Type 0 where
  pub long : length now ≡ length was
  pub front : (k : ℕ) → k < j → get_or now k 0 ≡ get_or was k 0
  pub back : (k : ℕ) → j ≤ k → k < n → get_or now (k + 1) 0 ≡ get_or was k 0

pub shifted_none : (was : List ℕ) (n : ℕ) → Shifted was was n n
shifted_none was n = record { long = refl; front = λ k l. refl; back = λ k l h. absurd (omega arith) }

module _ (was now : List ℕ) (n j : ℕ) (s : Shifted was now n j) (few : n < length was) where
  pub shifted_more : (at : ℕ) → at < j → j ≤ n → Shifted was (set now j (get_or now (j - 1) 0)) n (j - 1)
  shifted_more at l h =
      record {
        long = length-set now j (get_or now (j - 1) 0) ∙ s.long;
        front = λ k q. get_or-set_other now j k (get_or now (j - 1) 0) 0 (λ e. absurd (omega arith)) ∙ s.front k (omega arith);
        back =
            λ k q m.
            ⊎_elim
            (λ e.
            let there : k + 1 ≡ j = omega arith in
            rw (there, get_or-set_same now j (get_or now (j - 1) 0) 0 (omega (arith, s.long)), e) (s.front k (omega arith)))
            (λ q₂.
            get_or-set_other now j (k + 1) (get_or now (j - 1) 0) 0 (λ e. absurd (omega arith)) ∙ s.back k (omega arith) m)
            (eq-or-lt_of_le q);
      }

  pub shifted_end : (at number : ℕ) → at ≡ j → at ≤ n → Inserted was (set now at number) n at number
  shifted_end at number e h =
      record {
        long = length-set now at number ∙ s.long;
        front = λ k q. get_or-set_other now at k number 0 (λ z. absurd (omega arith)) ∙ s.front k (omega arith);
        here = get_or-set_same now at number 0 (omega (arith, s.long));
        back = λ k q m. get_or-set_other now at (k + 1) number 0 (λ z. absurd (omega arith)) ∙ s.back k (omega arith) m;
      }
