-- Laws on chains of records.
use mathlib.Core.Path.{◌≡◌, refl, sym, ap, ◌∙◌, subst}
use mathlib.Core.Bool.{Bool, true, false, not}
use mathlib.Core.List.{List}
use mathlib.Core.Logic.{⊎_elim}
use Prim.Native.Nat.{ℕ, zero, suc, ◌+◌, ◌*◌, ◌/◌, ◌%◌, ◌-◌, ◌<◌, ◌≤◌}
use native.Mathlib.Nat.{le_of_suc-le-suc, not-suc-le-zero, eq-or-lt_of_le}
use native.Mathlib.Numerals.{add-one}
use native.Mathlib.Omega.{arith}
use borrow.Author.Count.{below_more}
use borrow.Author.Tests.{eqb-true, eqb-false, eq-eqb, ne_eqb, lt-ltb, le-ltb, ltb-true, ltb-false}
use lib.Dec.{eqb, ltb}
use lib.ListN.{length, get_or, set, length-set}
use lib.Seq.{get_or-set_same, get_or-set_other}
use Rattle.table_records.specs.Bytes.{same_bytes}
use Rattle.table_records.specs.Records.{record_at}
use Rattle.table_distinct.specs.WorkingChains.{light_first, stirred, blocks, mix_of, hash_of, hash_at, last_below, ChainLinked}
use Rattle.table_records.specs.Working.{fresh}
use Rattle.table_records.proofs.Bytes.{same_equal}
use Rattle.table_records.specs.Below.{all_below, none_twice}
use Rattle.bytes_number.proofs.Truth.{outcome}
use Rattle.table_records.proofs.Below.{all_of, all_fails, none-none, none_more}

-- ---- the hash by its steps, in the code's order

pub stirred_is : (h a b : ℕ) (xs : List ℕ) (at : ℕ) → a ≡ light_first (get_or xs at 0) (get_or xs (at + 1) 0) (get_or xs (at + 2) 0) (get_or xs (at + 3) 0) → b ≡ light_first (get_or xs (at + 4) 0) (get_or xs (at + 5) 0) (get_or xs (at + 6) 0) (get_or xs (at + 7) 0) → (h * 2135587861 + a * 1540483477 + b) % 4294967296 ≡ stirred h xs at
unfolding stirred
stirred_is h a b xs at p q = rw (p, q) refl

pub blocks-none : (xs : List ℕ) → blocks xs 0 ≡ 0
unfolding blocks
blocks-none xs = refl

pub blocks_more : (xs : List ℕ) (k : ℕ) → blocks xs (k + 1) ≡ stirred (blocks xs k) xs (k * 8)
unfolding blocks
blocks_more xs k = rw add-one refl

pub mix_short : (xs : List ℕ) → length xs < 8 → mix_of xs ≡ 0
unfolding mix_of
mix_short xs h = rw (lt-ltb (length xs) 8 h) refl

pub mix_whole : (xs : List ℕ) → 8 ≤ length xs → mix_of xs ≡ stirred (blocks xs (length xs / 8)) xs (length xs - 8)
unfolding mix_of
mix_whole xs h = rw (le-ltb (length xs) 8 h) refl

pub hash_is : (xs : List ℕ) → hash_of xs ≡ mix_of xs * 1540483477 % 4294967296 / 1048576
unfolding hash_of
hash_is xs = refl

module _ (hash : ℕ → ℕ) where
  pub last_none : (h : ℕ) → last_below hash 0 h ≡ 0
  unfolding last_below
  last_none h = refl

  pub last_here : (i : ℕ) → last_below hash (i + 1) (hash i) ≡ i + 1
  unfolding last_below
  last_here i = rw (add-one, eq-eqb (hash i) (hash i) refl) refl

  pub last_other : (i h : ℕ) → (hash i ≡ h → ⊥) → last_below hash (i + 1) h ≡ last_below hash i h
  unfolding last_below
  last_other i h e = rw (add-one, ne_eqb (hash i) h e) refl

  pub last_le : (i h : ℕ) → last_below hash i h ≤ i
  unfolding last_below
  last_le zero h = omega arith
  last_le (suc i) h =
      ⊎_elim (λ e. rw e (omega arith)) (λ e. rw e (omega (arith, last_le i h))) (outcome (eqb (hash i) h))

  -- the last index below i with the hash h has it
  pub last_has : (i h j : ℕ) → last_below hash i h ≡ suc j → hash j ≡ h
  unfolding last_below
  last_has zero h j e = absurd (omega arith)
  last_has (suc i) h j e =
      ⊎_elim
      (λ t. let at : i ≡ j = omega (arith, rw t at e) in rw (← at) (eqb-true (hash i) h t))
      (λ f. last_has i h j (rw f at e))
      (outcome (eqb (hash i) h))

  -- and none behind it does
  pub last_after : (i h j : ℕ) → j < i → last_below hash i h ≤ j → hash j ≡ h → ⊥
  unfolding last_below
  last_after zero h j l p e = not-suc-le-zero l
  last_after (suc i) h j l p e =
      ⊎_elim
      (λ t. let q : suc i ≤ j = rw t at p in omega arith)
      (λ f. let q : last_below hash i h ≤ j = rw f at p in
      ⊎_elim (λ s. eqb-false (hash i) h f (rw (← s) e)) (λ s. last_after i h j s q e) (eq-or-lt_of_le (le_of_suc-le-suc l)))
      (outcome (eqb (hash i) h))

-- A search of the chain of h among the indices below i, for one that is the same: `at` is the next to be compared, plus 1.
pub record Searched (hash : ℕ → ℕ) (same : ℕ → Bool) (h i at : ℕ) : Type 0 where
  pub within : at ≤ i
  pub chained : (j : ℕ) → at ≡ suc j → hash j ≡ h
  pub passed : (j : ℕ) → j < i → at ≤ j → same j ≡ false

-- what is the same has the same hash
module _ (hash : ℕ → ℕ) (same : ℕ → Bool) (h i : ℕ) (like : (j : ℕ) → same j ≡ true → hash j ≡ h) where
  -- those of another hash are not the same
  unlike : (j : ℕ) → (hash j ≡ h → ⊥) → same j ≡ false
  unlike j e = ⊎_elim (λ t. absurd (e (like j t))) (λ f. f) (outcome (same j))

  pub searched_start : Searched hash same h i (last_below hash i h)
  searched_start =
      record {
        within = last_le hash i h;
        chained = λ j e. last_has hash i h j e;
        passed = λ j l p. unlike j (last_after hash i h j l p);
      }

  pub searched_more : (j : ℕ) → Searched hash same h i (suc j) → same j ≡ false → Searched hash same h i (last_below hash j (hash j))
  searched_more j s e =
      rw (s.chained j refl)
      (record {
        within = omega (arith, last_le hash j h, s.within);
        chained = λ k q. last_has hash j h k q;
        passed =
            λ k l p.
            ⊎_elim
            (λ b. unlike k (last_after hash j h k (ltb-true k j b) p))
            (λ b. ⊎_elim (λ q. rw (← q) e) (λ q. s.passed k l q) (eq-or-lt_of_le (ltb-false k j b)))
            (outcome (ltb k j));
      })

  pub searched_end : Searched hash same h i 0 → all_below i (λ j. not (same j)) ≡ true
  searched_end s = all_of (λ j. not (same j)) i (λ j l. rw (s.passed j l (omega arith)) refl)

  pub searched_hit : (j : ℕ) → Searched hash same h i (suc j) → same j ≡ true → all_below i (λ j. not (same j)) ≡ false
  searched_hit j s e = all_fails (λ j. not (same j)) i j s.within (rw e refl)

-- equal records have equal hashes
pub like_records : (width : ℕ) (table : List ℕ) (i j : ℕ) → same_bytes (record_at width table i) (record_at width table j) ≡ true → hash_at width table j ≡ hash_at width table i
like_records width table i j e = ap hash_of (sym (same_equal (record_at width table i) (record_at width table j) e))

-- the search for a record that is equal to record i
abbrev pub Among : ℕ → List ℕ → ℕ → ℕ → Type 0
Among width table i at = Searched (hash_at width table) (λ j. same_bytes (record_at width table i) (record_at width table j)) (hash_at width table i) i at

module _ (width : ℕ) (table : List ℕ) (i : ℕ) where
  pub among_start : (start : ℕ) → start ≡ last_below (hash_at width table) i (hash_at width table i) → Among width table i start
  among_start start e =
      rw e (searched_start (hash_at width table) (λ j. same_bytes (record_at width table i) (record_at width table j)) (hash_at width table i) i (like_records width table i))

  pub among_end : (at : ℕ) → at ≡ 0 → Among width table i at → fresh width table i ≡ true
  among_end at e s =
      searched_end (hash_at width table) (λ j. same_bytes (record_at width table i) (record_at width table j)) (hash_at width table i) i (like_records width table i) (rw e at s)

  module _ (at : ℕ) (s : Among width table i at) (some : (at ≡ 0 → ⊥)) where
    at_suc : at ≡ suc (at - 1)
    at_suc = omega arith

    pub among_hit : same_bytes (record_at width table i) (record_at width table (at - 1)) ≡ true → fresh width table i ≡ false
    among_hit e =
        searched_hit (hash_at width table) (λ j. same_bytes (record_at width table i) (record_at width table j)) (hash_at width table i) i (like_records width table i) (at - 1)
        (subst (λ (k : ℕ). Among width table i k) at_suc s) e

    module _ (next : List ℕ) (linked : ChainLinked (hash_at width table) next i) where
      pub next_less : get_or next (at - 1) 0 < at
      next_less = omega (arith, last_le (hash_at width table) (at - 1) (hash_at width table (at - 1)), linked (at - 1) (omega (arith, s.within)))

      pub among_more : same_bytes (record_at width table i) (record_at width table (at - 1)) ≡ false → Among width table i (get_or next (at - 1) 0)
      among_more e =
          rw (linked (at - 1) (omega (arith, s.within)))
          (searched_more (hash_at width table) (λ j. same_bytes (record_at width table i) (record_at width table j)) (hash_at width table i) i (like_records width table i) (at - 1)
          (subst (λ (k : ℕ). Among width table i k) at_suc s) e)

-- What stands in the two arrays once the records below i are in their chains, none of which is there twice.
pub record Chained (width : ℕ) (table head next : List ℕ) (i : ℕ) : Type 0 where
  pub heads : length head ≡ 4096
  pub nexts : length next ≡ 1024
  pub ends : (h : ℕ) → h < 4096 → get_or head h 0 ≡ last_below (hash_at width table) i h
  pub linked : ChainLinked (hash_at width table) next i
  pub none : none_twice (λ i j. same_bytes (record_at width table i) (record_at width table j)) i ≡ true

module _ (width : ℕ) (table : List ℕ) where
  pub chained_start : (head next : List ℕ) → length head ≡ 4096 → length next ≡ 1024 → ((h : ℕ) → h < 4096 → get_or head h 0 ≡ 0) → Chained width table head next 0
  chained_start head next e f z =
      record {
        heads = e;
        nexts = f;
        ends = λ h l. z h l ∙ sym (last_none (hash_at width table) h);
        linked = λ j l. absurd (not-suc-le-zero l);
        none = none-none (λ i j. same_bytes (record_at width table i) (record_at width table j));
      }

  module _ (head next : List ℕ) (i h : ℕ) (s : Chained width table head next i) where
    pub start_is : h ≡ hash_at width table i → h < 4096 → get_or head h 0 ≡ last_below (hash_at width table) i (hash_at width table i)
    start_is e l = s.ends h l ∙ rw e refl

    pub chained_more : (v : ℕ) → v ≡ get_or head h 0 → i < 1024 → h ≡ hash_at width table i → h < 4096 → fresh width table i ≡ true → Chained width table (set head h (i + 1)) (set next i v) (i + 1)
    chained_more v is li e lh f =
        record {
          heads = length-set head h (i + 1) ∙ s.heads;
          nexts = length-set next i v ∙ s.nexts;
          ends =
              λ k l.
              ⊎_elim
              (λ t.
              let at : k ≡ h = eqb-true k h t in
              rw (at, get_or-set_same head h (i + 1) 0 (omega (arith, s.heads)), e) (sym (last_here (hash_at width table) i)))
              (λ t.
              get_or-set_other head h k (i + 1) 0 (λ q. eqb-false k h t q)
              ∙ s.ends k l ∙ sym (last_other (hash_at width table) i k (λ q. eqb-false k h t (sym q ∙ sym e))))
              (outcome (eqb k h));
          linked =
              below_more (λ j. get_or (set next i v) j 0 ≡ last_below (hash_at width table) j (hash_at width table j)) i
              (λ j l. get_or-set_other next i j v 0 (λ q. absurd (omega arith)) ∙ s.linked j l)
              (get_or-set_same next i v 0 (omega (arith, s.nexts)) ∙ is ∙ start_is e lh);
          none = none_more (λ i j. same_bytes (record_at width table i) (record_at width table j)) i s.none f;
        }
