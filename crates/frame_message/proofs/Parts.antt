-- The parts of a body: `parts_in` takes apart what `joined` puts together, and nothing else.
use mathlib.Core.Path.{◌≡◌, refl, sym, ap, ◌∙◌, ap₂, subst}
use Prim.Native.Nat.{ℕ, zero, suc, ◌<◌, ◌≤◌}
use mathlib.Core.Bool.{Bool, true, false, cond, ◌||◌}
use mathlib.Core.List.{List, [], ◌∷◌, ◌++◌, append_assoc}
use native.Mathlib.Omega.{arith}
use borrow.Author.Tests.{ltb-true, ltb-false, lt-ltb, le-ltb}
use lib.Dec.{ltb}
use lib.ListN.{length, take, drop, length-append, take-append-drop}
use lib.Seq.{length-take-le, take-append_seam, drop-append_seam}
use Rattle.bytes_number.specs.Number.{number, four, Bytes}
use Rattle.bytes_number.proofs.Numbers.{number_lt, number-four, four-number}
use Rattle.refusal.specs.declared.Refusal.TheVariants.{PartWrong}
use Rattle.refusal.specs.Answer.{answered, refuse_if}
use Rattle.frame_message.specs.Frame.{size_bytes, part_bytes, joined}
use Rattle.frame_message.specs.Reading.{cut_part, first_part, parts_in}
use Rattle.bytes_number.proofs.Truth.{or_left, or_right, or_neither}
use Rattle.refusal.proofs.Answers.{passed, pass, both, answered_same, not_answered}
use Rattle.frame_message.proofs.Lists.{Each, bytes-front, bytes_back}

-- a part whose length has a size of four bytes: a longer one could not be written
abbrev pub Sized : List ℕ → Type 0
Sized p = length p < 4294967296

pub joined-append : (ps qs : List (List ℕ)) → joined (ps ++ qs) ≡ joined ps ++ joined qs
joined-append [] qs = refl
joined-append (p ∷ ps) qs = rw (joined-append ps qs) (sym (append_assoc (part_bytes p) (joined ps) (joined qs)))

-- ---- a part and what is left behind it

-- n bytes were there, and were cut off
pub record Cut (n : ℕ) (xs : List ℕ) (cut : List ℕ × List ℕ) : Type 0 where
  pub same : xs ≡ cut.0 ++ cut.1
  pub long : length cut.0 ≡ n

cut_part_lem : (n : ℕ) (xs : List ℕ) (cut : List ℕ × List ℕ) → cut_part n xs ≡ answered cut → Cut n xs cut
cut_part_lem n xs cut e =
    let p = passed _ _ _ _ e in
    let parts = answered_same p.rest in
    record {
      same = rw (← parts) (sym (take-append-drop n xs));
      long = rw (← parts) (length-take-le n xs (ltb-false _ _ p.test));
    }

-- bytes that begin with a part
pub record First (b : List ℕ) (cut : List ℕ × List ℕ) : Type 0 where
  pub same : b ≡ part_bytes cut.0 ++ cut.1
  pub sized : Sized cut.0

-- a part's bytes, by its length
pub part_short : (p : List ℕ) → length p < 255 → part_bytes p ≡ length p ∷ p
part_short p h = rw (lt-ltb (length p) 255 h)

pub part_long : (p : List ℕ) → 255 ≤ length p → part_bytes p ≡ 255 ∷ (four (length p) ++ p)
part_long p h = rw (le-ltb (length p) 255 h)

first_short : (size : ℕ) (xs : List ℕ) (cut : List ℕ × List ℕ) → size < 255 → Cut size xs cut → First (size ∷ xs) cut
first_short size xs cut h c =
    record {
      same = rw (part_short cut.0 (omega (arith, c.long)), c.long) (ap (λ (t : List ℕ). size ∷ t) c.same);
      sized = omega (arith, c.long);
    }

first_long : (xs : List ℕ) (cut : List ℕ × List ℕ) → Bytes xs → 4 ≤ length xs → 255 ≤ number xs → Cut (number xs) (drop 4 xs) cut → First (255 ∷ xs) cut
first_long xs cut b l h c =
    let size : take 4 xs ≡ four (length cut.0) = sym (four-number xs l b) ∙ ap four (sym c.long) in
    let cuts : xs ≡ four (length cut.0) ++ (cut.0 ++ cut.1) = sym (take-append-drop 4 xs) ∙ ap₂ (λ (s t : List ℕ). s ++ t) size c.same in
    record {
      same = rw (part_long cut.0 (omega (arith, c.long))) (ap (λ (t : List ℕ). 255 ∷ t) (cuts ∙ sym (append_assoc (four (length cut.0)) cut.0 cut.1)));
      sized = omega (arith, c.long, number_lt xs b);
    }

pub first_split : (size : ℕ) (xs : List ℕ) (cut : List ℕ × List ℕ) → Bytes (size ∷ xs) → first_part size xs ≡ answered cut → First (size ∷ xs) cut
unfolding first_part
first_split size xs cut b e = go (ltb size 255) refl e
  where
    go : (t : Bool) → ltb size 255 ≡ t →
        cond t (cut_part size xs) (refuse_if (ltb (length xs) 4 || ltb (number xs) 255) PartWrong (cut_part (number xs) (drop 4 xs))) ≡ answered cut →
        First (size ∷ xs) cut
    go true t e = first_short size xs cut (ltb-true _ _ t) (cut_part_lem size xs cut e)
    go false t e =
        let full : 255 ≡ size = omega (arith, ltb-false size 255 t, b.0) in
        let p = passed _ _ _ _ e in
        subst (λ (n : ℕ). First (n ∷ xs) cut) full
        (first_long xs cut b.1 (ltb-false _ _ (or_left _ _ p.test)) (ltb-false _ _ (or_right (ltb (length xs) 4) _ p.test)) (cut_part_lem (number xs) (drop 4 xs) cut p.rest))

-- ---- the parts

-- bytes that are so many parts, one after another
pub record Split (most : ℕ) (b : List ℕ) (ps : List (List ℕ)) : Type 0 where
  pub same : b ≡ joined ps
  pub few : length ps ≤ most
  pub sized : Each Sized ps
  pub bytes : Each Bytes ps

split_none : (most : ℕ) (ps : List (List ℕ)) → answered [] ≡ answered ps → Split most [] ps
split_none most ps e = rw (← answered_same e) (record { same = refl; few = omega arith; sized = tt; bytes = tt })

split_more : (most : ℕ) (b : List ℕ) (cut : List ℕ × List ℕ) (ps : List (List ℕ)) → Bytes b → First b cut → (Bytes cut.1 → Split most cut.1 ps) →
    Split (suc most) b (cut.0 ∷ ps)
split_more most b cut ps h first more =
    let bytes : Bytes (part_bytes cut.0 ++ cut.1) = rw first.same at h in
    let rest = more (bytes_back (part_bytes cut.0) cut.1 bytes) in
    record {
      same = first.same ∙ ap (λ (t : List ℕ). part_bytes cut.0 ++ t) rest.same;
      few = omega (arith, rest.few);
      sized = (first.sized, rest.sized);
      bytes = (bytes_back (size_bytes (length cut.0)) cut.0 (bytes-front (part_bytes cut.0) cut.1 bytes), rest.bytes);
    }

-- the parts in bytes, put together again, are those bytes
pub split : (most : ℕ) (b : List ℕ) (ps : List (List ℕ)) → Bytes b → parts_in most b ≡ answered ps → Split most b ps
unfolding parts_in
split zero [] ps h e = split_none zero ps e
split zero (x ∷ xs) ps h e = absurd (not_answered e)
split (suc most) [] ps h e = split_none (suc most) ps e
split (suc most) (x ∷ xs) ps h e =
    let one = both (first_part x xs) _ ps e in
    let more = both (parts_in most one.value.1) _ ps one.second in
    rw (← answered_same more.second)
    (split_more most (x ∷ xs) one.value more.value h (first_split x xs one.value h one.first) (λ left. split most one.value.1 more.value left more.first))

-- ---- the other way

cut_join : (p rest : List ℕ) → cut_part (length p) (p ++ rest) ≡ answered (p, rest)
cut_join p rest =
    pass _ _ _ (le-ltb (length (p ++ rest)) (length p) (simp length-append (omega arith))) ∙ rw (take-append_seam p rest, drop-append_seam p rest)

long_join : (n : ℕ) (xs : List ℕ) (cut : List ℕ × List ℕ) → 4 ≤ length xs → number xs ≡ n → 255 ≤ n → cut_part n (drop 4 xs) ≡ answered cut →
    first_part 255 xs ≡ answered cut
unfolding first_part
long_join n xs cut l e h k =
    pass _ _ _ (or_neither _ _ (le-ltb (length xs) 4 l) (le-ltb (number xs) 255 (omega arith))) ∙ subst (λ (m : ℕ). cut_part m (drop 4 xs) ≡ answered cut) (sym e) k

-- a part begins with a byte of its size, and is read by it
pub record Begun (p rest : List ℕ) : Type 0 where
  pub size : ℕ
  pub left : List ℕ
  pub same : part_bytes p ++ rest ≡ size ∷ left
  pub read : first_part size left ≡ answered (p, rest)

pub first_join : (p rest : List ℕ) → Sized p → Begun p rest
unfolding first_part
first_join p rest h = go (ltb (length p) 255) refl
  where
    go : (t : Bool) → ltb (length p) 255 ≡ t → Begun p rest
    go true t = record { size = length p; left = p ++ rest; same = rw t; read = rw t (cut_join p rest) }
    go false t =
        let left = four (length p) ++ (p ++ rest) in
        record {
          size = 255;
          left = left;
          same = rw t (ap (λ (s : List ℕ). 255 ∷ s) (append_assoc (four (length p)) p rest));
          read = long_join (length p) left (p, rest) (omega arith) (number-four (length p) (p ++ rest) h) (ltb-false _ _ t) (cut_join p rest);
        }

-- parts put together are taken apart again
pub join : (most : ℕ) (ps : List (List ℕ)) → length ps ≤ most → Each Sized ps → parts_in most (joined ps) ≡ answered ps
unfolding parts_in
join zero [] l h = refl
join zero (p ∷ ps) l h = absurd (omega arith)
join (suc most) [] l h = refl
join (suc most) (p ∷ ps) l h =
    let first = first_join p (joined ps) h.0 in
    rw (first.same, first.read, join most ps (omega arith) h.1)

-- the parts of a body are no longer than it
pub joined_sized : (ps : List (List ℕ)) → length (joined ps) < 4294967296 → Each Sized ps
joined_sized [] h = tt
joined_sized (p ∷ ps) h =
    let part = length-append (size_bytes (length p)) p in
    let whole = length-append (part_bytes p) (joined ps) in
    (omega (arith, part, whole), joined_sized ps (omega (arith, part, whole)))
