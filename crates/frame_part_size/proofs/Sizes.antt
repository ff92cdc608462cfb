-- The size in front of a part: a law for each of its cases.
use mathlib.Core.Path.{◌≡◌, refl, sym, ap, ◌∙◌}
use Prim.Native.Nat.{ℕ, suc, ◌+◌, ◌-◌, ◌<◌, ◌≤◌}
use mathlib.Core.List.{List, [], ◌∷◌}
use native.Mathlib.Omega.{arith}
use borrow.Author.Tests.{lt-ltb, le-ltb}
use native.Mathlib.Decide.{dec_lt}
use lib.ListN.{length, get_or, take, drop, length-drop}
use lib.Seq.{length-take-le}
use Rattle.bytes_number.specs.Number.{number}
use Rattle.refusal.specs.declared.Refusal.TheVariants.{PartWrong}
use Rattle.refusal.specs.Answer.{refused, answered}
use Rattle.frame_message.specs.Frame.{size_bytes}
use Rattle.frame_message.specs.Reading.{first_part}
use Rattle.std.specs.Prelude.{Some, None, slice_get}
use Rattle.frame_message.specs.declared.Stretch.{Stretch}
use Rattle.frame_part_size.specs.WorkingSizes.{data_at, sized_as, size_at}

-- ---- the part itself

module _ (x : ℕ) (xs : List ℕ) where
  pub short_cut : x < 255 → x ≤ length xs → first_part x xs ≡ answered (take x xs, drop x xs)
  unfolding first_part
  short_cut h k = rw (lt-ltb x 255 h, le-ltb (length xs) x k)

  short_passes : x < 255 → length xs < x → first_part x xs ≡ refused PartWrong
  unfolding first_part
  short_passes h k = rw (lt-ltb x 255 h, lt-ltb (length xs) x k)

  no_size : 255 ≤ x → length xs < 4 → first_part x xs ≡ refused PartWrong
  unfolding first_part
  no_size h k = rw (le-ltb x 255 h, lt-ltb (length xs) 4 k)

  small_size : 255 ≤ x → 4 ≤ length xs → number xs < 255 → first_part x xs ≡ refused PartWrong
  unfolding first_part
  small_size h k l = rw (le-ltb x 255 h, le-ltb (length xs) 4 k, lt-ltb (number xs) 255 l)

  long_passes : 255 ≤ x → 4 ≤ length xs → 255 ≤ number xs → length (drop 4 xs) < number xs → first_part x xs ≡ refused PartWrong
  unfolding first_part
  long_passes h k l m = rw (le-ltb x 255 h, le-ltb (length xs) 4 k, le-ltb (number xs) 255 l, lt-ltb (length (drop 4 xs)) (number xs) m)

  pub long_cut : 255 ≤ x → 4 ≤ length xs → 255 ≤ number xs → number xs ≤ length (drop 4 xs) → first_part x xs ≡ answered (take (number xs) (drop 4 xs), drop (number xs) (drop 4 xs))
  unfolding first_part
  long_cut h k l m = rw (le-ltb x 255 h, le-ltb (length xs) 4 k, le-ltb (number xs) 255 l, le-ltb (length (drop 4 xs)) (number xs) m)

-- ---- where its data starts, and how long it is

sized_short : (n : ℕ) → n < 255 → length (size_bytes n) ≡ 1
sized_short n h = rw (lt-ltb n 255 h)

sized_long : (n : ℕ) → 255 ≤ n → length (size_bytes n) ≡ 5
sized_long n h = rw (le-ltb n 255 h)

pub size_none : (s : List ℕ) → length s ≡ 0 → None ≡ size_at s
size_none [] h = refl
size_none (x ∷ xs) h = absurd (omega arith)

pub no_data : {A : Type 0} {x : A} → None ≡ Some x → ⊥
no_data e = let z : ◌≡◌ {A = ℕ} 0 1 = cc in omega arith

-- there is a first byte
pub first_byte : (s : List ℕ) {x : ℕ} → Some x ≡ slice_get s 0 → (0 < length s) × (x ≡ get_or s 0 0)
first_byte [] e = absurd (no_data (sym e))
first_byte (y ∷ xs) e = (omega arith, cc)

-- the size byte is below 255
pub size_short : (s : List ℕ) (n : ℕ) → 0 < length s → n ≡ get_or s 0 0 → n < 255 → data_at (length s) 1 n ≡ size_at s
size_short [] n p e h = absurd (omega arith)
size_short (x ∷ xs) n p e h = go (dec_lt (length xs) x)
  where
    small : x < 255
    small = omega arith

    go : Dec (length xs < x) → data_at (suc (length xs)) 1 n ≡ size_at (x ∷ xs)
    go (yes k) = rw (e, short_passes x xs small k, lt-ltb (suc (length xs)) (1 + x) (omega arith))
    go (no k) =
        let fits : x ≤ length xs = omega arith in
        rw (e, short_cut x xs small fits, length-take-le x xs fits, sized_short x small, le-ltb (suc (length xs)) (1 + x) (omega arith))

pub size_short_passes : (s : List ℕ) → 0 < length s → get_or s 0 0 < 255 → length s - 1 < get_or s 0 0 → None ≡ size_at s
size_short_passes [] p h k = absurd (omega arith)
size_short_passes (x ∷ xs) p h k = rw (short_passes x xs h (omega arith))

-- it is 255, and the size has four bytes more: n is the number in them
pub size_cut : (s : List ℕ) → 0 < length s → 255 ≤ get_or s 0 0 → length s - 1 < 4 → None ≡ size_at s
size_cut [] p h k = absurd (omega arith)
size_cut (x ∷ xs) p h k = rw (no_size x xs h (omega arith))

module _ (x : ℕ) (xs : List ℕ) (n : ℕ) (e : n ≡ number xs) (h : 255 ≤ x) where
  long_small : n < 255 → first_part x xs ≡ refused PartWrong
  long_small l = go (dec_lt (length xs) 4)
    where
      go : Dec (length xs < 4) → first_part x xs ≡ refused PartWrong
      go (yes k) = no_size x xs h k
      go (no k) = small_size x xs h (omega arith) (rw e at l)

  long_data : 255 ≤ n → data_at (suc (length xs)) 5 n ≡ size_at (x ∷ xs)
  long_data l = go (dec_lt (length xs) (4 + n))
    where
      short : length xs < 4 + n → Dec (length xs < 4) → first_part x xs ≡ refused PartWrong
      short m (yes k) = no_size x xs h k
      short m (no k) = long_passes x xs h (omega arith) (rw e at l) (omega (arith, length-drop 4 xs, e))

      go : Dec (length xs < 4 + n) → data_at (suc (length xs)) 5 n ≡ size_at (x ∷ xs)
      go (yes m) = rw (short m (dec_lt (length xs) 4), lt-ltb (suc (length xs)) (5 + n) (omega arith))
      go (no m) =
          let fits : number xs ≤ length (drop 4 xs) = omega (arith, length-drop 4 xs, e) in
          rw (le-ltb (suc (length xs)) (5 + n) (omega arith), long_cut x xs h (omega arith) (rw e at l) fits, length-take-le (number xs) (drop 4 xs) fits, sized_long (number xs) (rw e at l), e)

pub size_small : (s : List ℕ) (n : ℕ) → n ≡ number (drop 1 s) → 255 ≤ get_or s 0 0 → n < 255 → None ≡ size_at s
size_small [] n e h l = absurd (omega arith)
size_small (x ∷ xs) n e h l = rw (long_small x xs n e h l)

pub size_long : (s : List ℕ) (n : ℕ) → n ≡ number (drop 1 s) → 255 ≤ get_or s 0 0 → 255 ≤ n → data_at (length s) 5 n ≡ size_at s
size_long [] n e h l = absurd (omega arith)
size_long (x ∷ xs) n e h l = long_data x xs n e h l

pub size_long_passes : (s : List ℕ) (n : ℕ) → 255 ≤ get_or s 0 0 → 4 ≤ length s - 1 → n ≡ number (drop 1 s) → 255 ≤ n → length s - 1 - 4 < n → None ≡ size_at s
size_long_passes [] n h k e l m = absurd (omega arith)
size_long_passes (x ∷ xs) n h k e l m = rw (long_passes x xs h (omega arith) (rw e at l) (simp length-drop (rw e at (left m))))
  where
    left : suc (length xs) - 1 - 4 < n → length xs - 4 < n
    left m = omega arith

-- ---- the other way: what the size tells of the part

-- a part's size is wrong, or the part was cut
data FirstCase (x : ℕ) (xs : List ℕ) : Type 0 where
  passes : first_part x xs ≡ refused PartWrong → FirstCase x xs
  cuts : (cut : List ℕ × List ℕ) → first_part x xs ≡ answered cut → FirstCase x xs

first_case : (x : ℕ) (xs : List ℕ) → FirstCase x xs
first_case x xs = short (dec_lt x 255)
  where
    short_fits : x < 255 → Dec (length xs < x) → FirstCase x xs
    short_fits h (yes k) = passes (short_passes x xs h k)
    short_fits h (no k) = cuts _ (short_cut x xs h (omega arith))

    long_fits : 255 ≤ x → 4 ≤ length xs → 255 ≤ number xs → Dec (length (drop 4 xs) < number xs) → FirstCase x xs
    long_fits h k l (yes m) = passes (long_passes x xs h k l m)
    long_fits h k l (no m) = cuts _ (long_cut x xs h k l (omega arith))

    long_enough : 255 ≤ x → 4 ≤ length xs → Dec (number xs < 255) → FirstCase x xs
    long_enough h k (yes l) = passes (small_size x xs h k l)
    long_enough h k (no l) = long_fits h k (omega arith) (dec_lt (length (drop 4 xs)) (number xs))

    long : 255 ≤ x → Dec (length xs < 4) → FirstCase x xs
    long h (yes k) = passes (no_size x xs h k)
    long h (no k) = long_enough h (omega arith) (dec_lt (number xs) 255)

    short : Dec (x < 255) → FirstCase x xs
    short (yes h) = short_fits h (dec_lt (length xs) x)
    short (no h) = long (omega arith) (dec_lt (length xs) 4)

pub part_wrong : (x : ℕ) (xs : List ℕ) → None ≡ sized_as (first_part x xs) → first_part x xs ≡ refused PartWrong
part_wrong x xs e = go (first_case x xs)
  where
    go : FirstCase x xs → first_part x xs ≡ refused PartWrong
    go (passes f) = f
    go (cuts cut f) = absurd (no_data (e ∙ ap sized_as f))

-- the part that was cut, by the size found
pub record CutBy (x : ℕ) (xs : List ℕ) (start len : ℕ) : Type 0 where
  pub cut : List ℕ × List ℕ
  pub first : first_part x xs ≡ answered cut
  pub starts : start ≡ length (size_bytes (length cut.0))
  pub long : len ≡ length cut.0

pub part_cut : (x : ℕ) (xs : List ℕ) (size : Stretch) → Some size ≡ sized_as (first_part x xs) → CutBy x xs size.start size.len
part_cut x xs size e = go (first_case x xs)
  where
    go : FirstCase x xs → CutBy x xs size.start size.len
    go (passes f) = absurd (no_data (sym (e ∙ ap sized_as f)))
    go (cuts cut f) =
        let same : Some size ≡ Some (record { start = length (size_bytes (length cut.0)); len = length cut.0 }) = e ∙ ap sized_as f in
        record { cut = cut; first = f; starts = cc; long = cc }
