-- The eight bytes in front: a law for each way through the reader's first tests.
use mathlib.Core.Path.{◌≡◌, sym, ap, ◌∙◌}
use mathlib.Core.Bool.{true, false}
use Prim.Native.Nat.{ℕ, ◌+◌, ◌-◌, ◌<◌, ◌≤◌}
use mathlib.Core.List.{List}
use native.Mathlib.Omega.{arith}
use borrow.Author.Tests.{lt-ltb, le-ltb}
use lib.ListN.{length, take, drop, length-take}
use Rattle.refusal.specs.declared.Refusal.TheVariants.{InputShort, StartWrong, BodyLong}
use Rattle.refusal.specs.Answer.{refused, and_then}
use Rattle.bytes_number.specs.Number.{number}
use Rattle.frame_message.specs.Reading.{starts_right, body_length, parts_in, judged, reading_of}
use Rattle.frame_read.specs.WorkingFront.{Opens}

module _ (b : List ℕ) where
  pub open_short : length b < 8 → reading_of b ≡ refused InputShort
  unfolding reading_of
  open_short h = rw (lt-ltb (length b) 8 h)

  module _ (long : 8 ≤ length b) where
    pub open_start : starts_right b ≡ false → reading_of b ≡ refused StartWrong
    unfolding reading_of
    open_start e = rw (le-ltb (length b) 8 long, e)

    -- n is the body's length
    module _ (start : starts_right b ≡ true) (n : ℕ) (size : n ≡ number (drop 4 b)) where
      is_size : body_length b ≡ n
      is_size = sym size

      pub open_long : 32768 < n → reading_of b ≡ refused BodyLong
      unfolding reading_of
      open_long h = rw (le-ltb (length b) 8 long, start, is_size, lt-ltb 32768 n h)

      module _ (fits : n ≤ 32768) where
        pub open_cut : length b < 8 + n → reading_of b ≡ refused InputShort
        unfolding reading_of
        open_cut h = rw (le-ltb (length b) 8 long, start, is_size, le-ltb 32768 n fits, lt-ltb (length b) (8 + n) h)

        pub open_body : 8 + n ≤ length b → reading_of b ≡ and_then (parts_in 68 (take n (drop 8 b))) judged
        unfolding reading_of
        open_body h = rw (le-ltb (length b) 8 long, start, is_size, le-ltb 32768 n fits, le-ltb (length b) (8 + n) h)

        -- as a part of the slice has it
        pub opened : 8 + n ≤ length b → Opens b (take (8 + n - 8) (drop 8 b))
        opened h =
            let body : take (8 + n - 8) (drop 8 b) ≡ take n (drop 8 b) = let same : 8 + n - 8 ≡ n = omega arith in ap (λ (k : ℕ). take k (drop 8 b)) same in
            record {
              is = body ∙ ap (λ (k : ℕ). take k (drop 8 b)) size;
              short = omega (arith, length-take (8 + n - 8) (drop 8 b));
              fits = omega (arith, is_size);
              reading = open_body h ∙ ap (λ (xs : List ℕ). and_then (parts_in 68 xs) judged) (sym body);
            }
