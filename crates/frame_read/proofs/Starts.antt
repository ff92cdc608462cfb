-- The four bytes in front of a frame, compared as one number.
use mathlib.Core.Path.{◌≡◌, refl, sym, ap, ◌∙◌}
use mathlib.Core.Bool.{Bool, true, false, ◌&&◌}
use Prim.Native.Nat.{ℕ, ◌+◌, ◌*◌, ◌<◌}
use mathlib.Core.List.{List}
use native.Mathlib.Omega.{arith}
use borrow.Author.Tests.{eq-eqb, ne_eqb}
use lib.Dec.{eqb}
use lib.ListN.{get_or}
use Rattle.bytes_number.specs.Number.{number, Bytes}
use Rattle.bytes_number.proofs.Numbers.{bytes_at}
use Rattle.bytes_number.proofs.Truth.{true_false}
use Rattle.frame_message.proofs.Frames.{start_four}
use Rattle.frame_message.specs.Reading.{starts_right}

-- four bytes, and the number that they are
module _ (n p q r t : ℕ) (bq : q < 256) (br : r < 256) (bt : t < 256) (is : n ≡ p * 16777216 + q * 65536 + r * 256 + t) where
  abbrev each : Bool
  each = eqb p 255 && (eqb q 238 && (eqb r 0 && eqb t 18))

  start_is : eqb n 4293787666 ≡ each
  start_is = go each refl
    where
      go : (all : Bool) → each ≡ all → eqb n 4293787666 ≡ all
      go true e = eq-eqb n 4293787666 (is ∙ ap number (start_four p q r t e))
      go false e =
          ne_eqb n 4293787666 (λ (k : n ≡ 4293787666).
          let same : each ≡ true = rw (eq-eqb p 255 (omega arith), eq-eqb q 238 (omega arith), eq-eqb r 0 (omega arith), eq-eqb t 18 (omega arith)) in
          true_false (sym same ∙ e))

pub start_tested : (b : List ℕ) → Bytes b → (n : ℕ) → n ≡ number b → eqb n 4293787666 ≡ starts_right b
start_tested b bytes n is = start_is n (get_or b 0 0) (get_or b 1 0) (get_or b 2 0) (get_or b 3 0) (bytes_at b 1 bytes) (bytes_at b 2 bytes) (bytes_at b 3 bytes) is
