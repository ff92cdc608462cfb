-- Two tests that answer alike at every byte end alike: so a table of a test's answers serves in its place.
use Rattle.std.specs.List.{prefix_len}
use mathlib.Core.Path.{◌≡◌, refl, ap, ◌∙◌}
use mathlib.Core.Bool.{Bool, cond}
use mathlib.Core.List.{List, [], ◌∷◌}
use Prim.Native.Nat.{ℕ, ◌+◌, ◌<◌}
use lib.Dec.{eqb}
use lib.ListN.{take, drop}
use Rattle.std.specs.Prelude.{Ok, Err}
use Rattle.bytes_number.specs.Number.{Bytes}
use Rattle.bytes_number.proofs.Numbers.{bytes_take, bytes_drop}
use Rattle.json_scan.specs.WorkingEnds.{end_of, run_of}

-- they answer alike at every byte
abbrev pub SameAnswers : (ℕ → Bool) → (ℕ → Bool) → Type 0
SameAnswers t u = (c : ℕ) → c < 256 → t c ≡ u c

module _ (t u : ℕ → Bool) (same : SameAnswers t u) where
  pub front_alike : (xs : List ℕ) → Bytes xs → prefix_len t xs ≡ prefix_len u xs
  front_alike [] are = refl
  front_alike (x ∷ xs) are = ap (λ (b : Bool). cond b (1 + prefix_len t xs) 0) (same x are.0) ∙ ap (λ (n : ℕ). cond (u x) (1 + n) 0) (front_alike xs are.1)

  pub end_alike : (bytes : List ℕ) (at : ℕ) → Bytes bytes → end_of t bytes at ≡ end_of u bytes at
  end_alike bytes at are = ap (λ (n : ℕ). at + n) (front_alike (drop at bytes) (bytes_drop at bytes are))

  pub run_alike : (count at : ℕ) (xs : List ℕ) → Bytes xs → run_of t count at xs ≡ run_of u count at xs
  run_alike count at xs are = ap (λ (m : ℕ). cond (eqb m count) (Ok (at + m)) (Err (at + m))) (front_alike (take count xs) (bytes_take count xs are))
