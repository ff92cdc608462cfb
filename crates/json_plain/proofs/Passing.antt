-- What its marks tell of a word at a place: with none it is passed, and the lowest is where the bytes that stand for themselves end.
use Rattle.std.specs.List.{prefix_len}
use Rattle.std.proofs.Common.{◌≡◌, ℕ, zero, suc, ◌+◌, ◌/◌, ◌^◌, ◌<◌, ◌≤◌, min, Bool, true, false, cond, List, [], ◌∷◌, length, take, drop, ap, ◌∙◌, arith, length-drop, length-take-le}
use lib.Count.{trailing_of_zero}
use Rattle.bytes_number.specs.Number.{Bytes}
use Rattle.bytes_number.proofs.Numbers.{bytes_take, bytes_drop}
use Rattle.json_scan.specs.WorkingEnds.{end_of}
use Rattle.json_scan.proofs.Leading.{end_past}
use Rattle.json_plain.specs.WorkingPlain.{is_plain}
use Rattle.json_plain.specs.WorkingWords.{word_of, lowest_mark, Marks}
use Rattle.json_plain.proofs.Words.{trailing_lt}

lowest_none : (m : ℕ) → m ≡ 0 → lowest_mark m ≡ 8
unfolding lowest_mark
lowest_none m e = ap lowest_mark e ∙ ap (λ (n : ℕ). n / 8) (trailing_of_zero 64)

lowest_some : (m : ℕ) → m < 2 ^ 64 → (m ≡ 0 → ⊥) → lowest_mark m < 8
unfolding lowest_mark
lowest_some m l some = omega (arith, trailing_lt 64 m l some)

-- of the first k bytes as many pass as of all, if there are so many
leading-take : (test : ℕ → Bool) (k : ℕ) (xs : List ℕ) → prefix_len test (take k xs) ≡ min k (prefix_len test xs)
leading-take test zero xs = omega arith
leading-take test (suc k) [] = omega arith
leading-take test (suc k) (x ∷ xs) = go (leading-take test k xs) (test x)
  where
    go : prefix_len test (take k xs) ≡ min k (prefix_len test xs) → (t : Bool) → cond t (1 + prefix_len test (take k xs)) 0 ≡ min (suc k) (cond t (1 + prefix_len test xs) 0)
    go e true = omega arith
    go e false = omega arith

-- from a place on where the word has the marks m
pub record Told (bytes : List ℕ) (i m : ℕ) : Type 0 where
  pub passes : m ≡ 0 → end_of is_plain bytes i ≡ end_of is_plain bytes (i + 8)
  pub stops : (m ≡ 0 → ⊥) → end_of is_plain bytes i ≡ i + lowest_mark m

pub told : (bytes : List ℕ) (i w m : ℕ) → Bytes bytes → i + 8 ≤ length bytes → w ≡ word_of (take 8 (drop i bytes)) → Marks w m → m < 2 ^ 64 → Told bytes i m
told bytes i w m b l is marks fits =
    let rest = drop i bytes in
    let long : length (take 8 rest) ≡ 8 = length-take-le 8 rest (omega (arith, length-drop i bytes)) in
    let few : lowest_mark m ≡ min 8 (prefix_len is_plain rest) = marks (take 8 rest) (bytes_take 8 rest (bytes_drop i bytes b)) long is ∙ leading-take is_plain 8 rest in
    record {
      passes = λ e. end_past is_plain bytes i 8 (omega (arith, lowest_none m e));
      stops = λ some. omega (arith, lowest_some m fits some);
    }
