-- The test of a byte that stands for itself, as the code writes it.
use Rattle.std.proofs.Common.{◌≡◌, ℕ, Bool, true, false, ◌&&◌, ltb, leb, refl, arith, ltb-true, lt-ltb, le-leb, leb-true}
use Rattle.bytes_number.proofs.Truth.{same_test}

pub tests_joined : (p q x y : Bool) → (((p && q) && x) && y) ≡ (p && (q && (x && y)))
tests_joined true true x y = refl
tests_joined true false x y = refl
tests_joined false q x y = refl

pub below_128 : (c : ℕ) → ltb c 128 ≡ leb c 127
below_128 c = same_test (λ t. le-leb c 127 (omega (arith, ltb-true c 128 t))) (λ t. lt-ltb c 128 (omega (arith, leb-true c 127 t)))
