-- One byte of a string.
use mathlib.Core.Path.{◌≡◌, refl, sym, ap, ◌∙◌}
use mathlib.Core.Bool.{Bool, true, false, not, ◌&&◌}
use mathlib.Core.List.{List, [], ◌∷◌}
use mathlib.Core.Logic.{⊎_elim}
use Prim.Native.Nat.{ℕ, ◌<◌, ◌≤◌}
use native.Mathlib.Omega.{arith}
use borrow.Author.Tests.{ne_eqb, leb-true, leb-false}
use lib.Dec.{eqb, leb}
use Rattle.bytes_number.proofs.Truth.{true_false, outcome}
use Rattle.json_scan.specs.Scan.{is_within, is_escape, Class, hex, tails_of, Kind, Due, between, text, escape, rest, nowhere, to, tail_move, text_move, escape_move, move_of}
use Rattle.json_scan.proofs.Bytes.{within, below, above}
use Rattle.json_plain.specs.WorkingPlain.{is_plain}

-- ---- in a string

-- a byte that stands for itself is neither mark nor backslash
plain_is : (q b w : Bool) → (not q && (not b && w)) ≡ true → (q ≡ false) × ((b ≡ false) × (w ≡ true))
plain_is true b w e = absurd (true_false (sym e))
plain_is false true w e = absurd (true_false (sym e))
plain_is false false w e = (refl, (refl, e))

pub text_plain : (due : Due) (around : List Kind) (c : ℕ) → is_plain c ≡ true → move_of (text due) around c ≡ to (text due) around
unfolding move_of text_move is_plain
text_plain due around c e =
    let p = plain_is (eqb c 34) (eqb c 92) (is_within 32 127 c) e in
    rw (p.0, p.1.0, p.1.1) refl

pub text_quote : (due : Due) (around : List Kind) (c : ℕ) → c ≡ 34 → move_of (text due) around c ≡ to (between due) around
unfolding move_of text_move
text_quote due around c e = ap (move_of (text due) around) e

pub text_backslash : (due : Due) (around : List Kind) (c : ℕ) → c ≡ 92 → move_of (text due) around c ≡ to (escape due) around
unfolding move_of text_move
text_backslash due around c e = ap (move_of (text due) around) e

pub plain : (c : ℕ) → (c ≡ 34 → ⊥) → (c ≡ 92 → ⊥) → 32 ≤ c → c < 128 → is_plain c ≡ true
unfolding is_plain
plain c p q l m = rw (ne_eqb c 34 p, ne_eqb c 92 q, within 32 127 c l (omega arith)) refl

-- a byte that lies elsewhere begins a character of more than one, or none
other : (due : Due) (around : List Kind) (c : ℕ) → (32 ≤ c → 127 < c) → (c ≡ 92 → ⊥) → move_of (text due) around c ≡ tail_move (tails_of c) (text due) around
unfolding move_of text_move
other due around c f q = rw (ne_eqb c 34 (λ e. omega (arith, e, f (omega (arith, e)))), ne_eqb c 92 q, elsewhere) refl
  where
    elsewhere : is_within 32 127 c ≡ false
    elsewhere = ⊎_elim (λ t. above 32 127 c (f (leb-true 32 c t))) (λ t. below 32 127 c (leb-false 32 c t)) (outcome (leb 32 c))

pub text_lead : (due : Due) (around : List Kind) (c : ℕ) {k : Class} {ks : List Class} → (32 ≤ c → 127 < c) → (c ≡ 92 → ⊥) → tails_of c ≡ k ∷ ks → move_of (text due) around c ≡ to (rest k ks (text due)) around
text_lead due around c f q e = other due around c f q ∙ ap (λ (ks : List Class). tail_move ks (text due) around) e

pub text_wrong : (due : Due) (around : List Kind) (c : ℕ) → (32 ≤ c → 127 < c) → (c ≡ 92 → ⊥) → tails_of c ≡ [] → move_of (text due) around c ≡ nowhere
text_wrong due around c f q e = other due around c f q ∙ ap (λ (ks : List Class). tail_move ks (text due) around) e

-- ---- behind a backslash

pub escape_step : (due : Due) (around : List Kind) (c : ℕ) → is_escape c ≡ true → move_of (escape due) around c ≡ to (text due) around
unfolding move_of escape_move
escape_step due around c e = rw e refl

pub escape_u : (due : Due) (around : List Kind) (c : ℕ) → c ≡ 117 → move_of (escape due) around c ≡ to (rest hex (hex ∷ hex ∷ hex ∷ []) (text due)) around
unfolding move_of escape_move is_escape
escape_u due around c e = ap (move_of (escape due) around) e

pub escape_wrong : (due : Due) (around : List Kind) (c : ℕ) → is_escape c ≡ false → (c ≡ 117 → ⊥) → move_of (escape due) around c ≡ nowhere
unfolding move_of escape_move
escape_wrong due around c e p = rw (e, ne_eqb c 117 p) refl
