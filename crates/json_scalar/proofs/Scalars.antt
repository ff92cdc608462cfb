-- Where a number or a literal name ends it is read on from, where a value is due.
use Rattle.std.specs.Prelude.{Err}
use mathlib.Core.Path.{◌≡◌, refl, ap, subst⁻¹, ◌∙◌}
use mathlib.Core.Bool.{Bool, true, false}
use mathlib.Core.List.{List, [], ◌∷◌}
use mathlib.Core.Logic.{⊎_elim}
use Prim.Native.Nat.{ℕ, ◌+◌, ◌<◌}
use native.Mathlib.Omega.{arith}
use borrow.Author.Tests.{eqb-true, ltb-true, ltb-false}
use lib.Dec.{eqb, ltb}
use lib.ListN.{length, drop, get_or}
use Rattle.bytes_number.proofs.Truth.{outcome}
use Rattle.json_scan.specs.WorkingEnds.{Reached}
use Rattle.json_scan.specs.Scan.{is_white, is_digit, Class, exactly, Kind, Figure, minus, leading_zero, whole, value, behind, between, number, rest, nowhere, to, value_step, token_move, move_of}
use Rattle.json_scan.specs.WorkingEnds.{rest_end}
use Rattle.json_scan.specs.WorkingReads.{came}
use Rattle.json_scan.proofs.Reading.{Takes, ReadsToken, reads_more, reads_wrong, reads_over, takes_from}
use Rattle.json_scan.proofs.Rest.{rest_reads, rest_onward}
use Rattle.json_scan.proofs.White.{token_begins}
use Rattle.json_number.specs.WorkingFigures.{number_end}
use Rattle.json_number.proofs.Numbers.{number_reads}
use Rattle.json_scalar.specs.WorkingScalars.{scalar_on, scalar_end}
use Rattle.json_scalar.proofs.Steps.{scalar_over, scalar_at}

-- at a byte that is no white space and begins no string, object or array
pub record Bare (c : ℕ) : Type 0 where
  pub dark : is_white c ≡ false
  pub no_string : c ≡ 34 → ⊥
  pub no_object : c ≡ 123 → ⊥
  pub no_array : c ≡ 91 → ⊥

-- what the first byte is, whatever is open around the value: that of a number, that of a name, or another
data First (c : ℕ) : Type 0 where
  counts : (figure : Figure) → ((around : List Kind) → value_step around c ≡ to (number figure) around) → First c
  spells : (k : Class) (ks : List Class) → ((around : List Kind) → value_step around c ≡ to (rest k ks (between behind)) around) → First c
  other : ((at : ℕ) (cs : List ℕ) → scalar_on at cs (value_step [] c) ≡ Err at) → (Bare c → (around : List Kind) → value_step around c ≡ nowhere) → First c

first : (c : ℕ) → First c
unfolding value_step
first c = go (eqb c 34) (eqb c 123) (eqb c 91) (eqb c 45) (eqb c 48) (is_digit c) (eqb c 102) (eqb c 110) (eqb c 116) refl refl refl refl refl refl refl refl refl
  where
    go :
        (q o a m z d f n t : Bool) → eqb c 34 ≡ q → eqb c 123 ≡ o → eqb c 91 ≡ a → eqb c 45 ≡ m → eqb c 48 ≡ z → is_digit c ≡ d → eqb c 102 ≡ f → eqb c 110 ≡ n → eqb c 116 ≡ t → First c
    go true o a m z d f n t e₁ e₂ e₃ e₄ e₅ e₆ e₇ e₈ e₉ = other (λ at cs. rw e₁ refl) (λ bare. absurd (bare.no_string (eqb-true c 34 e₁)))
    go false true a m z d f n t e₁ e₂ e₃ e₄ e₅ e₆ e₇ e₈ e₉ = other (λ at cs. rw (e₁, e₂) refl) (λ bare. absurd (bare.no_object (eqb-true c 123 e₂)))
    go false false true m z d f n t e₁ e₂ e₃ e₄ e₅ e₆ e₇ e₈ e₉ = other (λ at cs. rw (e₁, e₂, e₃) refl) (λ bare. absurd (bare.no_array (eqb-true c 91 e₃)))
    go false false false true z d f n t e₁ e₂ e₃ e₄ e₅ e₆ e₇ e₈ e₉ = counts minus (λ around. rw (e₁, e₂, e₃, e₄) refl)
    go false false false false true d f n t e₁ e₂ e₃ e₄ e₅ e₆ e₇ e₈ e₉ = counts leading_zero (λ around. rw (e₁, e₂, e₃, e₄, e₅) refl)
    go false false false false false true f n t e₁ e₂ e₃ e₄ e₅ e₆ e₇ e₈ e₉ = counts whole (λ around. rw (e₁, e₂, e₃, e₄, e₅, e₆) refl)
    go false false false false false false true n t e₁ e₂ e₃ e₄ e₅ e₆ e₇ e₈ e₉ =
        spells (exactly 97) (exactly 108 ∷ exactly 115 ∷ exactly 101 ∷ []) (λ around. rw (e₁, e₂, e₃, e₄, e₅, e₆, e₇) refl)
    go false false false false false false false true t e₁ e₂ e₃ e₄ e₅ e₆ e₇ e₈ e₉ = spells (exactly 117) (exactly 108 ∷ exactly 108 ∷ []) (λ around. rw (e₁, e₂, e₃, e₄, e₅, e₆, e₇, e₈) refl)
    go false false false false false false false false true e₁ e₂ e₃ e₄ e₅ e₆ e₇ e₈ e₉ =
        spells (exactly 114) (exactly 117 ∷ exactly 101 ∷ []) (λ around. rw (e₁, e₂, e₃, e₄, e₅, e₆, e₇, e₈, e₉) refl)
    go false false false false false false false false false e₁ e₂ e₃ e₄ e₅ e₆ e₇ e₈ e₉ =
        other (λ at cs. rw (e₁, e₂, e₃, e₄, e₅, e₆, e₇, e₈, e₉) refl) (λ bare around. rw (e₁, e₂, e₃, e₄, e₅, e₆, e₇, e₈, e₉) refl)

-- a value begins with its first byte
begins : (around : List Kind) (c : ℕ) → is_white c ≡ false → move_of (between value) around c ≡ value_step around c
unfolding token_move
begins around c dark = token_begins value around c dark

module _ (bytes : List ℕ) (at : ℕ) where
  abbrev x : ℕ
  x = get_or bytes at 0

  -- however far it came, and a byte at least
  abbrev Reads : Reached → Type 0
  Reads r = ((at < length bytes → Bare x) → ReadsToken bytes at (between value) (between behind) (came r)) × Takes at (came r)

  by : {r : Reached} → scalar_end at (drop at bytes) ≡ r → Reads r → Reads (scalar_end at (drop at bytes))
  by e = subst⁻¹ Reads e

  here : at < length bytes → First x → Reads (scalar_end at (drop at bytes))
  here l (counts figure e) =
      by (scalar_at bytes at l ∙ ap (scalar_on at (drop (at + 1) bytes)) (e [])) (
        λ bare room. reads_more (number figure) l (λ around. begins around x (bare l).dark ∙ e around) (number_reads bytes figure (at + 1) room),
        takes_from {at = at} (at + 1) (came (number_end figure (at + 1) (drop (at + 1) bytes))) (omega arith) (number_reads bytes figure (at + 1) 0).onward,
      )
  here l (spells k ks e) =
      by (scalar_at bytes at l ∙ ap (scalar_on at (drop (at + 1) bytes)) (e [])) (
        λ bare room. reads_more (rest k ks (between behind)) l (λ around. begins around x (bare l).dark ∙ e around) (rest_reads bytes (k ∷ ks) (at + 1) (between behind) room),
        takes_from {at = at} (at + 1) (came (rest_end (k ∷ ks) (at + 1) (drop (at + 1) bytes))) (omega arith) (rest_onward bytes (k ∷ ks) (at + 1)),
      )
  here l (other stops e) =
      by (scalar_at bytes at l ∙ stops at (drop (at + 1) bytes)) (λ bare room. reads_wrong l (λ around. begins around x (bare l).dark ∙ e (bare l) around), tt)

  reads : Reads (scalar_end at (drop at bytes))
  reads =
      ⊎_elim
      (λ t. here (ltb-true at (length bytes) t) (first x))
      (λ t. let l = ltb-false at (length bytes) t in by (scalar_over bytes at l) (λ bare room. reads_over l refl, tt))
      (outcome (ltb at (length bytes)))

  pub scalar_reads : (at < length bytes → Bare x) → ReadsToken bytes at (between value) (between behind) (came (scalar_end at (drop at bytes)))
  scalar_reads = reads.0

  pub scalar_takes : Takes at (came (scalar_end at (drop at bytes)))
  scalar_takes = reads.1
