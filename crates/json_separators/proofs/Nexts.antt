-- What stands behind a value within an object or an array, and what the whole comes to then.
use Rattle.std.specs.Prelude.{Result, Ok, Err}
use mathlib.Core.Path.{◌≡◌, refl, sym, ap, subst, subst⁻¹, ◌∙◌}
use mathlib.Core.Bool.{cond}
use mathlib.Core.List.{List, ◌∷◌}
use mathlib.Core.Logic.{⊎_elim}
use Prim.Native.Nat.{ℕ, ◌+◌, ◌<◌, ◌≤◌}
use native.Mathlib.Omega.{arith}
use borrow.Author.Tests.{eq-eqb, ne_eqb, eqb-true, eqb-false, ltb-true, ltb-false}
use lib.Dec.{eqb, ltb}
use lib.ListN.{length, drop, drop_of_length-le}
use Rattle.bytes_number.proofs.Truth.{outcome}
use Rattle.json_scan.specs.Scan.{Verdict}
use Rattle.json_scan.specs.declared.Fault.{Fault}
use Rattle.json_scan.specs.WorkingReads.{place_of, came}
use Rattle.json_scan.specs.declared.Fault.TheVariants.{NotJson}
use Rattle.json_scan.specs.declared.Token.{Token}
use Rattle.json_scan.specs.Scan.{Kind, behind, between, scan}
use Rattle.json_scan.specs.WorkingEnds.{token_at}
use Rattle.json_scan.proofs.Scanning.{drop_at}
use Rattle.json_scan.proofs.White.{TokenAt, token_told, token_further, token_over, scan_on, scan_stuck}
use Rattle.json_separators.specs.declared.Next.{Next}
use Rattle.json_separators.specs.declared.Next.TheVariants.{More, Closed}
use Rattle.json_separators.specs.WorkingSeparators.{next_at, next_of}
use Rattle.json_separators.proofs.Steps.{closing, again, comma, closes, neither, no_zero_closes}

-- ---- what stands there

module _ (close : ℕ) (bytes : List ℕ) (at : ℕ) {t : Token} (e : t ≡ token_at bytes at) where
  next_here : next_of close bytes at ≡ next_at close t.at (drop t.at bytes)
  unfolding next_of
  next_here = ap (λ (i : ℕ). next_at close i (drop i bytes)) (sym (token_told bytes at e).end)

  pub next_over : {k : ℕ} → length bytes ≤ t.at → k ≡ t.at → Err k ≡ next_of close bytes at
  unfolding next_at
  next_over l is = ap Err is ∙ sym (next_here ∙ ap (next_at close t.at) (drop_of_length-le bytes l))

  module _ (l : t.at < length bytes) where
    next_by : next_of close bytes at ≡ cond (eqb t.byte close) (Ok (Closed (t.at + 1))) (cond (eqb t.byte 44) (Ok (More (t.at + 1))) (Err t.at))
    unfolding next_at
    next_by =
        next_here
        ∙ ap (next_at close t.at) (drop_at bytes t.at l)
        ∙ ap (λ (c : ℕ). cond (eqb c close) (Ok (Closed (t.at + 1))) (cond (eqb c 44) (Ok (More (t.at + 1))) (Err t.at))) (sym (token_told bytes at e).there)

    pub next_closed : {k : ℕ} → t.byte ≡ close → k ≡ t.at + 1 → Ok (Closed k) ≡ next_of close bytes at
    next_closed e is = ap (λ (i : ℕ). Ok (Closed i)) is ∙ sym (next_by ∙ rw (eq-eqb t.byte close e) refl)

    pub next_more : {k : ℕ} → (t.byte ≡ close → ⊥) → t.byte ≡ 44 → k ≡ t.at + 1 → Ok (More k) ≡ next_of close bytes at
    next_more f e is = ap (λ (i : ℕ). Ok (More i)) is ∙ sym (next_by ∙ rw (ne_eqb t.byte close f, eq-eqb t.byte 44 e) refl)

    pub next_neither : {k : ℕ} → (t.byte ≡ close → ⊥) → (t.byte ≡ 44 → ⊥) → k ≡ t.at → Err k ≡ next_of close bytes at
    next_neither f g is = ap Err is ∙ sym (next_by ∙ rw (ne_eqb t.byte close f, ne_eqb t.byte 44 g) refl)

-- ---- what the whole comes to then

abbrev pub separated : List ℕ → ℕ → Kind → List Kind → Result Next Fault → Verdict
separated bytes most kind around (Ok (More k)) = scan most (between (again kind)) (kind ∷ around) k (drop k bytes)
separated bytes most kind around (Ok (Closed k)) = scan most (between behind) around k (drop k bytes)
separated bytes most kind around (Err fault) = Err fault

-- it was read on by so much: the comma lies within the bytes
abbrev pub Further : List ℕ → ℕ → Result Next Fault → Type 0
Further bytes at (Ok (More k)) = (at < k) × (k ≤ length bytes)
Further bytes at (Ok (Closed k)) = at < k
Further bytes at (Err fault) = at ≤ place_of (Err fault)

-- whatever is open around it, as long as this byte closes it
pub record Separates (bytes : List ℕ) (at close : ℕ) (r : Result Next Fault) : Type 0 where
  pub same :
      (kind : Kind) → close ≡ closing kind → (room : ℕ) (around : List Kind) →
      scan (length (kind ∷ around) + room) (between behind) (kind ∷ around) at (drop at bytes) ≡ separated bytes (length (kind ∷ around) + room) kind around r
  pub further : Further bytes at r

-- what that comes to, from where a token may begin
module _ {bytes : List ℕ} {at : ℕ} {t : Token} (close : ℕ) (b : TokenAt bytes at t) where
  marks_more : t.at < length bytes → t.byte ≡ 44 → Separates bytes at close (Ok (More (t.at + 1)))
  marks_more l e =
      record {
        same = λ kind is room around. scan_on b (length (kind ∷ around) + room) behind (kind ∷ around) (between (again kind)) (kind ∷ around) (omega arith) (omega arith) l (comma kind around t.byte e);
        further = (omega (arith, token_further b), omega (arith, l));
      }

  marks_closed : t.at < length bytes → t.byte ≡ close → Separates bytes at close (Ok (Closed (t.at + 1)))
  marks_closed l e =
      record {
        same = λ kind is room around. scan_on b (length (kind ∷ around) + room) behind (kind ∷ around) (between behind) around (omega arith) (omega arith) l (closes kind around t.byte (e ∙ is));
        further = omega (arith, token_further b);
      }

  marks_neither : (t.byte ≡ 44 → ⊥) → ((kind : Kind) → close ≡ closing kind → t.byte ≡ closing kind → ⊥) → Separates bytes at close (Err (NotJson t.at))
  marks_neither f g =
      record {
        same = λ kind is room around. scan_stuck b (length (kind ∷ around) + room) behind (kind ∷ around) (omega arith) (λ dark. neither kind around t.byte dark f (g kind is));
        further = token_further b;
      }

pub next_separates : (close : ℕ) (bytes : List ℕ) (at : ℕ) → Separates bytes at close (came (next_of close bytes at))
next_separates close bytes at =
    let t = token_at bytes at in
    let b = token_told bytes at refl in
    ⊎_elim
    (λ u. let l = ltb-true t.at (length bytes) u in
    ⊎_elim
    (λ v. let is = eqb-true t.byte close v in by (next_closed close bytes at refl l is refl) (marks_closed close b l is))
    (λ v. let f = eqb-false t.byte close v in
    ⊎_elim
    (λ w. let is = eqb-true t.byte 44 w in by (next_more close bytes at refl l f is refl) (marks_more close b l is))
    (λ w. let g = eqb-false t.byte 44 w in by (next_neither close bytes at refl l f g refl) (marks_neither close b g (λ kind is e. f (e ∙ sym is))))
    (outcome (eqb t.byte 44)))
    (outcome (eqb t.byte close)))
    (λ u. let l = ltb-false t.at (length bytes) u in
    let none = token_over b l in
    by (next_over close bytes at refl l refl) (marks_neither close b (λ e. omega (arith, none, e)) (λ kind is. no_zero_closes kind none)))
    (outcome (ltb t.at (length bytes)))
  where
    by : {r : Result Next ℕ} → r ≡ next_of close bytes at → Separates bytes at close (came r) → Separates bytes at close (came (next_of close bytes at))
    by e = subst (λ (r : Result Next ℕ). Separates bytes at close (came r)) e

-- the same of what was told
pub next_told : (close : ℕ) (bytes : List ℕ) (at : ℕ) {r : Result Next Fault} → r ≡ came (next_of close bytes at) → Separates bytes at close r
next_told close bytes at told = subst⁻¹ (Separates bytes at close) told (next_separates close bytes at)
