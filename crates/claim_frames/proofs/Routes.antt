-- Routes laid end to end, as the writer is given them, and cut into routes again.
use mathlib.Core.Path.{◌≡◌, refl, sym, ap, ap₂, ◌∙◌}
use Prim.Native.Nat.{ℕ, zero, suc, ◌+◌, ◌*◌, ◌<◌, ◌≤◌}
use native.Mathlib.Nat.{add-zero, not-suc-le-zero}
use native.Mathlib.Omega.{arith}
use mathlib.Core.List.{List, [], ◌∷◌, ◌++◌}
use lib.ListN.{length, get_or, take, drop, length-append, length-drop, take-append-drop}
use lib.Seq.{take_at, drop_at}
use Rattle.frame_message.specs.Writing.{cut_routes, cut}
use Rattle.frame_message.proofs.Lists.{Each}
use Rattle.frame_write_given.proofs.Cuts.{cut_more}
use Rattle.frame_layout.specs.Layout.{stretch}
use Rattle.claim_frames.specs.Records.{routes_from}

-- end to end
abbrev pub flat : List (List ℕ) → List ℕ
flat [] = []
flat (r ∷ rs) = r ++ flat rs

flat_cuts : (k : ℕ) (xs : List ℕ) → length xs ≤ k → flat (cut_routes k xs) ≡ xs
flat_cuts zero [] h = refl
flat_cuts zero (x ∷ xs) h = absurd (not-suc-le-zero h)
flat_cuts (suc k) [] h = refl
flat_cuts (suc k) (x ∷ xs) h =
    ap (λ (t : List ℕ). take 37 (x ∷ xs) ++ t) (flat_cuts k (drop 37 (x ∷ xs)) (omega (arith, length-drop 37 (x ∷ xs)))) ∙ take-append-drop 37 (x ∷ xs)

-- bytes that are cut and laid end to end are the same bytes
pub flat_cut : (xs : List ℕ) → flat (cut xs) ≡ xs
flat_cut xs = flat_cuts (length xs) xs (omega arith)

-- routes of 37 bytes that are laid end to end and cut are the same routes
pub cut_flat : (rs : List (List ℕ)) → Each (λ r. length r ≡ 37) rs → cut (flat rs) ≡ rs
cut_flat [] h = refl
cut_flat (r ∷ rs) h =
    cut_more (r ++ flat rs) (omega (arith, h.0, length-append r (flat rs)))
    ∙ ap₂ (λ (first : List ℕ) (rest : List (List ℕ)). first ∷ rest) (take_at r (flat rs) 37 h.0) (ap cut (drop_at r (flat rs) 37 h.0) ∙ cut_flat rs h.1)

-- routes that lie 38 bytes apart in the bytes
pub routes_from_lem : (bytes : List ℕ) (rs : List (List ℕ)) (start : ℕ) → ((i : ℕ) → i < length rs → stretch bytes (start + 38 * i) 37 ≡ get_or rs i []) → routes_from bytes (length rs) start ≡ flat rs
routes_from_lem bytes [] start h = refl
routes_from_lem bytes (r ∷ rs) start h =
    ap₂ (λ (first rest : List ℕ). first ++ rest) (ap (λ (n : ℕ). stretch bytes n 37) (sym (add-zero start)) ∙ h 0 (omega arith)) (routes_from_lem bytes rs (start + 38) next)
  where
    next : (i : ℕ) → i < length rs → stretch bytes (start + 38 + 38 * i) 37 ≡ get_or rs i []
    next i l =
        let there : start + 38 + 38 * i ≡ start + 38 * suc i = omega arith in
        ap (λ (n : ℕ). stretch bytes n 37) there ∙ h (suc i) (omega arith)
