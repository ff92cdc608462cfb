-- Laws on the routes that `chunks_exact` yields of whole routes: they are the routes that the bytes are cut into.
use Rattle.std.proofs.Common.{arith, ◌≡◌, ◌∙◌, refl, sym, ap, subst, ℕ, zero, suc, ◌%◌, ◌<◌, Bool, true, false, List, [], ◌∷◌, ◌++◌, length, length-append, Bor, Some, None}
use mathlib.Core.Bool.{and-false}
use Rattle.std.specs.Bool.{MatchBool}
use Rattle.std.specs.List.{AllWithin, HoldsAt}
use Rattle.std.specs.declared.slice.ChunksExact.{ChunksExact}
use Rattle.std.specs.Slice.Iter.{chunks_exact_rest, chunks_exact_size, chunks_exact_steps}
use Rattle.std.proofs.lemmas.List.{take_at, drop_at}
use Rattle.std.proofs.lemmas.Iterator.{YieldsList}
use Rattle.std.proofs.lemmas.Iterator.Splits.{YieldsList-from_shown_while}
use Rattle.frame_forms.specs.Forms.{is_route}
use Rattle.frame_message.specs.Writing.{cut, all_routes}
use Rattle.frame_write_given.proofs.Cuts.{cut_more}

-- a route in front of others
cut_front : (r xs : List ℕ) → length r ≡ 37 → cut (r ++ xs) ≡ r ∷ cut xs
cut_front r xs e =
    rw (cut_more (r ++ xs) (omega (arith, length-append r xs)), take_at r xs 37 e, drop_at r xs 37 e)

cut_none : (xs : List ℕ) → length xs < 37 → length xs % 37 ≡ 0 → cut xs ≡ []
cut_none [] h e = refl
cut_none (x ∷ xs) h e = absurd (omega arith)

-- whole routes are left
pub record Whole (s : ChunksExact ℕ) : Type 0 where
  pub size : chunks_exact_size s ≡ 37
  pub whole : length (chunks_exact_rest s) % 37 ≡ 0

module _ {s t : ChunksExact ℕ} (w : Whole s) where
  -- one is yielded
  pub whole_more : (x : Bor (List ℕ)) → chunks_exact_steps s (Some x) t → Whole t × (cut (chunks_exact_rest s) ≡ x.now ∷ cut (chunks_exact_rest t))
  whole_more x h =
      let wide : length x.now ≡ 37 = h.1.1 ∙ w.size in (
        record { size = h.0 ∙ w.size; whole = omega (arith, length-append x.now (chunks_exact_rest t), ap length h.1.0, w.whole, wide) },
        ap cut h.1.0 ∙ cut_front x.now (chunks_exact_rest t) wide,
      )

  -- or none is left
  pub whole_none : chunks_exact_steps s None t → cut (chunks_exact_rest s) ≡ []
  whole_none h = cut_none (chunks_exact_rest s) (omega (arith, h.1.0, w.size)) w.whole

-- all that are yielded
pub routes_yielded : (s : ChunksExact ℕ) → Whole s → {xs : List ℕ} → chunks_exact_rest s ≡ xs → YieldsList (chunks_exact_steps {A = ℕ}) (λ x. x.now) s (cut xs)
routes_yielded s w e =
    subst (λ (xs : List ℕ). YieldsList (chunks_exact_steps {A = ℕ}) (λ x. x.now) s (cut xs)) e
    (YieldsList-from_shown_while (chunks_exact_steps {A = ℕ}) (λ x. x.now) (λ u. cut (chunks_exact_rest u)) Whole (λ s t w h. ap length (whole_none w h)) (λ s x t w h. whole_more w x h) s w)

-- whether all of them are of the form, by what `all` says of each
all_good : (rs : List (List ℕ)) → AllWithin (λ r. is_route r ≡ true) rs 0 (length rs) → true ≡ all_routes rs
all_good [] h = refl
all_good (r ∷ rs) h = rw (h 0 r (omega arith) (omega arith), ← all_good rs (λ k d low high. h (suc k) d (omega arith) (omega arith)))

one_bad : (rs : List (List ℕ)) (k : ℕ) → k < length rs → HoldsAt (λ r. is_route r ≡ false) rs k → false ≡ all_routes rs
one_bad [] k h bad = absurd (omega arith)
one_bad (r ∷ rs) zero h bad = rw (bad r)
one_bad (r ∷ rs) (suc k) h bad = rw (← one_bad rs k (omega arith) bad) (sym (and-false (is_route r)))

pub all_tested : (rs : List (List ℕ)) (t : Bool) → MatchBool t (AllWithin (λ r. is_route r ≡ true) rs 0 (length rs)) ((k : ℕ) × (k < length rs) × HoldsAt (λ r. is_route r ≡ false) rs k) → t ≡ all_routes rs
all_tested rs true h = all_good rs h
all_tested rs false h = one_bad rs h.0 h.1 h.2
