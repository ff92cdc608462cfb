-- Laws on the parts that are given: each with its flag, and all of them with type and flags.
use mathlib.Core.Path.{◌≡◌, refl, sym, ◌∙◌}
use mathlib.Core.Bool.{Bool, true, false, ◌&&◌, ◌||◌}
use Prim.Native.Nat.{ℕ, suc, ◌<◌}
use mathlib.Core.List.{List, [], ◌∷◌}
use native.Mathlib.Omega.{arith}
use lib.Dec.{eqb}
use lib.ListN.{length}
use borrow.Author.Tests.{eq-eqb, ne_eqb, eqb-true}
use Rattle.frame_message.specs.Header.{has_topic, has_payload, has_route, parts_fit}
use Rattle.frame_message.specs.Writing.{is_empty, parts_given_fit, given_message}
use Rattle.frame_write_given.specs.declared.Draft.{Draft}
use Rattle.frame_write_given.specs.WorkingDrafts.{drafted}
use Rattle.frame_write_given.proofs.Cuts.{cut_empty}

empty_length : (xs : List ℕ) → eqb (length xs) 0 ≡ is_empty xs
empty_length [] = refl
empty_length (x ∷ xs) = ne_eqb (suc (length xs)) 0 (λ (e : suc (length xs) ≡ 0). omega arith)

-- an empty part may be given, and one that is not where its flag is set
pub given_empty : (flag : Bool) (xs : List ℕ) → length xs ≡ 0 → true ≡ (flag || is_empty xs)
given_empty true xs e = refl
given_empty false xs e = sym (sym (empty_length xs) ∙ eq-eqb (length xs) 0 e)

pub given_full : (flag : Bool) (xs : List ℕ) → 0 < length xs → flag ≡ (flag || is_empty xs)
given_full true xs h = refl
given_full false xs h = sym (sym (empty_length xs) ∙ ne_eqb (length xs) 0 (λ (e : length xs ≡ 0). omega arith))

pub is_empty_lem : (xs : List ℕ) → is_empty xs ≡ true → length xs ≡ 0
is_empty_lem xs e = eqb-true (length xs) 0 (empty_length xs ∙ e)

-- what is told is whether type and flags fit and each part may be given; r, t and p say which flags are set
module _ (d : Draft) {f r t p a b c : Bool} (ef : f ≡ parts_fit d.header) (er : r ≡ has_route d.header.flags) (et : t ≡ has_topic d.header.flags) (ep : p ≡ has_payload d.header.flags) (ea : a ≡ (r || is_empty d.routes.now)) (eb : b ≡ (t || is_empty d.topic.now)) (ec : c ≡ (p || is_empty d.payload.now)) where
  pub agrees : (f && (a && (b && c))) ≡ (parts_fit d.header && parts_given_fit (drafted d))
  unfolding parts_given_fit given_message
  agrees = rw (ea, eb, ec, ef, er, et, ep, cut_empty)
