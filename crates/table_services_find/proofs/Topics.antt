-- Laws on topics: their service, by where the first period stands, and by a turn of a loop.
use mathlib.Core.Path.{◌≡◌, refl, sym, ap, ◌∙◌}
use mathlib.Core.Bool.{Bool, true, false, not}
use mathlib.Core.List.{List, [], ◌∷◌, ◌++◌, append-nil}
use mathlib.Core.Logic.{⊎_elim}
use Prim.Native.Nat.{ℕ, ◌+◌, ◌<◌}
use native.Mathlib.Numerals.{add-one, one-add}
use native.Mathlib.Omega.{arith}
use borrow.Author.Tests.{eq-eqb, ne_eqb, ltb-false}
use lib.Dec.{eqb, ltb}
use lib.ListN.{length, get_or, take, drop}
use lib.Seq.{drop-cons, drop-length, take-suc, append_snoc, take-length, take_all}
use Rattle.std.specs.Prelude.{Some, None, cond}
use Rattle.std.specs.List.{position, position_or_len}
use Rattle.bytes_number.proofs.Truth.{outcome}
use Rattle.table_services_find.specs.Lookup.{service_of}

-- the bytes in front of the first period, or all
front_is : (topic : List ℕ) → take (position_or_len (λ x. eqb x 46) topic) topic ≡ service_of topic
unfolding service_of
front_is [] = refl
front_is (x ∷ xs) = more (front_is xs) (eqb x 46)
  where
    more : take (position_or_len (λ x. eqb x 46) xs) xs ≡ service_of xs → (dot : Bool) → take (cond (not dot) (1 + position_or_len (λ x. eqb x 46) xs) 0) (x ∷ xs) ≡ cond dot [] (x ∷ service_of xs)
    more e true = refl
    more e false = rw one-add (ap (◌∷◌ x) e)

pub service_before : (topic : List ℕ) (end : ℕ) → Some end ≡ position (λ x. eqb x 46) topic → take end topic ≡ service_of topic
service_before topic end e =
    ⊎_elim
    (λ t.
    let found : Some end ≡ Some (position_or_len (λ x. eqb x 46) topic) = rw t at e in
    let same : end ≡ position_or_len (λ x. eqb x 46) topic = cc in
    rw same (front_is topic))
    (λ f. absurd (let z : ◌≡◌ {A = ℕ} 0 1 = (let none : Some end ≡ None = rw f at e in cc) in omega arith))
    (outcome (ltb (position_or_len (λ x. eqb x 46) topic) (length topic)))

pub service_whole : (topic : List ℕ) → None ≡ position (λ x. eqb x 46) topic → topic ≡ service_of topic
service_whole topic e =
    ⊎_elim
    (λ t. absurd (let z : ◌≡◌ {A = ℕ} 0 1 = (let some : None ≡ Some (position_or_len (λ x. eqb x 46) topic) = rw t at e in cc) in omega arith))
    (λ f. sym (take_all _ topic (ltb-false _ _ f)) ∙ front_is topic)
    (outcome (ltb (position_or_len (λ x. eqb x 46) topic) (length topic)))

-- ---- a turn of a loop over the bytes

module _ (s : List ℕ) (i : ℕ) (h : i < length s) where
  pub service_stop : get_or s i 0 ≡ 46 → take i s ++ service_of (drop i s) ≡ take i s
  unfolding service_of
  service_stop e = rw (drop-cons s i 0 h, eq-eqb _ _ e) (append-nil (take i s))

  pub service_more : (get_or s i 0 ≡ 46 → ⊥) → take i s ++ service_of (drop i s) ≡ take (i + 1) s ++ service_of (drop (i + 1) s)
  unfolding service_of
  service_more n = rw (add-one, drop-cons s i 0 h, ne_eqb _ _ n, take-suc s i 0 h, append_snoc) refl

-- where all bytes are passed
pub service_end : (s : List ℕ) (i : ℕ) → i ≡ length s → take i s ++ service_of (drop i s) ≡ s
unfolding service_of
service_end s i e = rw (e, drop-length s, take-length s) (append-nil s)
