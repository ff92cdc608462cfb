-- A place of the body at which known parts begin.
use mathlib.Core.Path.{◌≡◌, refl, sym, ap, ◌∙◌}
use mathlib.Core.Bool.{Bool, true, false}
use Prim.Native.Nat.{ℕ, ◌+◌, ◌-◌, ◌<◌, ◌≤◌}
use mathlib.Core.List.{List, [], ◌∷◌, ◌++◌, append_assoc}
use native.Mathlib.Omega.{arith}
use lib.ListN.{length, take, drop, length-append, length-drop}
use lib.Seq.{drop-drop, drop_at, take_at}
use Rattle.refusal.specs.Answer.{answered}
use Rattle.frame_message.specs.Frame.{size_bytes, part_bytes, joined, part_if}
use Rattle.frame_message.specs.Reading.{parts_in}
use Rattle.frame_message.proofs.Parts.{join, joined-append, joined_sized}
use Rattle.frame_parts.proofs.Passing.{part_has_size}
use Rattle.frame_parts.specs.WorkingCounting.{parts_or_none}
use Rattle.frame_body.specs.WorkingJudging.{parts_found, Found}

-- the parts ps begin at a place of the body, and go to its end
pub record At (body : List ℕ) (at : ℕ) (ps : List (List ℕ)) : Type 0 where
  pub there : drop at body ≡ joined ps
  pub within : at ≤ length body

-- behind other parts
pub at_behind : (body : List ℕ) (ps qs : List (List ℕ)) → body ≡ joined (ps ++ qs) → At body (length (joined ps)) qs
at_behind body ps qs e =
    let two : body ≡ joined ps ++ joined qs = e ∙ joined-append ps qs in
    record {
      there = rw two (drop_at (joined ps) (joined qs) (length (joined ps)) refl);
      within = omega (arith, ap length two, length-append (joined ps) (joined qs));
    }

module _ (body : List ℕ) (at : ℕ) where
  -- they are found there
  module _ (ps : List (List ℕ)) (a : At body at ps) (short : length body ≤ 32768) (few : length ps ≤ 68) where
    read_there : parts_in 68 (drop at body) ≡ answered ps
    read_there = ap (parts_in 68) a.there ∙ join 68 ps few (joined_sized ps (omega (arith, ap length a.there, length-drop at body)))

    pub at_parts : parts_found (drop at body) ≡ ps
    unfolding parts_found
    at_parts = ap parts_or_none read_there

    pub at_found : Found (drop at body)
    at_found = read_there ∙ ap answered (sym at_parts)

  module _ (p : List ℕ) (ps : List (List ℕ)) (a : At body at (p ∷ ps)) where
    two : drop at body ≡ part_bytes p ++ joined ps
    two = a.there

    pub at_some : 0 < length (drop at body)
    at_some = omega (arith, ap length two, length-append (part_bytes p) (joined ps), part_has_size p)

    pub at_next : At body (at + length (part_bytes p)) ps
    at_next =
        record {
          there = sym (drop-drop (length (part_bytes p)) at body) ∙ rw two (drop_at (part_bytes p) (joined ps) (length (part_bytes p)) refl);
          within = omega (arith, a.within, ap length two, length-drop at body, length-append (part_bytes p) (joined ps));
        }

    -- the data of the first
    pub at_data : take (at + length (part_bytes p) - (at + length (size_bytes (length p)))) (drop (at + length (size_bytes (length p))) body) ≡ p
    at_data =
        let size = size_bytes (length p) in
        let long : at + length (part_bytes p) - (at + length size) ≡ length p = omega (arith, length-append size p) in
        let behind : drop (at + length size) body ≡ p ++ joined ps = sym (drop-drop (length size) at body) ∙ rw (two, append_assoc size p (joined ps)) (drop_at size (p ++ joined ps) (length size) refl) in
        rw (long, behind) (take_at p (joined ps) (length p) refl)

-- a part that is there if its flag is set
pub at_if : (body : List ℕ) (at : ℕ) (flag : Bool) (p : List ℕ) (ps : List (List ℕ)) → At body at (part_if flag p ++ ps) → At body (at + length (joined (part_if flag p))) ps
at_if body at true p ps a =
    let one : length (joined (p ∷ [])) ≡ length (part_bytes p) = omega (arith, length-append (part_bytes p) []) in
    rw one (at_next body at p ps a)
at_if body at false p ps a =
    let none : at + 0 ≡ at = omega arith in
    rw none a
