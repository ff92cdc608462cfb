-- Bytes cut into parts: `cut_parts` takes apart what `joined` puts together, and nothing else; and there can't be too many parts.
use mathlib.Core.Path.{◌≡◌, refl, sym, ap, ◌∙◌, subst}
use mathlib.Core.Bool.{Bool, true, false, cond, ◌||◌}
use Prim.Native.Nat.{ℕ, zero, suc, ◌≤◌}
use mathlib.Core.List.{List, [], ◌∷◌, ◌++◌}
use native.Mathlib.Omega.{arith}
use lib.Dec.{ltb}
use lib.ListN.{length, take, drop, length-append}
use Rattle.bytes_number.specs.Number.{Bytes, number}
use Rattle.refusal.specs.declared.Refusal.{Refusal}
use Rattle.refusal.specs.declared.Refusal.TheVariants.{PartWrong, CommandPartWrong}
use Rattle.refusal.specs.Answer.{Answer, refused, answered, refuse_if, and_then}
use Rattle.refusal.proofs.Answers.{not_answered, refused_same}
use Rattle.frame_message.specs.Frame.{part_bytes, joined}
use Rattle.frame_message.specs.Reading.{cut_part, first_part, parts_in, front, before_empty}
use Rattle.frame_message.proofs.Lists.{Each, bytes_back}
use Rattle.frame_message.proofs.Parts.{Sized, Split, First, first_split, split, join}
use Rattle.frame_parts.specs.declared.PartCounts.{PartCounts}
use Rattle.frame_parts.specs.declared.Stop.{Stop}
use Rattle.std.specs.Prelude.{Ok, Err}
use Rattle.frame_parts.specs.WorkingCounting.{stop_byte, counted_as, counting_of}
use Rattle.bytes_number.proofs.Truth.{true_false}
use Rattle.frame_parts.proofs.Passing.{joined-many, part_has_size}
use Rattle.mdp_command.specs.CommandBytes.{as_thirty, cut_parts}

thirty_same : (a : Answer (List (List ℕ))) (ps : List (List ℕ)) → as_thirty a ≡ answered ps → a ≡ answered ps
thirty_same (refused r) ps e = absurd (not_answered e)
thirty_same (answered qs) ps e = e

pub cut_found : (b : List ℕ) (ps : List (List ℕ)) → cut_parts b ≡ answered ps → parts_in (length b) b ≡ answered ps
unfolding cut_parts
cut_found b ps e = thirty_same (parts_in (length b) b) ps e

-- bytes that were cut are their parts, one after another
pub cut_split : (b : List ℕ) (ps : List (List ℕ)) → Bytes b → cut_parts b ≡ answered ps → Split (length b) b ps
cut_split b ps bytes e = split (length b) b ps bytes (cut_found b ps e)

-- parts put together are cut apart again
pub cut-joined : (ps : List (List ℕ)) → Each Sized ps → cut_parts (joined ps) ≡ answered ps
unfolding cut_parts
cut-joined ps sized = rw (join (length (joined ps)) ps (joined-many ps) sized)

-- ---- no bytes have more parts than bytes

refused_if : {A : Type 0} (t : Bool) (r q : Refusal) (next : Answer A) → refuse_if t r next ≡ refused q → (next ≡ refused q → q ≡ r) → q ≡ r
refused_if true r q next e more = sym (refused_same e)
refused_if false r q next e more = more e

cut_wrong : (n : ℕ) (xs : List ℕ) (q : Refusal) → cut_part n xs ≡ refused q → q ≡ PartWrong
cut_wrong n xs q e = refused_if (ltb (length xs) n) PartWrong q (answered (take n xs, drop n xs)) e (λ k. absurd (not_answered (sym k)))

first_wrong : (x : ℕ) (xs : List ℕ) (q : Refusal) → first_part x xs ≡ refused q → q ≡ PartWrong
unfolding first_part
first_wrong x xs q e = go (ltb x 255) e
  where
    go : (t : Bool) → cond t (cut_part x xs) (refuse_if (ltb (length xs) 4 || ltb (number xs) 255) PartWrong (cut_part (number xs) (drop 4 xs))) ≡ refused q → q ≡ PartWrong
    go true e = cut_wrong x xs q e
    go false e = refused_if (ltb (length xs) 4 || ltb (number xs) 255) PartWrong q (cut_part (number xs) (drop 4 xs)) e (cut_wrong (number xs) (drop 4 xs) q)

-- what is known of fewer bytes
abbrev Again : ℕ → Refusal → Type 0
Again most q = (rest : List ℕ) → Bytes rest → length rest ≤ most → parts_in most rest ≡ refused q → q ≡ PartWrong

-- with room for as many parts as there are bytes, only a part's size is wrong
pub wrong_size : (most : ℕ) (b : List ℕ) (q : Refusal) → Bytes b → length b ≤ most → parts_in most b ≡ refused q → q ≡ PartWrong
unfolding parts_in
wrong_size zero [] q h l e = absurd (not_answered (sym e))
wrong_size zero (x ∷ xs) q h l e = absurd (omega arith)
wrong_size (suc most) [] q h l e = absurd (not_answered (sym e))
wrong_size (suc most) (x ∷ xs) q h l e = go (λ rest b k f. wrong_size most rest q b k f) (first_part x xs) refl e
  where
    behind : Again most q → (cut : List ℕ × List ℕ) → First (x ∷ xs) cut → (a : Answer (List (List ℕ))) → parts_in most cut.1 ≡ a → and_then a (λ ps. answered (cut.0 ∷ ps)) ≡ refused q → q ≡ PartWrong
    behind again cut f (answered ps) k e = absurd (not_answered (sym e))
    behind again cut f (refused r) k e =
        let shorter : length cut.1 ≤ most = omega (arith, ap length f.same, length-append (part_bytes cut.0) cut.1, part_has_size cut.0) in
        let bytes : Bytes (part_bytes cut.0 ++ cut.1) = subst Bytes f.same h in
        again cut.1 (bytes_back (part_bytes cut.0) cut.1 bytes) shorter (k ∙ ap refused (refused_same e))

    go : Again most q → (a : Answer (List ℕ × List ℕ)) → first_part x xs ≡ a → and_then a (λ cut. and_then (parts_in most cut.1) (λ ps. answered (cut.0 ∷ ps))) ≡ refused q → q ≡ PartWrong
    go again (refused r) k e = first_wrong x xs q (k ∙ ap refused (refused_same e))
    go again (answered cut) k e = behind again cut (first_split x xs cut h k) (parts_in most cut.1) refl e

-- ---- what the counting of the parts tells

not_both : {stop : Stop} {counts : PartCounts} → Err stop ≡ Ok counts → ⊥
not_both e = let z : true ≡ false = cc in true_false z

-- whatever stopped it, it is 30
pub cut_refused : (b : List ℕ) {stop : Stop} → Err stop ≡ counting_of (length b) b → cut_parts b ≡ refused CommandPartWrong
unfolding cut_parts
cut_refused b {stop} e = go (parts_in (length b) b) e
  where
    go : (a : Answer (List (List ℕ))) → Err stop ≡ counted_as (stop_byte (length b) b) a → as_thirty a ≡ refused CommandPartWrong
    go (refused q) e = refl
    go (answered ps) e = absurd (not_both e)

-- or it counted the parts
pub record CutInto (b : List ℕ) (count : ℕ) : Type 0 where
  pub parts : List (List ℕ)
  pub found : parts_in (length b) b ≡ answered parts
  pub cuts : cut_parts b ≡ answered parts
  pub counted : count ≡ length parts

pub cut_counted : (b : List ℕ) {counts : PartCounts} → Ok counts ≡ counting_of (length b) b → CutInto b counts.count
unfolding cut_parts
cut_counted b {counts} e = go (parts_in (length b) b) refl e
  where
    go : (a : Answer (List (List ℕ))) → parts_in (length b) b ≡ a → Ok counts ≡ counted_as (stop_byte (length b) b) a → CutInto b counts.count
    go (refused q) k e = absurd (not_both (sym e))
    go (answered ps) k e =
        let same : counts ≡ record { count = length ps; empty = length (before_empty ps); group = length (joined (before_empty ps)); last = length (joined (front ps)) } = cc in
        record { parts = ps; found = k; cuts = rw k; counted = ap (λ (c : PartCounts). c.count) same }
