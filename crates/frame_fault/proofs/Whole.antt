-- The parts in front of the one that 4 or 5 is told of.
use mathlib.Core.Path.{◌≡◌, refl, sym, ap, subst, ◌∙◌}
use Prim.Native.Nat.{ℕ, zero, suc, ◌<◌}
use mathlib.Core.Bool.{Bool, true, false, cond, ◌||◌}
use mathlib.Core.List.{List, [], ◌∷◌, ◌++◌, append_assoc}
use native.Mathlib.Omega.{arith}
use lib.Dec.{ltb}
use lib.ListN.{length, take, drop, length-append}
use Rattle.bytes_number.specs.Number.{number, Bytes}
use Rattle.refusal.specs.declared.Refusal.{Refusal}
use Rattle.refusal.specs.declared.Refusal.TheVariants.{PartWrong}
use Rattle.refusal.specs.Refusals.{number_of}
use Rattle.refusal.specs.Answer.{Answer, refused, answered, refuse_if, and_then}
use Rattle.refusal.proofs.Answers.{Refuses, here, later, refuses, both, refused_same, answered_same, not_answered}
use Rattle.frame_message.specs.Frame.{part_bytes, joined}
use Rattle.frame_message.specs.Reading.{cut_part, first_part, parts_in}
use Rattle.frame_message.proofs.Lists.{bytes_back}
use Rattle.frame_message.proofs.Parts.{Sized, first_split, first_join}
use Rattle.frame_parts.specs.WorkingCounting.{behind_part, stop_byte}
use Rattle.frame_fault.specs.Fault.{part_then, whole_parts}

-- ---- where they end

behind_whole : (a : Answer (List ℕ × List ℕ)) (stop : List ℕ → ℕ) (whole : List ℕ → List (List ℕ)) → ((rest : List ℕ) → stop rest ≡ length (joined (whole rest))) →
    behind_part a stop ≡ length (joined (part_then a whole))
behind_whole (refused r) stop whole more = refl
behind_whole (answered cut) stop whole more = omega (arith, more cut.1, length-append (part_bytes cut.0) (joined (whole cut.1)))

-- the byte at which the counting stops is the one behind them
pub stop_whole : (most : ℕ) (b : List ℕ) → stop_byte most b ≡ length (joined (whole_parts most b))
unfolding stop_byte whole_parts
stop_whole zero b = refl
stop_whole (suc most) [] = refl
stop_whole (suc most) (x ∷ xs) = behind_whole (first_part x xs) (stop_byte most) (whole_parts most) (λ rest. stop_whole most rest)

-- ---- all of them, where none is refused

pub whole_found : (most : ℕ) (b : List ℕ) (ps : List (List ℕ)) → parts_in most b ≡ answered ps → whole_parts most b ≡ ps
unfolding parts_in whole_parts
whole_found zero [] ps e = answered_same e
whole_found zero (x ∷ xs) ps e = absurd (not_answered e)
whole_found (suc most) [] ps e = answered_same e
whole_found (suc most) (x ∷ xs) ps e =
    let one = both (first_part x xs) _ ps e in
    let more = both (parts_in most one.value.1) _ ps one.second in
    rw one.first (ap (λ (qs : List (List ℕ)). one.value.0 ∷ qs) (whole_found most one.value.1 more.value more.first) ∙ answered_same more.second)

-- ---- what stands behind them, where one is refused

-- no part begins these bytes
pub record NoPart (rest : List ℕ) : Type 0 where
  pub some : 0 < length rest
  pub none : (p more : List ℕ) → Sized p → rest ≡ part_bytes p ++ more → ⊥

-- 4 or 5, and what is left
pub data Stops (most : ℕ) (b : List ℕ) (whole : List (List ℕ)) : ℕ → Type 0 where
  size_wrong : (rest : List ℕ) → b ≡ joined whole ++ rest → length whole < most → NoPart rest → Stops most b whole 4
  too_many : (rest : List ℕ) → b ≡ joined whole ++ rest → length whole ≡ most → 0 < length rest → Stops most b whole 5

-- a part is refused with 4 alone
cut_refused : (n : ℕ) (xs : List ℕ) (r : Refusal) → cut_part n xs ≡ refused r → PartWrong ≡ r
cut_refused n xs r e = go (refuses (ltb (length xs) n) PartWrong _ r e)
  where
    go : Refuses {A = List ℕ × List ℕ} (ltb (length xs) n) PartWrong (answered (take n xs, drop n xs)) r → PartWrong ≡ r
    go (here t s) = s
    go (later t s) = absurd (not_answered (sym s))

first_refused : (x : ℕ) (xs : List ℕ) (r : Refusal) → first_part x xs ≡ refused r → PartWrong ≡ r
unfolding first_part
first_refused x xs r e = go (ltb x 255) e
  where
    long : Refuses (ltb (length xs) 4 || ltb (number xs) 255) PartWrong (cut_part (number xs) (drop 4 xs)) r → PartWrong ≡ r
    long (here t s) = s
    long (later t s) = cut_refused (number xs) (drop 4 xs) r s

    go : (t : Bool) → cond t (cut_part x xs) (refuse_if (ltb (length xs) 4 || ltb (number xs) 255) PartWrong (cut_part (number xs) (drop 4 xs))) ≡ refused r → PartWrong ≡ r
    go true e = cut_refused x xs r e
    go false e = long (refuses (ltb (length xs) 4 || ltb (number xs) 255) PartWrong _ r e)

-- and no part stands where one is refused
first-none : (x : ℕ) (xs : List ℕ) (r : Refusal) → first_part x xs ≡ refused r → NoPart (x ∷ xs)
first-none x xs r e = record { some = omega arith; none = no }
  where
    no : (p more : List ℕ) → Sized p → x ∷ xs ≡ part_bytes p ++ more → ⊥
    no p more sized same =
        let begun = first_join p more sized in
        let cons : x ∷ xs ≡ begun.size ∷ begun.left = same ∙ begun.same in
        let one : x ≡ begun.size = cc in
        let two : xs ≡ begun.left = cc in
        let read : first_part x xs ≡ answered (p, more) = rw (one, two) begun.read in
        not_answered (sym e ∙ read)

stops_more : {most : ℕ} {rest : List ℕ} {whole : List (List ℕ)} {n : ℕ} (b p : List ℕ) → b ≡ part_bytes p ++ rest → Stops most rest whole n → Stops (suc most) b (p ∷ whole) n
stops_more {whole = whole} b p e (size_wrong left same few none) =
    size_wrong left (e ∙ ap (λ (t : List ℕ). part_bytes p ++ t) same ∙ sym (append_assoc (part_bytes p) (joined whole) left)) (omega arith) none
stops_more {whole = whole} b p e (too_many left same few some) =
    too_many left (e ∙ ap (λ (t : List ℕ). part_bytes p ++ t) same ∙ sym (append_assoc (part_bytes p) (joined whole) left)) (omega arith) some

stops_first : (most : ℕ) (x : ℕ) (xs : List ℕ) (r : Refusal) (a : Answer (List ℕ × List ℕ)) → first_part x xs ≡ a → Bytes (x ∷ xs) →
    ((rest : List ℕ) → Bytes rest → parts_in most rest ≡ refused r → Stops most rest (whole_parts most rest) (number_of r)) →
    and_then a (λ cut. and_then (parts_in most cut.1) (λ ps. answered (cut.0 ∷ ps))) ≡ refused r →
    Stops (suc most) (x ∷ xs) (part_then a (whole_parts most)) (number_of r)
stops_first most x xs r (refused q) k b more e =
    subst (λ (s : Refusal). Stops (suc most) (x ∷ xs) [] (number_of s)) (first_refused x xs q k ∙ refused_same e) (size_wrong (x ∷ xs) refl (omega arith) (first-none x xs q k))
stops_first most x xs r (answered cut) k b more e =
    let first = first_split x xs cut b k in
    let bytes : Bytes (part_bytes cut.0 ++ cut.1) = subst Bytes first.same b in
    stops_more (x ∷ xs) cut.0 first.same (more cut.1 (bytes_back (part_bytes cut.0) cut.1 bytes) (go (parts_in most cut.1) e))
  where
    go : (a : Answer (List (List ℕ))) → and_then a (λ ps. answered (cut.0 ∷ ps)) ≡ refused r → a ≡ refused r
    go (refused q) e = ap refused (refused_same e)
    go (answered ps) e = absurd (not_answered (sym e))

pub stops : (most : ℕ) (b : List ℕ) (r : Refusal) → Bytes b → parts_in most b ≡ refused r → Stops most b (whole_parts most b) (number_of r)
unfolding parts_in whole_parts
stops zero [] r b e = absurd (not_answered (sym e))
stops zero (x ∷ xs) r b e = subst (λ (s : Refusal). Stops zero (x ∷ xs) [] (number_of s)) (refused_same e) (too_many (x ∷ xs) refl refl (omega arith))
stops (suc most) [] r b e = absurd (not_answered (sym e))
stops (suc most) (x ∷ xs) r b e = stops_first most x xs r (first_part x xs) refl b (λ rest bytes more. stops most rest r bytes more) e
