-- The parts of a body, counted as they come: what is known after some of them, and what each way out of the loop shows.
use mathlib.Core.Path.{◌≡◌, refl, sym, ap, ◌∙◌}
use mathlib.Core.Bool.{Bool, true, false}
use Prim.Native.Nat.{ℕ, zero, suc, ◌+◌, ◌-◌, ◌<◌, ◌≤◌}
use mathlib.Core.List.{List, [], ◌∷◌, ◌++◌, append_assoc, append-nil}
use native.Mathlib.Omega.{arith}
use lib.Dec.{ltb}
use lib.ListN.{length, get_or, take, drop, length-append, length-drop, drop_of_length-le}
use lib.Seq.{drop-drop, drop_at, drop-cons, append_snoc, take_all}
use Rattle.bytes_number.specs.Number.{Bytes}
use Rattle.bytes_number.proofs.Numbers.{bytes_drop}
use Rattle.refusal.specs.declared.Refusal.TheVariants.{PartWrong, PartsMany}
use Rattle.refusal.specs.Answer.{Answer, refused, answered, and_then}
use Rattle.frame_message.specs.Frame.{size_bytes, part_bytes, joined}
use Rattle.frame_message.specs.Reading.{first_part, parts_in, front, before_empty}
use Rattle.frame_message.proofs.Lists.{front_snoc}
use Rattle.frame_message.proofs.Parts.{first_split}
use Rattle.std.specs.Prelude.{Ok, Err, Some, None}
use Rattle.frame_message.specs.declared.Stretch.{Stretch}
use Rattle.frame_part_size.specs.WorkingSizes.{size_at}
use Rattle.frame_part_size.proofs.Sizes.{CutBy, part_wrong, part_cut}
use Rattle.frame_parts.specs.declared.PartCounts.{PartCounts}
use Rattle.frame_parts.specs.WorkingCounting.{stop_byte, counting_of}

-- what is left behind a place, as a part of a slice has it
pub part_from : (b : List ℕ) (at : ℕ) → take (length b - at) (drop at b) ≡ drop at b
part_from b at = take_all (length b - at) (drop at b) (omega (arith, length-drop at b))

-- ---- lists of parts

-- parts that were found, in front of an answer
abbrev pub behind_of : List (List ℕ) → Answer (List (List ℕ)) → Answer (List (List ℕ))
behind_of done rest = and_then rest (λ ps. answered (done ++ ps))

pub joined_snoc : (ps : List (List ℕ)) (p : List ℕ) → joined (ps ++ (p ∷ [])) ≡ joined ps ++ part_bytes p
joined_snoc [] p = append-nil (part_bytes p)
joined_snoc (q ∷ ps) p = rw (joined_snoc ps p) (sym (append_assoc (part_bytes q) (joined ps) (part_bytes p)))

-- each part has a size, so there are no more parts than bytes
pub part_has_size : (p : List ℕ) → 0 < length (part_bytes p)
part_has_size p = go (ltb (length p) 255) refl
  where
    go : (t : Bool) → ltb (length p) 255 ≡ t → 0 < length (part_bytes p)
    go true e = rw e (omega arith)
    go false e = rw e (omega arith)

pub joined-many : (ps : List (List ℕ)) → length ps ≤ length (joined ps)
joined-many [] = omega arith
joined-many (p ∷ ps) = omega (arith, length-append (part_bytes p) (joined ps), part_has_size p, joined-many ps)

-- ---- the parts in front of the first empty one

pub before_few : (ps : List (List ℕ)) → length (before_empty ps) ≤ length ps
before_few [] = omega arith
before_few ([] ∷ ps) = omega arith
before_few ((x ∷ p) ∷ ps) = omega (arith, before_few ps)

pub before_short : (ps : List (List ℕ)) → length (joined (before_empty ps)) ≤ length (joined ps)
before_short [] = omega arith
before_short ([] ∷ ps) = omega arith
before_short ((x ∷ p) ∷ ps) =
    omega (arith, length-append (part_bytes (x ∷ p)) (joined (before_empty ps)), length-append (part_bytes (x ∷ p)) (joined ps), before_short ps)

-- with one part more: no part was empty, nor is this one; it is empty; one was empty already
pub before-none : (ps : List (List ℕ)) (p : List ℕ) → length (before_empty ps) ≡ length ps → (length p ≡ 0 → ⊥) → before_empty (ps ++ (p ∷ [])) ≡ ps ++ (p ∷ [])
before-none [] [] e n = absurd (n refl)
before-none [] (x ∷ p) e n = refl
before-none ([] ∷ ps) p e n = absurd (omega arith)
before-none ((x ∷ q) ∷ ps) p e n = rw (before-none ps p (omega arith) n)

before_this : (ps : List (List ℕ)) (p : List ℕ) → length p ≡ 0 → before_empty (ps ++ (p ∷ [])) ≡ before_empty ps
before_this [] [] e = refl
before_this [] (x ∷ p) e = absurd (omega arith)
before_this ([] ∷ ps) p e = refl
before_this ((x ∷ q) ∷ ps) p e = rw (before_this ps p e)

pub before_earlier : (ps : List (List ℕ)) (p : List ℕ) → (length (before_empty ps) ≡ length ps → ⊥) → before_empty (ps ++ (p ∷ [])) ≡ before_empty ps
before_earlier [] p n = absurd (n refl)
before_earlier ([] ∷ ps) p n = refl
before_earlier ((x ∷ q) ∷ ps) p n = rw (before_earlier ps p (λ e. n (omega arith)))

-- parts in front of none, and of one more
behind_none : (rest : Answer (List (List ℕ))) → behind_of [] rest ≡ rest
behind_none (refused r) = refl
behind_none (answered ps) = refl

behind_one : (done : List (List ℕ)) (p : List ℕ) (rest : Answer (List (List ℕ))) → behind_of done (and_then rest (λ ps. answered (p ∷ ps))) ≡ behind_of (done ++ (p ∷ [])) rest
behind_one done p (refused r) = refl
behind_one done p (answered ps) = ap answered (sym (append_snoc done p ps))

-- ---- one turn of `parts_in`, and of `stop_byte`

no_more : (most : ℕ) → parts_in most [] ≡ answered []
unfolding parts_in
no_more zero = refl
no_more (suc most) = refl

module _ (x : ℕ) (xs : List ℕ) where
  one_too_many : parts_in 0 (x ∷ xs) ≡ refused PartsMany
  unfolding parts_in
  one_too_many = refl

  stops_many : stop_byte 0 (x ∷ xs) ≡ 0
  unfolding stop_byte
  stops_many = refl

  module _ (most : ℕ) where
    one_wrong : first_part x xs ≡ refused PartWrong → parts_in (suc most) (x ∷ xs) ≡ refused PartWrong
    unfolding parts_in
    one_wrong e = rw e

    stops_wrong : first_part x xs ≡ refused PartWrong → stop_byte (suc most) (x ∷ xs) ≡ 0
    unfolding stop_byte
    stops_wrong e = rw e

    module _ (cut : List ℕ × List ℕ) (e : first_part x xs ≡ answered cut) where
      one_more : parts_in (suc most) (x ∷ xs) ≡ and_then (parts_in most cut.1) (λ ps. answered (cut.0 ∷ ps))
      unfolding parts_in
      one_more = rw e

      stops_more : stop_byte (suc most) (x ∷ xs) ≡ length (part_bytes cut.0) + stop_byte most cut.1
      unfolding stop_byte
      stops_more = rw e

-- ---- the loop

-- some parts of a body are passed, of at most so many
pub record Passed (most : ℕ) (body : List ℕ) (at : ℕ) (counts : PartCounts) : Type 0 where
  pub done : List (List ℕ)
  pub rest : parts_in most body ≡ behind_of done (parts_in (most - counts.count) (drop at body))
  pub stops : stop_byte most body ≡ at + stop_byte (most - counts.count) (drop at body)
  pub counted : counts.count ≡ length done
  pub few : counts.count ≤ most
  pub emptied : counts.empty ≡ length (before_empty done)
  pub grouped : counts.group ≡ length (joined (before_empty done))
  pub lasted : counts.last ≡ length (joined (front done))
  pub here : at ≡ length (joined done)
  pub within : at ≤ length body

pub passed_none : (most : ℕ) (body : List ℕ) → Passed most body 0 (record { count = 0; empty = 0; group = 0; last = 0 })
passed_none most body =
    let all : most - 0 ≡ most = omega arith in
    record {
      done = [];
      rest = rw all (sym (behind_none (parts_in most body)));
      stops = rw all (omega arith);
      counted = refl;
      few = omega arith;
      emptied = refl;
      grouped = refl;
      lasted = refl;
      here = refl;
      within = omega arith;
    }

module _ {most : ℕ} {body : List ℕ} {at : ℕ} {counts : PartCounts} (p : Passed most body at counts) where
  -- so one part more can be counted
  pub passed_low : counts.count ≤ at
  passed_low = omega (arith, joined-many p.done, p.counted, p.here)

  pub passed_all : at ≡ length body → Ok counts ≡ counting_of most body
  passed_all e =
      let none : drop at body ≡ [] = drop_of_length-le body {i = at} (omega arith) in
      let all : parts_in most body ≡ answered p.done = p.rest ∙ rw (none, no_more (most - counts.count), append-nil p.done) in
      rw (all, p.counted, p.emptied, p.grouped, p.lasted)

  module _ (more : at ≡ length body → ⊥) where
    x : ℕ
    x = get_or body at 0

    xs : List ℕ
    xs = drop (suc at) body

    left : drop at body ≡ x ∷ xs
    unfolding x xs
    left = drop-cons body at 0 (omega (arith, p.within))

    pub passed_many : counts.count ≡ most → Err (record { why = PartsMany; at = at }) ≡ counting_of most body
    passed_many e =
        let full : most - counts.count ≡ 0 = omega arith in
        let stop : stop_byte most body ≡ at = p.stops ∙ rw (full, left, stops_many x xs) (omega arith) in
        rw (stop, p.rest, full, left, one_too_many x xs)

    -- there is room for one part more
    abbrev Room : Type 0
    Room = counts.count ≡ most → ⊥

    fewer : Room → most - counts.count ≡ suc (most - (counts.count + 1))
    fewer room = omega (arith, p.few)

    pub passed_wrong : Room → None ≡ size_at (drop at body) → Err (record { why = PartWrong; at = at }) ≡ counting_of most body
    passed_wrong room e =
        let wrong = part_wrong x xs (rw left at e) in
        let stop : stop_byte most body ≡ at = p.stops ∙ rw (fewer room, left, stops_wrong x xs (most - (counts.count + 1)) wrong) (omega arith) in
        rw (stop, p.rest, fewer room, left, one_wrong x xs (most - (counts.count + 1)) wrong)

    -- a part that follows
    module _ (b : Bytes body) {size : Stretch} (found : Some size ≡ size_at (drop at body)) where
      c : CutBy x xs size.start size.len
      c = part_cut x xs size (rw left at found)

      part : List ℕ
      part = c.cut.0

      abbrev next : ℕ
      next = at + size.start + size.len

      same : drop at body ≡ part_bytes part ++ c.cut.1
      unfolding part
      same = left ∙ (first_split x xs c.cut (rw left at (bytes_drop at body b)) c.first).same

      long : length (part_bytes part) ≡ size.start + size.len
      unfolding part
      long = omega (arith, c.starts, c.long, length-append (size_bytes (length part)) part)

      pub passed_within : next ≤ length body
      passed_within = omega (arith, p.within, ap length same, length-append (part_bytes part) c.cut.1, length-drop at body, long)

      behind : drop next body ≡ c.cut.1
      behind =
          let there : next ≡ at + (size.start + size.len) = omega arith in
          rw (there, ← drop-drop (size.start + size.len) at body, same) (drop_at (part_bytes part) c.cut.1 (size.start + size.len) long)

      abbrev passed : List (List ℕ)
      passed = p.done ++ (part ∷ [])

      more_counted : length passed ≡ counts.count + 1
      more_counted = omega (arith, p.counted, length-append p.done (part ∷ []))

      joins : length (joined passed) ≡ next
      joins = omega (arith, p.here, ap length (joined_snoc p.done part), length-append (joined p.done) (part_bytes part), long)

      module _ (room : Room) {n e g : ℕ} (one : n ≡ counts.count + 1) where
        passed_part : e ≡ length (before_empty passed) → g ≡ length (joined (before_empty passed)) → Passed most body next (record { count = n; empty = e; group = g; last = at })
        unfolding part
        passed_part emptied grouped =
            let still = most - (counts.count + 1) in
            record {
              done = passed;
              rest = p.rest ∙ rw (one, fewer room, left, one_more x xs still c.cut c.first, behind) (behind_one p.done part (parts_in still c.cut.1));
              stops = p.stops ∙ rw (one, fewer room, left, stops_more x xs still c.cut c.first, behind) (omega (arith, long));
              counted = one ∙ sym more_counted;
              few = omega (arith, p.few, one);
              emptied = emptied;
              grouped = grouped;
              lasted = p.here ∙ ap (λ (ps : List (List ℕ)). length (joined ps)) (sym (front_snoc p.done part));
              here = sym joins;
              within = passed_within;
            }

        -- by the tests of the code
        pub passed_none_empty : counts.empty ≡ counts.count → (size.len ≡ 0 → ⊥) → e ≡ counts.empty + 1 → g ≡ next → Passed most body next (record { count = n; empty = e; group = g; last = at })
        unfolding part
        passed_none_empty same some k l =
            let all = before-none p.done part (omega (arith, p.counted, p.emptied)) (λ z. some (omega (arith, c.long))) in
            passed_part (rw all (omega (arith, more_counted))) (rw all (omega (arith, joins)))

        pub passed_this_empty : size.len ≡ 0 → e ≡ counts.empty → g ≡ counts.group → Passed most body next (record { count = n; empty = e; group = g; last = at })
        unfolding part
        passed_this_empty z k l =
            let none = before_this p.done part (omega (arith, c.long)) in
            passed_part (rw none (k ∙ p.emptied)) (rw none (l ∙ p.grouped))

        pub passed_earlier_empty : (counts.empty ≡ counts.count → ⊥) → e ≡ counts.empty → g ≡ counts.group → Passed most body next (record { count = n; empty = e; group = g; last = at })
        passed_earlier_empty other k l =
            let none = before_earlier p.done part (λ e. other (omega (arith, p.counted, p.emptied))) in
            passed_part (rw none (k ∙ p.emptied)) (rw none (l ∙ p.grouped))
