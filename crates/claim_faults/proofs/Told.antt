-- What the record tells of a frame's fault: the fault is the row's.
use mathlib.Core.Path.{◌≡◌, refl, sym, ap, subst, ◌∙◌}
use Prim.Native.Nat.{ℕ, ◌+◌, ◌<◌, ◌≤◌}
use mathlib.Core.List.{List}
use native.Mathlib.Omega.{arith}
use native.Mathlib.Decide.{dec_le}
use native.Mathlib.Nat.{lt_of_not-le}
use borrow.Author.Tests.{le-ltb}
use lib.ListN.{length, drop}
use Rattle.bytes_number.specs.Number.{Bytes}
use Rattle.bytes_number.proofs.Numbers.{bytes_take, bytes_drop}
use Rattle.bytes_number.proofs.Rows.{row_number}
use Rattle.refusal.specs.declared.Refusal.{Refusal}
use Rattle.refusal.specs.Refusals.{number_of}
use Rattle.refusal.specs.Answer.{Answer, refused, answered, and_then}
use Rattle.refusal.proofs.Answers.{number-range, refused_same}
use Rattle.frame_message.specs.Message.{Message}
use Rattle.frame_message.specs.Reading.{parts_in, judged, body_length, reading_of}
use Rattle.frame_message.proofs.Parts.{split}
use Rattle.frame_layout.specs.Layout.{layout_of}
use Rattle.frame_fault.specs.declared.Fault.{Fault}
use Rattle.frame_fault.specs.Fault.{body_in, whole_parts, fault_bytes, byte_for, fault_number, fault_of}
use Rattle.frame_fault.proofs.Whole as whole
use Rattle.frame_fault.proofs.Whole.{Stops, stops, whole_found}
use Rattle.frame_fault.proofs.Whys.{judged_why}
use Rattle.frame_fault.proofs.Bodies.{Opened, opened, no_byte}
use Rattle.call_read_record.specs.Rows.{read_row}
use Rattle.call_specs.specs.Calls.{returned, read_call, Reads}
use Rattle.call_specs.specs.FaultCalls.{fault_numbers, TellsFault}
use Rattle.claim_faults.specs.Faults.{FaultAt, size_wrong, too_many, number_told, byte_told, FaultTold}
use Rattle.claim_faults.proofs.Rows.{part_row}
use Rattle.claim_faults.proofs.Within.{Inside, place_inside}
use Rattle.claim_faults.proofs.Only.{only}

-- ---- the byte of a number

stop_row : {b : List ℕ} {ps : List (List ℕ)} {n : ℕ} → Stops 68 (body_in b) ps n → FaultAt b n (byte_for n (fault_bytes ps))
stop_row {ps = ps} (whole.size_wrong rest e few none) = size_wrong ps rest e few (record { some = none.some; none = none.none })
stop_row {ps = ps} (whole.too_many rest e few some) = too_many ps rest e few some

module _ (b : List ℕ) (bytes : Bytes b) (q : Refusal) (o : Opened b q) where
  body_bytes : Bytes (body_in b)
  body_bytes = bytes_take (body_length b) (drop 8 b) (bytes_drop 8 b bytes)

  body_row : FaultAt b (number_of q) (byte_for (number_of q) (fault_bytes (whole_parts 68 (body_in b))))
  body_row = go (parts_in 68 (body_in b)) refl o.refuses
    where
      go : (a : Answer (List (List ℕ))) → parts_in 68 (body_in b) ≡ a → and_then a judged ≡ refused q → FaultAt b (number_of q) (byte_for (number_of q) (fault_bytes (whole_parts 68 (body_in b))))
      go (refused r) k e = stop_row (stops 68 (body_in b) q body_bytes (k ∙ ap refused (refused_same e)))
      go (answered ps) k e =
          let same = (split 68 (body_in b) ps body_bytes k).same in
          subst (λ (qs : List (List ℕ)). FaultAt b (number_of q) (byte_for (number_of q) (fault_bytes qs))) (sym (whole_found 68 (body_in b) ps k)) (part_row b o.fits ps same (judged_why ps q e))

-- ---- the fault

-- what is known of number and byte
record Known (b : List ℕ) (n x : ℕ) : Type 0 where
  none : n < 4 → x ≡ 0
  place : 4 ≤ n → FaultAt b n x
  there : 4 ≤ n → 8 + body_length b ≤ length b
  short : 4 ≤ n → body_length b ≤ 32768
  low : x < 4294967296
  small : n < 4294967296

known : (b : List ℕ) → Bytes b → Known b (fault_of b).number (fault_of b).byte
unfolding fault_of
known b bytes = go (reading_of b) refl
  where
    early : (n : ℕ) → n < 4 → Known b n (byte_for n (fault_bytes (whole_parts 68 (body_in b))))
    early n l =
        let zero = no_byte (whole_parts 68 (body_in b)) n l in
        record { none = λ _. zero; place = λ h. absurd (omega arith); there = λ h. absurd (omega arith); short = λ h. absurd (omega arith); low = omega (arith, zero); small = omega arith }

    later : (q : Refusal) → Opened b q → Known b (number_of q) (byte_for (number_of q) (fault_bytes (whole_parts 68 (body_in b))))
    later q o =
        let row = body_row b bytes q o in
        let i = place_inside b o.fits row in
        record {
          none = λ l. no_byte (whole_parts 68 (body_in b)) (number_of q) l;
          place = λ _. row;
          there = λ _. o.fits;
          short = λ _. o.low;
          low = bounded i o.low;
          small = omega (arith, (number-range q).1);
        }
      where
        bounded : {n x : ℕ} → Inside (body_length b) n x → body_length b ≤ 32768 → x < 4294967296
        bounded {n} {x} i l = split_by (dec_le 1 (body_length b))
          where
            split_by : Dec (1 ≤ body_length b) → x < 4294967296
            split_by (yes some) = omega (arith, i.within some)
            split_by (no n) = omega (arith, (i.empty (omega (arith, lt_of_not-le n))).1)

    go : (a : Answer Message) → reading_of b ≡ a → Known b (fault_number a) (byte_for (fault_number a) (fault_bytes (whole_parts 68 (body_in b))))
    go (answered m) k = early 0 (omega arith)
    go (refused q) k = by_number (dec_le 4 (number_of q))
      where
        by_number : Dec (4 ≤ number_of q) → Known b (number_of q) (byte_for (number_of q) (fault_bytes (whole_parts 68 (body_in b))))
        by_number (yes l) = later q (opened b q l k)
        by_number (no n) = early (number_of q) (lt_of_not-le n)

-- ---- the read call

-- it returns the same number
read_returns : (b other : List ℕ) (q : ℕ) (listed : List ℕ) → 52 ≤ length other → Reads b other q listed → (fault_of b).number ≡ q
unfolding fault_of read_call
read_returns b other q listed room reads = same (reading_of b) ∙ sym (reads.returns ∙ rw (le-ltb (length other) 52 room))
  where
    same : (a : Answer Message) → fault_number a ≡ returned (and_then a (λ m. answered (read_row (layout_of m))))
    same (refused r) = refl
    same (answered m) = refl

-- ---- the record

module _ (b lent : List ℕ) (r : ℕ) (row : List ℕ) (bytes : Bytes b) (tells : TellsFault (fault_of b) lent r row) where
  abbrev f : Fault
  f = fault_of b

  abbrev k : Known b f.number f.byte
  k = known b bytes

  number_is : number_told row ≡ r
  number_is = ap number_told tells.lists ∙ row_number (fault_numbers f) (drop 8 lent) 0 (omega arith) k.small ∙ sym tells.returns

  byte_is : f.byte ≡ byte_told row
  byte_is = sym (ap byte_told tells.lists ∙ row_number (fault_numbers f) (drop 8 lent) 1 (omega arith) k.low)

  here : Known b r (byte_told row)
  here = subst (λ (x : ℕ). Known b r x) byte_is (subst (λ (n : ℕ). Known b n f.byte) (sym tells.returns) k)

  in_frame : 4 ≤ r → Inside (body_length b) r (byte_told row)
  in_frame l = place_inside b (here.there l) (here.place l)

  pub fault_told : FaultTold b lent r row
  fault_told =
      record {
        reads = λ other q listed room reads. tells.returns ∙ read_returns b other q listed (omega (arith, room)) reads;
        number = number_is;
        none = λ l. here.none (omega (arith, l));
        place = λ l. here.place (omega (arith, l));
        only = λ l x f. only b (here.there (omega (arith, l))) (here.short (omega (arith, l))) f (here.place (omega (arith, l)));
        there = λ l. here.there (omega (arith, l));
        least = λ l. (in_frame (omega (arith, l))).least;
        within = λ l some. (in_frame (omega (arith, l))).within (omega (arith, some));
        empty = λ l. (in_frame (omega (arith, l))).empty;
        tail = ap (drop 8) tells.lists;
      }
