-- The byte of a body and of a frame that are refused: by the counting of the parts, and by the tests in front.
use mathlib.Core.Path.{◌≡◌, refl, sym, ap, ◌∙◌}
use Prim.Native.Nat.{ℕ, ◌+◌, ◌<◌, ◌≤◌}
use mathlib.Core.Bool.{not}
use mathlib.Core.List.{List}
use native.Mathlib.Omega.{arith}
use borrow.Author.Tests.{ltb-false, ne_eqb}
use lib.Dec.{ltb}
use lib.ListN.{length, length-append}
use Rattle.bytes_number.specs.Number.{Bytes}
use Rattle.refusal.specs.declared.Refusal.{Refusal}
use Rattle.refusal.specs.declared.Refusal.TheVariants.{InputShort, StartWrong, BodyLong}
use Rattle.refusal.specs.Refusals.{number_of}
use Rattle.refusal.specs.Answer.{Answer, refused, answered, refuse_if, and_then, result_of}
use Rattle.refusal.proofs.Answers.{Refuses, here, later, refuses, not_answered}
use Rattle.frame_message.specs.Message.{Message}
use Rattle.frame_message.specs.Frame.{joined}
use Rattle.frame_message.specs.Reading.{parts_in, judged, starts_right, body_length, reading_of}
use Rattle.std.specs.Prelude.{Ok, Err}
use Rattle.frame_parts.specs.declared.PartCounts.{PartCounts}
use Rattle.frame_parts.specs.declared.Stop.{Stop}
use Rattle.frame_read.specs.WorkingFront.{Opens}
use Rattle.frame_parts.specs.WorkingCounting.{stop_byte, counted_as, counting_of}
use Rattle.frame_body.specs.WorkingJudging.{parts_found, CountsOf}
use Rattle.frame_body.proofs.Heading.{counting_refused}
use Rattle.frame_fault.specs.declared.Fault.{Fault}
use Rattle.frame_fault.specs.Fault.{body_in, whole_parts, size_byte, fault_bytes, byte_for, fault_number, fault_of}
use Rattle.frame_fault.specs.WorkingFaults.{Why, IsRefused, verdict_of}
use Rattle.frame_fault.proofs.Whole.{Stops, size_wrong, too_many, stops, stop_whole, whole_found}
use Rattle.frame_fault.proofs.Whys.{judged_why}

-- ---- a body

-- 4 and 5 are told at the same byte
stop_byte_lem : {most : ℕ} {body : List ℕ} {ps : List (List ℕ)} {n : ℕ} → Stops most body ps n → size_byte ps ≡ byte_for n (fault_bytes ps)
stop_byte_lem (size_wrong rest same few none) = refl
stop_byte_lem (too_many rest same few some) = refl

-- and it lies in the body
stop_within : {most : ℕ} {body : List ℕ} {ps : List (List ℕ)} {n : ℕ} → Stops most body ps n → length (joined ps) ≤ length body
stop_within {ps = ps} (size_wrong rest same few none) = omega (arith, ap length same, length-append (joined ps) rest)
stop_within {ps = ps} (too_many rest same few some) = omega (arith, ap length same, length-append (joined ps) rest)

module _ (body : List ℕ) (b : Bytes body) {stop : Stop} (e : Err stop ≡ counting_of 68 body) where
  is : parts_in 68 body ≡ refused stop.why
  is = counting_refused (stop_byte 68 body) (parts_in 68 body) e

  -- where the counting stopped
  there : stop.at ≡ length (joined (whole_parts 68 body))
  there = go (parts_in 68 body) is e ∙ stop_whole 68 body
    where
      go : (a : Answer (List (List ℕ))) → a ≡ refused stop.why → Err stop ≡ counted_as (stop_byte 68 body) a → stop.at ≡ stop_byte 68 body
      go (refused q) k f = let same : stop ≡ record { why = q; at = stop_byte 68 body } = cc in ap (λ (s : Stop). s.at) same
      go (answered ps) k f = absurd (not_answered (sym k))

  pub stop_low : stop.at ≤ length body
  stop_low = omega (arith, there, stop_within (stops 68 body stop.why b is))

  pub stop_refuses : IsRefused body stop.why
  stop_refuses = rw is

  pub stopped_byte : 8 + stop.at ≡ byte_for (number_of stop.why) (fault_bytes (whole_parts 68 body))
  stopped_byte = ap (λ (k : ℕ). 8 + k) there ∙ stop_byte_lem (stops 68 body stop.why b is)

module _ (body : List ℕ) {counts : PartCounts} (o : CountsOf body counts) where
  pub counted_why : {why : Refusal} → IsRefused body why → Why (parts_found body) why
  counted_why {why} e = judged_why (parts_found body) why (sym (ap (λ (a : Answer (List (List ℕ))). and_then a judged) o.found) ∙ e)

  pub counted_byte : (n : ℕ) → byte_for n (fault_bytes (parts_found body)) ≡ byte_for n (fault_bytes (whole_parts 68 body))
  counted_byte n = ap (λ (ps : List (List ℕ)). byte_for n (fault_bytes ps)) (sym (whole_found 68 body (parts_found body) o.found))

-- ---- a frame

-- a number behind the reader's first tests is of a body that is all there
pub record Opened (b : List ℕ) (r : Refusal) : Type 0 where
  pub low : body_length b ≤ 32768
  pub fits : 8 + body_length b ≤ length b
  pub refuses : and_then (parts_in 68 (body_in b)) judged ≡ refused r

pub opened : (b : List ℕ) (r : Refusal) → 4 ≤ number_of r → reading_of b ≡ refused r → Opened b r
unfolding reading_of
opened b r least e = first (refuses _ _ _ r e)
  where
    early : {q : Refusal} → number_of q < 4 → q ≡ r → Opened b r
    early l s = absurd (omega (arith, ap number_of s))

    fourth : 8 ≤ length b → body_length b ≤ 32768 → Refuses (ltb (length b) (8 + body_length b)) InputShort (and_then (parts_in 68 (body_in b)) judged) r → Opened b r
    fourth long low (here t s) = early (omega arith) s
    fourth long low (later t s) = record { low = low; fits = ltb-false _ _ t; refuses = s }

    third : 8 ≤ length b → Refuses (ltb 32768 (body_length b)) BodyLong (refuse_if (ltb (length b) (8 + body_length b)) InputShort (and_then (parts_in 68 (body_in b)) judged)) r → Opened b r
    third long (here t s) = early (omega arith) s
    third long (later t s) = fourth long (ltb-false _ _ t) (refuses _ _ _ r s)

    second : 8 ≤ length b → Refuses (not (starts_right b)) StartWrong (refuse_if (ltb 32768 (body_length b)) BodyLong (refuse_if (ltb (length b) (8 + body_length b)) InputShort (and_then (parts_in 68 (body_in b)) judged))) r → Opened b r
    second long (here t s) = early (omega arith) s
    second long (later t s) = third long (refuses _ _ _ r s)

    first : Refuses (ltb (length b) 8) InputShort (refuse_if (not (starts_right b)) StartWrong (refuse_if (ltb 32768 (body_length b)) BodyLong (refuse_if (ltb (length b) (8 + body_length b)) InputShort (and_then (parts_in 68 (body_in b)) judged)))) r → Opened b r
    first (here t s) = early (omega arith) s
    first (later t s) = second (ltb-false _ _ t) (refuses _ _ _ r s)

-- 0 to 3 have no byte
pub no_byte : (ps : List (List ℕ)) (n : ℕ) → n < 4 → byte_for n (fault_bytes ps) ≡ 0
no_byte ps n l =
    rw (
      ne_eqb n 4 (λ e. omega arith),
      ne_eqb n 5 (λ e. omega arith),
      ne_eqb n 6 (λ e. omega arith),
      ne_eqb n 7 (λ e. omega arith),
      ne_eqb n 8 (λ e. omega arith),
      ne_eqb n 9 (λ e. omega arith),
      ne_eqb n 10 (λ e. omega arith),
      ne_eqb n 20 (λ e. omega arith),
      ne_eqb n 21 (λ e. omega arith),
      ne_eqb n 22 (λ e. omega arith),
      ne_eqb n 23 (λ e. omega arith),
    )

-- ---- what the reader said

module _ (b : List ℕ) where
  pub verdict_refused : {r : Refusal} → reading_of b ≡ refused r → Err r ≡ verdict_of b
  verdict_refused e = rw e

  pub read_verdict : {m : Message} → reading_of b ≡ answered m → Ok (tt {0}) ≡ verdict_of b
  read_verdict e = rw e

  pub refused_verdict : {r : Refusal} → Err r ≡ verdict_of b → reading_of b ≡ refused r
  refused_verdict {r} e = go (reading_of b) e
    where
      go : (a : Answer Message) → Err r ≡ result_of (λ m. tt {0}) a → a ≡ refused r
      go (refused q) e = cc
      go (answered m) e = let z : ◌≡◌ {A = ℕ} 0 1 = cc in absurd (omega arith)

  pub fault_none : Ok (tt {0}) ≡ verdict_of b → ◌≡◌ {A = Fault} (record { number = 0; byte = 0 }) (fault_of b)
  unfolding fault_of
  fault_none e = go (reading_of b) e
    where
      go : (a : Answer Message) → Ok (tt {0}) ≡ result_of (λ m. tt {0}) a → ◌≡◌ {A = Fault} (record { number = 0; byte = 0 }) (record { number = fault_number a; byte = byte_for (fault_number a) (fault_bytes (whole_parts 68 (body_in b))) })
      go (refused q) e = let z : ◌≡◌ {A = ℕ} 0 1 = cc in absurd (omega arith)
      go (answered m) e = refl

  pub fault_at : {r : Refusal} {n at : ℕ} → reading_of b ≡ refused r → n ≡ number_of r → at ≡ byte_for (number_of r) (fault_bytes (whole_parts 68 (body_in b))) → ◌≡◌ {A = Fault} (record { number = n; byte = at }) (fault_of b)
  unfolding fault_of
  fault_at e number byte = rw (e, number, byte)

  -- of a frame whose body was counted
  pub fault_counted : {body : List ℕ} {n at : ℕ} → body ≡ body_in b → n ≡ fault_number (reading_of b) → at ≡ byte_for n (fault_bytes (whole_parts 68 body)) → ◌≡◌ {A = Fault} (record { number = n; byte = at }) (fault_of b)
  unfolding fault_of
  fault_counted same number byte = rw (byte, same, number)

  -- of a frame whose body is all there
  module _ {body : List ℕ} (o : Opens b body) {r : Refusal} where
    pub body_refuses : reading_of b ≡ refused r → IsRefused body r
    body_refuses e = sym o.reading ∙ e

    pub refuses_body : IsRefused body r → reading_of b ≡ refused r
    refuses_body e = o.reading ∙ e

    pub fault_in_body : {n at : ℕ} → reading_of b ≡ refused r → n ≡ number_of r → at ≡ byte_for (number_of r) (fault_bytes (whole_parts 68 body)) → ◌≡◌ {A = Fault} (record { number = n; byte = at }) (fault_of b)
    fault_in_body e number byte = fault_at e number (byte ∙ ap (λ (xs : List ℕ). byte_for (number_of r) (fault_bytes (whole_parts 68 xs))) o.is)
