-- A frame: its start, its body's length and its body.
use mathlib.Core.Path.{◌≡◌, refl, sym, ap, ap₂, ◌∙◌}
use Prim.Native.Nat.{ℕ, ◌+◌, ◌≤◌}
use mathlib.Core.Bool.{true, not, ◌&&◌}
use mathlib.Core.List.{List, [], ◌∷◌, ◌++◌, append_assoc}
use native.Mathlib.Omega.{arith}
use borrow.Author.Tests.{eqb-true, ltb-false, le-ltb, not-false}
use lib.Dec.{eqb}
use lib.ListN.{length, get_or, take, drop, length-append, length-drop}
use lib.Seq.{length-take-le, take-add, take-append_seam}
use Rattle.bytes_number.specs.Number.{four, Bytes}
use Rattle.bytes_number.proofs.Numbers.{number-four, four-number, bytes_drop}
use Rattle.refusal.specs.Answer.{answered, and_then}
use Rattle.frame_message.specs.Header.{header_bytes}
use Rattle.frame_message.specs.Message.{Message}
use Rattle.frame_message.specs.Frame.{joined, routing, topic_part, payload_part, parts_of, frame_start, framed, body_of, frame_of}
use Rattle.frame_message.specs.Reading.{parts_in, judged, starts_right, body_length, reading_of}
use Rattle.frame_message.proofs.Headers.{four_places}
use Rattle.frame_message.proofs.Parts.{joined-append}
use Rattle.bytes_number.proofs.Truth.{and_left, and_right}
use Rattle.refusal.proofs.Answers.{passed, pass}

-- a frame is eight bytes and its body
pub frame_long : (m : Message) → length (frame_of m) ≡ 8 + length (body_of m)
unfolding frame_of
frame_long m = omega arith

-- and none is shorter than that of a control message, whose body is a header and its size
pub frame_least : (m : Message) → 29 ≤ length (frame_of m)
unfolding body_of parts_of header_bytes
frame_least m =
    let header = header_bytes m.header in
    let before = routing m ++ (topic_part m ++ payload_part m) in
    let parts : parts_of m ≡ before ++ (header ∷ []) = simp append_assoc in
    let body : length (body_of m) ≡ length (joined before) + 21 =
    ap (λ (ps : List (List ℕ)). length (joined ps)) parts ∙ ap length (joined-append before (header ∷ [])) ∙ length-append (joined before) (joined (header ∷ [])) in
    omega (arith, frame_long m, body)

-- ---- a frame read

-- 1, 2, 3 and 1 pass, and what is left to do is done with the body's parts
read_body : (b body : List ℕ) → 8 + length body ≤ length b → starts_right b ≡ true → body_length b ≡ length body → length body ≤ 32768 →
    take (length body) (drop 8 b) ≡ body → reading_of b ≡ and_then (parts_in 68 body) judged
unfolding reading_of
read_body b body within starts size short same =
    pass _ _ _ (le-ltb (length b) 8 (omega arith)) ∙
    pass _ _ _ (ap not starts) ∙
    pass _ _ _ (le-ltb 32768 (body_length b) (omega arith)) ∙
    pass _ _ _ (le-ltb (length b) (8 + body_length b) (omega arith)) ∙
    ap (λ (xs : List ℕ). and_then (parts_in 68 xs) judged) (ap (λ (n : ℕ). take n (drop 8 b)) size ∙ same)

-- a body of at most 32,768 bytes is found in its frame, whatever is behind
pub read_frame : (body rest : List ℕ) → length body ≤ 32768 → reading_of (framed body ++ rest) ≡ and_then (parts_in 68 body) judged
read_frame body rest h =
    let within : 8 + length body ≤ length (framed body ++ rest) = omega (arith, length-append body rest) in
    read_body (framed body ++ rest) body within refl (number-four (length body) (body ++ rest) (omega arith)) h (take-append_seam body rest)

-- ---- what the reader's answer tells

pub record Reading (b : List ℕ) (m : Message) : Type 0 where
  pub long : 8 ≤ length b
  pub starts : starts_right b ≡ true
  pub short : body_length b ≤ 32768
  pub within : 8 + body_length b ≤ length b
  pub parts : and_then (parts_in 68 (take (body_length b) (drop 8 b))) judged ≡ answered m

pub reading : (b : List ℕ) (m : Message) → reading_of b ≡ answered m → Reading b m
unfolding reading_of
reading b m e =
    let p₁ = passed _ _ _ _ e in
    let p₂ = passed _ _ _ _ p₁.rest in
    let p₃ = passed _ _ _ _ p₂.rest in
    let p₄ = passed _ _ _ _ p₃.rest in
    record {
      long = ltb-false (length b) 8 p₁.test;
      starts = not-false (starts_right b) p₂.test;
      short = ltb-false 32768 (body_length b) p₃.test;
      within = ltb-false (length b) (8 + body_length b) p₄.test;
      parts = p₄.rest;
    }

pub start_four : (p q r s : ℕ) → (eqb p 0xFF && (eqb q 0xEE && (eqb r 0x00 && eqb s 0x12))) ≡ true → p ∷ q ∷ r ∷ s ∷ [] ≡ frame_start
start_four p q r s e =
    let e₁ = and_right (eqb p 0xFF) (eqb q 0xEE && (eqb r 0x00 && eqb s 0x12)) e in
    let e₂ = and_right (eqb q 0xEE) (eqb r 0x00 && eqb s 0x12) e₁ in
    let first : p ≡ 0xFF = eqb-true p 0xFF (and_left (eqb p 0xFF) (eqb q 0xEE && (eqb r 0x00 && eqb s 0x12)) e) in
    let second : q ≡ 0xEE = eqb-true q 0xEE (and_left (eqb q 0xEE) (eqb r 0x00 && eqb s 0x12) e₁) in
    let third : r ≡ 0x00 = eqb-true r 0x00 (and_left (eqb r 0x00) (eqb s 0x12) e₂) in
    let fourth : s ≡ 0x12 = eqb-true s 0x12 (and_right (eqb r 0x00) (eqb s 0x12) e₂) in
    cc

start_bytes : (b : List ℕ) → 4 ≤ length b → starts_right b ≡ true → take 4 b ≡ frame_start
start_bytes b h e = ap (λ (xs : List ℕ). take 4 xs) (four_places b h) ∙ start_four (get_or b 0 0) (get_or b 1 0) (get_or b 2 0) (get_or b 3 0) e

-- bytes that begin with a frame, and the body in it
pub record Framed (b body : List ℕ) : Type 0 where
  pub same : framed body ≡ take (8 + body_length b) b
  pub size : length body ≡ body_length b

pub framed_in : (b : List ℕ) (m : Message) → Bytes b → Reading b m → Framed b (take (body_length b) (drop 8 b))
framed_in b m bytes r =
    let n = body_length b in
    let body = take n (drop 8 b) in
    let size : length body ≡ n = length-take-le n (drop 8 b) (simp length-drop (omega (arith, r.within))) in
    let four_bytes_lem = four-number (drop 4 b) (simp length-drop (omega (arith, r.long))) (bytes_drop 4 b bytes) in
    let start = start_bytes b (omega (arith, r.long)) r.starts in
    record {
      same =
          ap₂ (λ (s t : List ℕ). s ++ (t ++ body)) (sym start) (ap four size ∙ four_bytes_lem) ∙
          sym (append_assoc (take 4 b) (take 4 (drop 4 b)) body) ∙
          ap (λ (s : List ℕ). s ++ body) (sym (take-add 4 4 b)) ∙
          sym (take-add 8 n b);
      size = size;
    }

-- ---- a message whose body stands in a frame

module _ (b : List ℕ) (m : Message) (body : List ℕ) (same : body_of m ≡ body) (f : Framed b body) where
  pub frame_same : frame_of m ≡ take (8 + body_length b) b
  unfolding frame_of
  frame_same = ap framed same ∙ f.same

  pub frame_length_lem : length (frame_of m) ≡ 8 + body_length b
  unfolding frame_of
  frame_length_lem = omega (arith, ap length same, f.size)

  pub body_short : body_length b ≤ 32768 → length (body_of m) ≤ 32768
  body_short h = omega (arith, ap length same, f.size)
