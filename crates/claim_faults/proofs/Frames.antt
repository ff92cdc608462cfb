-- The bytes of a frame's last part, as they stand in the frame.
use mathlib.Core.Path.{◌≡◌, sym, ap, ◌∙◌}
use Prim.Native.Nat.{ℕ, ◌+◌, ◌<◌, ◌≤◌}
use mathlib.Core.Bool.{true}
use mathlib.Core.List.{List, [], ◌∷◌, ◌++◌}
use native.Mathlib.Omega.{arith}
use borrow.Author.Tests.{lt-ltb}
use lib.ListN.{length, get_or, drop, length-append, length-take, length-drop}
use lib.Seq.{get_or-take, get_or-drop}
use Rattle.bytes_number.specs.Number.{number}
use Rattle.frame_message.specs.Header.{header_in}
use Rattle.frame_message.specs.Working.{is_header}
use Rattle.frame_message.specs.Frame.{part_bytes, joined}
use Rattle.frame_message.specs.Reading.{front, final, body_length}
use Rattle.frame_message.proofs.Fields.{known_type, known_flags}
use Rattle.frame_message.proofs.Headers.{header_tested}
use Rattle.frame_message.proofs.Parts.{part_short}
use Rattle.frame_parts.proofs.Passing.{joined_snoc}
use Rattle.frame_fault.specs.Fault.{body_in}
use Rattle.frame_fault.specs.WorkingFaults.{Long}
use Rattle.frame_fault.proofs.Parts.{two_halves, header-byte}
use Rattle.claim_faults.specs.Faults.{header_at, HeaderIn, RightHeader}

-- a body that is all there is as long as it says
pub body_long : (b : List ℕ) → 8 + body_length b ≤ length b → length (body_in b) ≡ body_length b
body_long b fits = omega (arith, length-take (body_length b) (drop 8 b), length-drop 8 b)

-- the parts in front, and a last one of 20 bytes
pub header_long : (ps : List (List ℕ)) (p : List ℕ) → length p ≡ 20 → length (joined (ps ++ (p ∷ []))) ≡ length (joined ps) + 21
header_long ps p long =
    omega (arith, ap length (joined_snoc ps p), length-append (joined ps) (part_bytes p), ap length (part_short p (omega (arith, long))), long)

-- four bytes that are the same make the same number
same_number : (xs ys : List ℕ) → ((i : ℕ) → i < 4 → get_or xs i 0 ≡ get_or ys i 0) → number xs ≡ number ys
same_number xs ys same = rw (same 0 (omega arith), same 1 (omega arith), same 2 (omega arith), same 3 (omega arith))

module _ (b : List ℕ) (fits : 8 + body_length b ≤ length b) (ps : List (List ℕ)) (whole : body_in b ≡ joined ps) (long : Long ps) where
  abbrev p : List ℕ
  p = final [] ps

  abbrev at : ℕ
  at = length (joined (front ps)) + 1

  pub in_frame : HeaderIn b (front ps) p
  in_frame = record { whole = whole ∙ ap joined (sym (two_halves ps long)); long = long }

  size : length (body_in b) ≡ at + 20
  size = omega (arith, ap length in_frame.whole, header_long (front ps) p long)

  -- the byte with the index k of the header
  pub byte_is : (k m : ℕ) → m ≡ 8 + (at + k) → k < 20 → get_or b m 0 ≡ get_or p k 0
  byte_is k m e h =
      let inside : at + k < body_length b = omega (arith, size, body_long b fits) in
      ap (λ (j : ℕ). get_or b j 0) e ∙ sym (get_or-drop 8 b (at + k) 0) ∙ sym (get_or-take (body_length b) (drop 8 b) (at + k) 0 inside)
      ∙ header-byte ps long (body_in b) whole k

  -- the number there
  pub number_is : (k m : ℕ) → m ≡ 8 + (at + k) → k + 4 ≤ 20 → number (drop m b) ≡ number (drop k p)
  number_is k m e h =
      same_number (drop m b) (drop k p)
      (λ i l.
      let there : m + i ≡ 8 + (at + (k + i)) = omega arith in
      let here : k + i < 20 = omega arith in
      get_or-drop m b i 0 ∙ byte_is (k + i) (m + i) there here ∙ sym (get_or-drop k p i 0))

  pub magic_is : get_or b (header_at (front ps)) 0 ≡ get_or p 0 0
  magic_is = byte_is 0 (header_at (front ps)) (omega arith) (omega arith)

  pub version_is : get_or b (header_at (front ps) + 1) 0 ≡ get_or p 1 0
  version_is = byte_is 1 (header_at (front ps) + 1) (omega arith) (omega arith)

  pub type_is : get_or b (header_at (front ps) + 2) 0 ≡ get_or p 2 0
  type_is = byte_is 2 (header_at (front ps) + 2) (omega arith) (omega arith)

  pub flags_are : get_or b (header_at (front ps) + 3) 0 ≡ get_or p 3 0
  flags_are = byte_is 3 (header_at (front ps) + 3) (omega arith) (omega arith)

  pub right_header : is_header p ≡ true → RightHeader b (front ps) p
  unfolding header_in
  right_header is =
      let f = header_tested p is in
      record {
        head = in_frame;
        magic = magic_is ∙ f.magic;
        version = version_is ∙ f.version;
        kind = rw type_is (known_type (header_in p) f.known);
        flags = rw flags_are (lt-ltb (get_or p 3 0) 0x80 (known_flags (header_in p) f.known));
      }
