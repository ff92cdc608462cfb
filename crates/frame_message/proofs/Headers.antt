-- A header's bytes: `header_in` reads what `header_bytes` writes, and nothing else.
use mathlib.Core.Path.{◌≡◌, refl, sym, ap, ap₂, ◌∙◌}
use Prim.Native.Nat.{ℕ, ◌+◌, ◌≤◌}
use mathlib.Core.Bool.{true, ◌&&◌}
use mathlib.Core.List.{List, [], ◌∷◌, ◌++◌}
use native.Mathlib.Omega.{arith}
use borrow.Author.Tests.{eqb-true, ltb-true, lt-ltb, not-false}
use lib.Dec.{eqb}
use lib.ListN.{length, get_or, drop, length-drop, drop_of_length-le, take-append-drop}
use lib.Seq.{drop-drop}
use Rattle.bytes_number.specs.Number.{number, four, Bytes}
use Rattle.bytes_number.proofs.Numbers.{number-four, four-number, number_lt, bytes_drop}
use Rattle.frame_message.specs.declared.Header.{Header}
use Rattle.refusal.specs.Answer.{answered}
use Rattle.frame_message.specs.Header.{header_bytes, header_in}
use Rattle.frame_message.specs.Reading.{header_or_why}
use Rattle.frame_message.specs.Working.{FieldsFit, is_header, is_known}
use Rattle.bytes_number.proofs.Truth.{and_left, and_right}
use Rattle.refusal.proofs.Answers.{passed, answered_same}
use Rattle.frame_message.proofs.Fields.{known_in, known_type, known_flags}

-- the fields read from their bytes are the fields
pub header_in_lem : (h : Header) → FieldsFit h → header_in (header_bytes h) ≡ h
unfolding header_in header_bytes
header_in_lem h fit =
    rw (
      number-four h.userid (four h.rolemask ++ four h.first ++ four h.second) fit.userid,
      number-four h.rolemask (four h.first ++ four h.second) fit.rolemask,
      number-four h.first (four h.second) fit.first,
      number-four h.second [] fit.second,
    )

-- what the test of a header's part tells
pub record HeaderPart (p : List ℕ) : Type 0 where
  pub long : length p ≡ 20
  pub magic : get_or p 0 0 ≡ 0x8E
  pub version : get_or p 1 0 ≡ 1
  pub known : is_known (header_in p) ≡ true

pub header_test : (p : List ℕ) → HeaderPart p → is_header p ≡ true
unfolding is_header
header_test p f = rw (f.long, f.magic, f.version, f.known)

pub header_tested : (p : List ℕ) → is_header p ≡ true → HeaderPart p
unfolding is_header
header_tested p e =
    let version = eqb (get_or p 1 0) 1 && is_known (header_in p) in
    let e₁ = and_right (eqb (length p) 20) (eqb (get_or p 0 0) 0x8E && version) e in
    let e₂ = and_right (eqb (get_or p 0 0) 0x8E) version e₁ in
    record {
      long = eqb-true (length p) 20 (and_left (eqb (length p) 20) (eqb (get_or p 0 0) 0x8E && version) e);
      magic = eqb-true (get_or p 0 0) 0x8E (and_left (eqb (get_or p 0 0) 0x8E) version e₁);
      version = eqb-true (get_or p 1 0) 1 (and_left (eqb (get_or p 1 0) 1) (is_known (header_in p)) e₂);
      known = and_right (eqb (get_or p 1 0) 1) (is_known (header_in p)) e₂;
    }

-- the bytes of a header whose type and flags are known pass
pub header_is : (h : Header) → FieldsFit h → is_known h ≡ true → is_header (header_bytes h) ≡ true
unfolding header_bytes
header_is h fit known = header_test (header_bytes h) (record { long = refl; magic = refl; version = refl; known = ap is_known (header_in_lem h fit) ∙ known })

-- ---- 6 and 20 to 23

-- a part that passes is answered with its fields
pub header_answers : (p : List ℕ) → is_header p ≡ true → header_or_why p ≡ answered (header_in p)
unfolding header_or_why header_in
header_answers p e =
    let f = header_tested p e in
    let type-known = known_type (header_in p) f.known in
    let flags-known = lt-ltb (get_or p 3 0) 0x80 (known_flags (header_in p) f.known) in
    rw (f.long, f.magic, f.version, type-known, flags-known)

-- and nothing else is answered
pub record Answers (p : List ℕ) (h : Header) : Type 0 where
  pub passes : is_header p ≡ true
  pub same : h ≡ header_in p

pub header_answered : (p : List ℕ) (h : Header) → header_or_why p ≡ answered h → Answers p h
unfolding header_or_why header_in
header_answered p h e =
    let p₁ = passed _ _ _ _ e in
    let p₂ = passed _ _ _ _ p₁.rest in
    let p₃ = passed _ _ _ _ p₂.rest in
    let p₄ = passed _ _ _ _ p₃.rest in
    let p₅ = passed _ _ _ _ p₄.rest in
    record {
      passes =
          header_test p
          (record {
            long = eqb-true _ _ (not-false _ p₁.test);
            magic = eqb-true _ _ (not-false _ p₂.test);
            version = eqb-true _ _ (not-false _ p₃.test);
            known = known_in (header_in p) (not-false _ p₄.test) (ltb-true _ _ (not-false _ p₅.test));
          });
      same = sym (answered_same p₅.rest);
    }

-- ---- the other way

pub four_places : (p : List ℕ) → 4 ≤ length p → p ≡ get_or p 0 0 ∷ get_or p 1 0 ∷ get_or p 2 0 ∷ get_or p 3 0 ∷ drop 4 p
four_places [] h = absurd (omega arith)
four_places (x₀ ∷ []) h = absurd (omega arith)
four_places (x₀ ∷ x₁ ∷ []) h = absurd (omega arith)
four_places (x₀ ∷ x₁ ∷ x₂ ∷ []) h = absurd (omega arith)
four_places (x₀ ∷ x₁ ∷ x₂ ∷ x₃ ∷ rest) h = refl

-- a field, in front of what is behind it
field_at : (n : ℕ) (p rest : List ℕ) → Bytes p → n + 4 ≤ length p → drop (n + 4) p ≡ rest → four (number (drop n p)) ++ rest ≡ drop n p
field_at n p rest b h e =
    let field = four-number (drop n p) (simp length-drop (omega arith)) (bytes_drop n p b) in
    ap₂ (λ (s t : List ℕ). s ++ t) field (sym (drop-drop 4 n p ∙ e)) ∙ take-append-drop 4 (drop n p)

-- a part that passes is the bytes of its fields
pub header-bytes : (p : List ℕ) → Bytes p → is_header p ≡ true → header_bytes (header_in p) ≡ p
unfolding header_bytes header_in
header-bytes p b e =
    let f = header_tested p e in
    let long = f.long in
    let last = field_at 16 p [] b (omega arith) (drop_of_length-le p {i = 20} (omega arith)) in
    let third = field_at 12 p _ b (omega arith) (sym last) in
    let second = field_at 8 p _ b (omega arith) (sym third) in
    let fields = field_at 4 p _ b (omega arith) (sym second) in
    let whole = rw (f.magic, f.version) at (sym (four_places p (omega arith))) in
    ◌∙◌ {b = 0x8E ∷ 1 ∷ get_or p 2 0 ∷ get_or p 3 0 ∷ drop 4 p} (ap (λ (t : List ℕ). 0x8E ∷ 1 ∷ get_or p 2 0 ∷ get_or p 3 0 ∷ t) fields) whole

-- and its fields have four bytes each
pub fields_fit : (p : List ℕ) → Bytes p → FieldsFit (header_in p)
unfolding header_in
fields_fit p b =
    record {
      userid = number_lt (drop 4 p) (bytes_drop 4 p b);
      rolemask = number_lt (drop 8 p) (bytes_drop 8 p b);
      first = number_lt (drop 12 p) (bytes_drop 12 p b);
      second = number_lt (drop 16 p) (bytes_drop 16 p b);
    }
