-- A read's record: its numbers fit four bytes each, and so they are read back from it.
use mathlib.Core.Path.{◌≡◌, refl, sym}
use mathlib.Core.Bool.{Bool, true, false, ◌||◌}
use Prim.Native.Nat.{ℕ, ◌<◌, ◌≤◌}
use native.Mathlib.Omega.{arith}
use mathlib.Core.List.{List}
use lib.Dec.{eqb, ltb}
use lib.ListN.{length, get_or, drop}
use borrow.Author.Tests.{eqb-true, ltb-true}
use Rattle.bytes_number.specs.Number.{row_bytes, number_in}
use Rattle.bytes_number.specs.Laid.{laid}
use Rattle.bytes_number.proofs.Rows.{row_number}
use Rattle.frame_message.specs.declared.Header.{Header}
use Rattle.frame_message.specs.Header.{is_type}
use Rattle.frame_message.specs.Working.{is_known}
use Rattle.frame_message.specs.Message.{Message}
use Rattle.frame_message.specs.Working.{FieldsFit}
use Rattle.frame_message.specs.Frame.{frame_of}
use Rattle.bytes_number.proofs.Truth.{and_left, and_right, true_false}
use Rattle.frame_message.proofs.Lists.{Each, each_at}
use Rattle.frame_message.proofs.Forms.{routes_few}
use Rattle.frame_layout.specs.Layout.{layout_of}
use Rattle.frame_message.proofs.Frames.{frame_long}
use Rattle.frame_body.proofs.Holding.{FrameBegins, topic_within, payload_within, route_most}
use Rattle.call_read_record.specs.Rows.{read_row}

-- type and flags are bytes
type_most : (kind : ℕ) → is_type kind ≡ true → kind ≤ 8
type_most kind e = go (eqb kind 1) (eqb kind 2) (eqb kind 4) (eqb kind 8) refl refl refl refl e
  where
    go : (p q r s : Bool) → eqb kind 1 ≡ p → eqb kind 2 ≡ q → eqb kind 4 ≡ r → eqb kind 8 ≡ s → (p || q || r || s) ≡ true → kind ≤ 8
    go true q r s a b c d e = omega (arith, eqb-true kind 1 a)
    go false true r s a b c d e = omega (arith, eqb-true kind 2 b)
    go false false true s a b c d e = omega (arith, eqb-true kind 4 c)
    go false false false true a b c d e = omega (arith, eqb-true kind 8 d)
    go false false false false a b c d e = absurd (true_false (sym e))

pub kind_most : (h : Header) → is_known h ≡ true → h.kind ≤ 8
unfolding is_known
kind_most h e = type_most h.kind (and_left (is_type h.kind) (ltb h.flags 128) e)

pub flags_most : (h : Header) → is_known h ≡ true → h.flags < 128
unfolding is_known
flags_most h e = ltb-true h.flags 128 (and_right (is_type h.kind) (ltb h.flags 128) e)

module _ (b : List ℕ) (m : Message) (back : FrameBegins b m) (fits : FieldsFit m.header) where
  abbrev numbers : List ℕ
  numbers = read_row (layout_of m)

  frame_most : length (frame_of m) ≤ 32776
  frame_most = omega (arith, frame_long m, back.whole.short)

  numbers_fit : Each (λ n. n < 4294967296) numbers
  unfolding layout_of
  numbers_fit =
      let known = back.whole.passes.known in
      let few = routes_few m.routes back.whole.passes.routes in
      let topic = topic_within b m back in
      let payload = payload_within b m back in
      let route = route_most b m back in
      let taken = frame_most in
      let kind : m.header.kind < 4294967296 = omega (arith, kind_most m.header known) in
      let flags : m.header.flags < 4294967296 = omega (arith, flags_most m.header known) in
      (omega arith, (kind, (flags, (fits.userid, (fits.rolemask, (fits.first, (fits.second, (omega arith, (omega arith, (omega arith, (omega arith, (omega arith, (omega arith, tt)))))))))))))

  -- a number of the record is read back from it
  pub number-told : (row : List ℕ) (i : ℕ) → i < 13 → number_in (laid (row_bytes numbers) row) i ≡ get_or numbers i 0
  number-told row i h = row_number numbers (drop (length (row_bytes numbers)) row) i h (each_at (λ (n : ℕ). n < 4294967296) numbers i 0 numbers_fit h)
