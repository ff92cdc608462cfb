-- Laws on a frame that is written anew around a body in its place.
use mathlib.Core.Path.{◌≡◌, refl, sym, ap, ap₂, ◌∙◌}
use Prim.Native.Nat.{ℕ, ◌+◌, ◌-◌, ◌<◌, ◌≤◌}
use native.Mathlib.Omega.{arith}
use mathlib.Core.List.{List, [], ◌∷◌, ◌++◌, append-nil, append_assoc}
use borrow.Author.Tests.{le-leb, lt-ltb, lt-leb, le-ltb}
use lib.Dec.{leb, ltb}
use Rattle.bytes_number.proofs.Truth.{and_right_fails}
use lib.ListN.{length, take, drop, replicate, length-drop, length-append, drop_of_length-le, take-append-drop}
use lib.Seq.{length-take-le, take-append-add, take_at, drop_at, drop-drop, take-add}
use borrow.Author.Rules.{part_to_end}
use borrow.Rule.Slice.PartMut.{mid_of, put_mid}
use Rattle.bytes_number.specs.Number.{four, row_bytes}
use Rattle.bytes_number.specs.WorkingLays.{laid_if_room, Lays}
use Rattle.bytes_number.proofs.Buffers.{laid_room, length-laid}
use Rattle.bytes_number.proofs.Laying.{lays_leaf, lays_length}
use Rattle.frame_message.specs.declared.Header.{Header}
use Rattle.frame_message.specs.Header.{header_bytes}
use Rattle.frame_message.specs.Frame.{frame_start, part_bytes, framed}
use Rattle.frame_message.proofs.Parts.{part_short}
use Rattle.bytes_move.specs.WorkingMoved.{zeros, moved_if_room}
use Rattle.bytes_move.proofs.Moving.{moved_room}
use Rattle.frame_rewrite.specs.WorkingRenewed.{body_in, renewed, with_part, without_front, with_header}

module _ (b : List ℕ) (size : ℕ) (fits : 8 + size ≤ length b) where
  abbrev front : List ℕ
  front = row_bytes (4293787666 ∷ size ∷ [])

  body_long : length (body_in size b) ≡ size
  body_long = length-take-le size (drop 8 b) (omega (arith, length-drop 8 b))

  -- the front and the body are the frame
  whole : front ++ body_in size b ≡ framed (body_in size b)
  whole = ap (λ (n : ℕ). frame_start ++ (four n ++ body_in size b)) (sym body_long)

  pub renewed_is : {b₁ last : List ℕ} → b₁ ≡ laid_if_room front b → last ≡ zeros (mid_of (8 + size) (length b₁ - (8 + size)) b₁) → put_mid (8 + size) (length b₁ - (8 + size)) b₁ last ≡ renewed (body_in size b) b
  renewed_is {b₁} {last} e z =
      let at = 8 + size in
      let one : b₁ ≡ front ++ drop 8 b = e ∙ laid_room front b (omega arith) in
      let long : length b₁ ≡ length b = ap length one ∙ length-laid front b (omega arith) in
      let behind : drop (length b₁ - at) (drop at b₁) ≡ [] = drop_of_length-le (drop at b₁) {i = length b₁ - at} (simp length-drop (omega arith)) in
      let before : take at b₁ ≡ framed (body_in size b) = ap (take at) one ∙ take-append-add front (drop 8 b) size ∙ whole in
      let left : length (mid_of at (length b₁ - at) b₁) ≡ length b - length (framed (body_in size b)) = ap length (part_to_end b₁ at) ∙ length-drop at b₁ ∙ omega (arith, long, body_long) in
      ap₂ (λ (x y : List ℕ). x ++ y) before
      (ap₂ (λ (x y : List ℕ). x ++ y) (z ∙ ap (λ (n : ℕ). replicate n 0) left) behind ∙ append-nil (replicate (length b - length (framed (body_in size b))) 0))

-- the front of a buffer is laid there already
lays_front : (k : ℕ) (b : List ℕ) → k ≤ length b → Lays (take k b) b b k
lays_front k b h =
    let long : length (take k b) ≡ k = length-take-le k b h in
    record { told = sym long; bytes = sym (ap (λ (n : ℕ). take k b ++ drop n b) long ∙ take-append-drop k b) }

-- only the length of the buffer matters to what is cleared
renewed_as : (body c b : List ℕ) → length c ≡ length b → renewed body c ≡ renewed body b
renewed_as body c b e = ap (λ (n : ℕ). framed body ++ replicate (n - length (framed body)) 0) e

-- ---- a part in front of the body

module _ (b part : List ℕ) (size : ℕ) (short : length part < 255) (few : size ≤ 32768) (fits : 8 + (1 + length part + size) ≤ length b) where
  abbrev at : ℕ
  at = 8 + 1 + length part

  part_long : length (part_bytes part) ≡ 1 + length part
  part_long = ap length (part_short part short) ∙ omega arith

  module _ {b₁ : List ℕ} (e₁ : b₁ ≡ moved_if_room 8 at size b) where
    rest : List ℕ
    rest = drop (at + size) b

    one : b₁ ≡ (take at b ++ body_in size b) ++ rest
    unfolding rest
    one = e₁ ∙ moved_room 8 at size b few (omega arith) (omega arith)

    front_long : length (take at b) ≡ at
    front_long = length-take-le at b (omega arith)

    pub moved_long : length b₁ ≡ length b
    unfolding rest
    moved_long = ap length one ∙ simp length-append (omega (arith, front_long, body_long b size (omega arith), length-drop (at + size) b))

    behind_part_lem : drop at b₁ ≡ body_in size b ++ rest
    behind_part_lem = ap (drop at) (one ∙ append_assoc (take at b) (body_in size b) rest) ∙ drop_at (take at b) (body_in size b ++ rest) at front_long

    module _ {last : List ℕ} (e₂ : last ≡ laid_if_room (part_bytes part) (mid_of 8 (length b₁ - 8) b₁)) where
      lays : Lays (take 8 b₁ ++ part_bytes part) b₁ (put_mid 8 (length b₁ - 8) b₁ last) (8 + length (part_bytes part))
      lays = lays_leaf (lays_front 8 b₁ (omega (arith, moved_long))) (part_bytes part) (omega (arith, length-append (take 8 b₁) (part_bytes part), part_long, moved_long, length-take-le 8 b₁ (omega (arith, moved_long)))) e₂

      two : put_mid 8 (length b₁ - 8) b₁ last ≡ take 8 b₁ ++ (part_bytes part ++ (body_in size b ++ rest))
      two =
          let w = take 8 b₁ ++ part_bytes part in
          let long : length w ≡ at = omega (arith, length-append (take 8 b₁) (part_bytes part), part_long, length-take-le 8 b₁ (omega (arith, moved_long))) in
          lays.bytes ∙ ap (λ (n : ℕ). w ++ drop n b₁) long ∙ ap (λ (l : List ℕ). w ++ l) behind_part_lem ∙ append_assoc (take 8 b₁) (part_bytes part) (body_in size b ++ rest)

      pub put_long : length (put_mid 8 (length b₁ - 8) b₁ last) ≡ length b
      put_long = lays_length lays (omega (arith, length-append (take 8 b₁) (part_bytes part), part_long, moved_long, length-take-le 8 b₁ (omega (arith, moved_long)))) ∙ moved_long

      in_place : body_in (1 + length part + size) (put_mid 8 (length b₁ - 8) b₁ last) ≡ part_bytes part ++ body_in size b
      in_place =
          let eight : length (take 8 b₁) ≡ 8 = length-take-le 8 b₁ (omega (arith, moved_long)) in
          ap (λ (l : List ℕ). take (1 + length part + size) (drop 8 l)) two
          ∙ ap (take (1 + length part + size)) (drop_at (take 8 b₁) (part_bytes part ++ (body_in size b ++ rest)) 8 eight)
          ∙ ap (λ (n : ℕ). take (n + size) (part_bytes part ++ (body_in size b ++ rest))) (sym part_long)
          ∙ take-append-add (part_bytes part) (body_in size b ++ rest) size
          ∙ ap (λ (l : List ℕ). part_bytes part ++ l) (take_at (body_in size b) rest size (body_long b size (omega arith)))

      pub part_put : {b₃ : List ℕ} → b₃ ≡ renewed (body_in (1 + length part + size) (put_mid 8 (length b₁ - 8) b₁ last)) (put_mid 8 (length b₁ - 8) b₁ last) → b₃ ≡ with_part part size b
      part_put e₃ =
          e₃ ∙ ap (λ (l : List ℕ). renewed l (put_mid 8 (length b₁ - 8) b₁ last)) in_place ∙ renewed_as (part_bytes part ++ body_in size b) (put_mid 8 (length b₁ - 8) b₁ last) b put_long
          ∙ sym (rw (lt-ltb (length part) 255 short, le-leb size 32768 few, le-leb (9 + length part + size) (length b) (omega arith)))

module _ (b part : List ℕ) (size : ℕ) where
  pub part_large : 255 ≤ length part → with_part part size b ≡ b
  part_large h = rw (le-ltb (length part) 255 h)

  pub part_many : 32768 < size → with_part part size b ≡ b
  part_many h = rw (lt-leb size 32768 h, and_right_fails (ltb (length part) 255) refl)

  pub part_tight : length b < 9 + length part + size → with_part part size b ≡ b
  part_tight h = rw (lt-leb (9 + length part + size) (length b) h, and_right_fails (leb size 32768) refl, and_right_fails (ltb (length part) 255) refl)

-- ---- the body without its front

drop-taken : (n size : ℕ) (xs : List ℕ) → n ≤ size → size ≤ length xs → drop n (take size xs) ≡ take (size - n) (drop n xs)
drop-taken n size xs h l =
    let sum : n + (size - n) ≡ size = omega arith in
    ap (λ (k : ℕ). drop n (take k xs)) (sym sum) ∙ ap (drop n) (take-add n (size - n) xs) ∙ drop_at (take n xs) (take (size - n) (drop n xs)) n (length-take-le n xs (omega arith))

module _ (b : List ℕ) (n size : ℕ) (few : size ≤ 32768) (within : n ≤ size) (fits : 8 + size ≤ length b) {b₁ : List ℕ} (e₁ : b₁ ≡ moved_if_room (8 + n) 8 (size - n) b) where
  left_is : take (size - n) (drop (8 + n) b) ≡ drop n (body_in size b)
  left_is = ap (take (size - n)) (sym (drop-drop n 8 b)) ∙ sym (drop-taken n size (drop 8 b) within (omega (arith, length-drop 8 b)))

  left_long : length (take (size - n) (drop (8 + n) b)) ≡ size - n
  left_long = length-take-le (size - n) (drop (8 + n) b) (omega (arith, length-drop (8 + n) b))

  rest_of : List ℕ
  rest_of = drop (8 + (size - n)) b

  shifted : b₁ ≡ (take 8 b ++ take (size - n) (drop (8 + n) b)) ++ rest_of
  unfolding rest_of
  shifted = e₁ ∙ moved_room (8 + n) 8 (size - n) b (omega arith) (omega arith) (omega arith)

  pub shifted_long : length b₁ ≡ length b
  unfolding rest_of
  shifted_long = ap length shifted ∙ simp length-append (omega (arith, left_long, length-take-le 8 b (omega arith), length-drop (8 + (size - n)) b))

  kept : body_in (size - n) b₁ ≡ drop n (body_in size b)
  kept =
      ap (λ (l : List ℕ). take (size - n) (drop 8 l)) (shifted ∙ append_assoc (take 8 b) (take (size - n) (drop (8 + n) b)) rest_of)
      ∙ ap (take (size - n)) (drop_at (take 8 b) (take (size - n) (drop (8 + n) b) ++ rest_of) 8 (length-take-le 8 b (omega arith)))
      ∙ take_at (take (size - n) (drop (8 + n) b)) rest_of (size - n) left_long ∙ left_is

  pub front-taken : {b₂ : List ℕ} → b₂ ≡ renewed (body_in (size - n) b₁) b₁ → b₂ ≡ without_front n size b
  front-taken e₂ =
      e₂ ∙ ap (λ (l : List ℕ). renewed l b₁) kept ∙ renewed_as (drop n (body_in size b)) b₁ b shifted_long
      ∙ sym (rw (le-leb size 32768 few, le-leb n size within, le-leb (8 + size) (length b) fits))

module _ (b : List ℕ) (n size : ℕ) where
  pub front-many : 32768 < size → without_front n size b ≡ b
  front-many h = rw (lt-leb size 32768 h)

  pub front_past : size < n → without_front n size b ≡ b
  front_past h = rw (lt-leb n size h, and_right_fails (leb size 32768) refl)

  pub front_cut : length b < 8 + size → without_front n size b ≡ b
  front_cut h = rw (lt-leb (8 + size) (length b) h, and_right_fails (leb n size) refl, and_right_fails (leb size 32768) refl)

-- ---- a header behind the front of the body

module _ (b : List ℕ) (h : Header) (size : ℕ) (few : size ≤ 32768) (fits : 8 + (size + 21) ≤ length b) {last : List ℕ} (e₁ : last ≡ laid_if_room (part_bytes (header_bytes h)) (mid_of (8 + size) (length b - (8 + size)) b)) where
  abbrev headed : List ℕ
  headed = put_mid (8 + size) (length b - (8 + size)) b last

  header_long : length (part_bytes (header_bytes h)) ≡ 21
  unfolding header_bytes
  header_long = refl

  front_lays : Lays (take (8 + size) b ++ part_bytes (header_bytes h)) b headed (8 + size + length (part_bytes (header_bytes h)))
  front_lays = lays_leaf (lays_front (8 + size) b (omega arith)) (part_bytes (header_bytes h)) (omega (arith, length-append (take (8 + size) b) (part_bytes (header_bytes h)), header_long, length-take-le (8 + size) b (omega arith))) e₁

  headed_long : length headed ≡ length b
  headed_long = lays_length front_lays (omega (arith, length-append (take (8 + size) b) (part_bytes (header_bytes h)), header_long, length-take-le (8 + size) b (omega arith)))

  headed_body : body_in (size + 21) headed ≡ body_in size b ++ part_bytes (header_bytes h)
  headed_body =
      let part = part_bytes (header_bytes h) in
      let body = body_in size b in
      let rest = drop (length (take (8 + size) b ++ part)) b in
      let long : length (body ++ part) ≡ size + 21 = omega (arith, length-append body part, header_long, body_long b size (omega arith)) in
      let whole : headed ≡ take 8 b ++ ((body ++ part) ++ rest) = front_lays.bytes ∙ ap (λ (l : List ℕ). (l ++ part) ++ rest) (take-add 8 size b) ∙ simp append_assoc in
      ap (λ (l : List ℕ). take (size + 21) (drop 8 l)) whole
      ∙ ap (take (size + 21)) (drop_at (take 8 b) ((body ++ part) ++ rest) 8 (length-take-le 8 b (omega arith)))
      ∙ take_at (body ++ part) rest (size + 21) long

  pub header_put : {b₂ : List ℕ} → b₂ ≡ renewed (body_in (size + 21) headed) headed → b₂ ≡ with_header h size b
  header_put e₂ =
      e₂ ∙ ap (λ (l : List ℕ). renewed l headed) headed_body ∙ renewed_as (body_in size b ++ part_bytes (header_bytes h)) headed b headed_long
      ∙ sym (rw (le-leb size 32768 few, le-leb (8 + (size + 21)) (length b) fits))

module _ (b : List ℕ) (h : Header) (size : ℕ) where
  pub header-many : 32768 < size → with_header h size b ≡ b
  header-many l = rw (lt-leb size 32768 l)

  pub header_tight : length b < 8 + (size + 21) → with_header h size b ≡ b
  header_tight l = rw (lt-leb (8 + (size + 21)) (length b) l, and_right_fails (leb size 32768) refl)
