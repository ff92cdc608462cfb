-- What a buffer from which a message is read holds, and what is left in it: a frame changed in place is the frame of the new message.
use mathlib.Core.Path.{◌≡◌, refl, sym, ap, ◌∙◌}
use mathlib.Core.Bool.{Bool, true, cond}
use Prim.Native.Nat.{ℕ, ◌+◌, ◌<◌, ◌≤◌}
use mathlib.Core.List.{List, [], ◌∷◌, ◌++◌, append_assoc}
use native.Mathlib.Omega.{arith}
use borrow.Author.Tests.{le-leb, lt-ltb}
use lib.ListN.{length, take, drop, length-append, take-append-drop}
use lib.Seq.{drop_at, take-append_seam}
use Rattle.bytes_number.proofs.Truth.{and_both}
use Rattle.frame_message.specs.Header.{has_topic, has_route, header_bytes}
use Rattle.frame_message.specs.Message.{Message}
use Rattle.frame_message.specs.Frame.{part_bytes, joined, payload_part, framed, body_of, frame_of}
use Rattle.frame_message.proofs.Frames.{frame_long}
use Rattle.frame_message.proofs.Messages.{written}
use Rattle.frame_message.proofs.RoundTrip.{WrittenBack}
use Rattle.frame_message.proofs.Parts.{part_short, joined-append}
use Rattle.frame_rewrite.specs.Renewed.{cleared}
use Rattle.frame_rewrite.specs.WorkingRenewed.{body_in, renewed, with_part, without_front, with_header}
use Rattle.step_routing.specs.Messages.{pushed, popped, reply_header, error_reply}
use Rattle.step_routing.proofs.Bodies.{body_on_top}
use Rattle.step_pass.proofs.Bodies.{popped_body, front_of, front_body, reply_body}

-- a route's part
route_part_lem : (p : List ℕ) → length p ≡ 37 → length (part_bytes p) ≡ 38
route_part_lem p e = ap length (part_short p (omega arith)) ∙ omega arith

frame_body : (m : Message) → frame_of m ≡ framed (body_of m)
unfolding frame_of
frame_body m = refl

-- behind the topic come at least the header's twenty bytes and their size
pub header_last : (m : Message) → 21 ≤ length (joined (payload_part m ++ (header_bytes m.header ∷ [])))
unfolding header_bytes
header_last m =
    let head = header_bytes m.header ∷ [] in
    omega (arith, ap length (joined-append (payload_part m) head), length-append (joined (payload_part m)) (joined head))

-- ---- a buffer from which m is read

module _ (b : List ℕ) (m : Message) (back : WrittenBack b m) where
  pub body_short : length (body_of m) ≤ 32768
  body_short = (written m (frame_of m) back.writable).short

  pub body_within : 8 + length (body_of m) ≤ length b
  body_within = omega (arith, back.within, frame_long m)

  -- the body lies behind the first eight bytes, and something behind it
  behind : List ℕ
  behind = drop (length (frame_of m)) b

  body_first : drop 8 b ≡ body_of m ++ behind
  unfolding frame_of behind
  body_first = ap (drop 8) (sym (take-append-drop (length (frame_of m)) b) ∙ ap (λ (l : List ℕ). l ++ drop (length (frame_of m)) b) (sym back.same))

  pub body_there : body_in (length (body_of m)) b ≡ body_of m
  body_there = ap (take (length (body_of m))) body_first ∙ take-append_seam (body_of m) behind

  -- ---- a route on top, the top route removed, and the reply

  pub pushed_left : (identity : List ℕ) → has_route m.header.flags ≡ true → length identity < 255 → 9 + length identity + length (body_of m) ≤ length b →
      with_part identity (length (body_of m)) b ≡ cleared (frame_of (pushed identity m)) b
  pushed_left identity set short fits =
      let n = length (body_of m) in
      let room = and_both (lt-ltb (length identity) 255 short) (and_both (le-leb n 32768 body_short) (le-leb (9 + length identity + n) (length b) fits)) in
      ap (λ (t : Bool). cond t (renewed (part_bytes identity ++ body_in n b) b) b) room
      ∙ ap (λ (body : List ℕ). cleared (framed body) b) (ap (λ (l : List ℕ). part_bytes identity ++ l) body_there ∙ sym (body_on_top m set identity m.routes))
      ∙ ap (λ (f : List ℕ). cleared f b) (sym (frame_body (pushed identity m)))

  pub popped_left : (top : List ℕ) (rest : List (List ℕ)) → has_route m.header.flags ≡ true → m.routes ≡ top ∷ rest → length top ≡ 37 →
      without_front 38 (length (body_of m)) b ≡ cleared (frame_of (popped m)) b
  popped_left top rest set e long =
      let body = popped_body m top rest set e in
      let part : length (part_bytes top) ≡ 38 = route_part_lem top long in
      let room : 38 ≤ length (body_of m) = omega (arith, ap length body, length-append (part_bytes top) (body_of (popped m)), part) in
      rw (le-leb (length (body_of m)) 32768 body_short, le-leb 38 (length (body_of m)) room, le-leb (8 + length (body_of m)) (length b) body_within)
      (ap (λ (l : List ℕ). cleared (framed (drop 38 l)) b) (body_there ∙ body)
      ∙ ap (λ (l : List ℕ). cleared (framed l) b) (drop_at (part_bytes top) (body_of (popped m)) 38 part)
      ∙ ap (λ (f : List ℕ). cleared f b) (sym (frame_body (popped m))))

  -- the parts up to the topic lie in front, with room for a header behind them
  pub front_within : length (front_of m) + 21 ≤ length (body_of m)
  front_within =
      let tail = joined (payload_part m ++ (header_bytes m.header ∷ [])) in
      omega (arith, ap length (front_body m), length-append (front_of m) tail, header_last m)

  front_there : body_in (length (front_of m)) b ≡ front_of m
  front_there =
      let tail = joined (payload_part m ++ (header_bytes m.header ∷ [])) in
      ap (take (length (front_of m))) (body_first ∙ ap (λ (l : List ℕ). l ++ behind) (front_body m) ∙ append_assoc (front_of m) tail behind)
      ∙ take-append_seam (front_of m) (tail ++ behind)

  pub reply_left : (userid rolemask errnum : ℕ) → has_route m.header.flags ≡ true → has_topic m.header.flags ≡ true →
      with_header (reply_header userid rolemask errnum m.header) (length (front_of m)) b ≡ cleared (frame_of (error_reply userid rolemask errnum m)) b
  reply_left userid rolemask errnum route topic =
      let head = reply_header userid rolemask errnum m.header in
      let few : length (front_of m) ≤ 32768 = omega (arith, front_within, body_short) in
      let fits : 8 + (length (front_of m) + 21) ≤ length b = omega (arith, front_within, body_within) in
      rw (le-leb (length (front_of m)) 32768 few, le-leb (8 + (length (front_of m) + 21)) (length b) fits)
      (ap (λ (l : List ℕ). cleared (framed (l ++ part_bytes (header_bytes head))) b) front_there
      ∙ ap (λ (l : List ℕ). cleared (framed l) b) (sym (reply_body userid rolemask errnum m route topic))
      ∙ ap (λ (f : List ℕ). cleared f b) (sym (frame_body (error_reply userid rolemask errnum m))))
