-- The places that the reader answers hold what the message has. "The reader hands each part on as a stretch of the caller's bytes"
use mathlib.Core.Path.{◌≡◌, refl, sym, ap, ◌∙◌}
use mathlib.Core.Bool.{Bool, true, false, cond, ◌||◌}
use mathlib.Core.Logic.{⊎_elim}
use Prim.Native.Nat.{ℕ, suc, ◌+◌, ◌-◌, ◌*◌, ◌<◌, ◌≤◌}
use mathlib.Core.List.{List, [], ◌∷◌, ◌++◌, append_assoc}
use native.Mathlib.Omega.{arith}
use lib.ListN.{length, get_or, take, drop, length-append, length-drop, take-append-drop}
use lib.Seq.{split_at, length-take-le, drop-drop, take-take, take_at, take-append_seam, take-append-le, drop-append-le}
use Rattle.frame_message.proofs.Parts.{joined-append}
use Rattle.frame_message.specs.Header.{has_topic, has_payload, has_route, header_bytes}
use Rattle.frame_message.specs.Message.{Message}
use Rattle.frame_message.specs.Frame.{size_bytes, part_bytes, joined, routing, topic_part, payload_part, parts_of, body_of, frame_of}
use Rattle.frame_message.specs.Writing.{is_empty}
use Rattle.frame_message.proofs.Lists.{each_at, each_take}
use Rattle.frame_message.proofs.Forms.{routes_each}
use Rattle.frame_message.proofs.Messages.{Written, written, Given, given_fit}
use Rattle.bytes_number.proofs.Truth.{true_false, outcome}
use Rattle.frame_body.proofs.Sorting.{routes_joined}
use Rattle.frame_message.proofs.Frames.{frame_long}
use Rattle.frame_message.proofs.RoundTrip.{WrittenBack}
use Rattle.frame_layout.specs.Layout.{stretch, data_at, layout_of}
use Rattle.frame_body.proofs.Cursors.{at_behind, at_data}

-- the data of a part that stands behind others in a body
in_body : (body : List ℕ) (before : List (List ℕ)) (p : List ℕ) (behind : List (List ℕ)) → body ≡ joined (before ++ p ∷ behind) → stretch body (length (joined before) + length (size_bytes (length p))) (length p) ≡ p
in_body body before p behind e =
    let at = length (joined before) in
    let long : at + length (part_bytes p) - (at + length (size_bytes (length p))) ≡ length p = omega (arith, length-append (size_bytes (length p)) p) in
    ap (λ (n : ℕ). take n (drop (at + length (size_bytes (length p))) body)) (sym long) ∙ at_data body at p behind (at_behind body before (p ∷ behind) e)

-- what is given only where its flag is set
has_flag : {A : Type 0} (flag : Bool) (xs : List A) → (flag || is_empty xs) ≡ true → 0 < length xs → flag ≡ true
has_flag true xs e h = refl
has_flag false [] e h = absurd (omega arith)
has_flag false (x ∷ xs) e h = e

no_flag : {A : Type 0} (flag : Bool) (xs : List A) → (flag || is_empty xs) ≡ true → flag ≡ false → xs ≡ []
no_flag true xs e f = absurd (true_false f)
no_flag false [] e f = refl
no_flag false (x ∷ xs) e f = absurd (true_false (sym e))

first-told : (rs : List (List ℕ)) → 0 < length rs → ◌≡◌ {A = ℕ} (cond (is_empty rs) 0 9) 9
first-told [] h = absurd (omega arith)
first-told (r ∷ rs) h = refl

first_most : (rs : List (List ℕ)) → cond (is_empty rs) 0 9 ≤ 9
first_most [] = omega arith
first_most (r ∷ rs) = omega arith

-- ---- where the parts of a message lie in its frame

module _ (m : Message) where
  -- the body lies behind the frame's first eight bytes
  behind_start : (n : ℕ) → drop (8 + n) (frame_of m) ≡ drop n (body_of m)
  unfolding frame_of
  behind_start n = sym (drop-drop n 8 (frame_of m))

  pub data_within : (before : List (List ℕ)) (p : List ℕ) (behind : List (List ℕ)) → parts_of m ≡ before ++ p ∷ behind → data_at before p + length p ≤ length (frame_of m)
  unfolding body_of
  data_within before p behind parts =
      let body : body_of m ≡ joined before ++ joined (p ∷ behind) = ap joined parts ∙ joined-append before (p ∷ behind) in
      omega (arith, frame_long m, ap length body, length-append (joined before) (joined (p ∷ behind)), length-append (part_bytes p) (joined behind), length-append (size_bytes (length p)) p)

  pub parts_payload : has_payload m.header.flags ≡ true → parts_of m ≡ (routing m ++ topic_part m) ++ m.payload ∷ header_bytes m.header ∷ []
  unfolding parts_of
  parts_payload set = rw set (simp append_assoc)

  -- the topic's part ends in a zero byte that is not shown
  abbrev pub ended : List ℕ
  ended = m.topic ++ (0 ∷ [])

  abbrev pub behind_topic : List (List ℕ)
  behind_topic = payload_part m ++ (header_bytes m.header ∷ [])

  pub parts_topic : has_topic m.header.flags ≡ true → parts_of m ≡ routing m ++ ended ∷ behind_topic
  unfolding parts_of
  parts_topic set = rw set

  pub parts_route : has_route m.header.flags ≡ true → parts_of m ≡ m.routes ++ ([] ∷ (topic_part m ++ behind_topic))
  unfolding parts_of
  parts_route set = rw set (simp append_assoc)

-- ---- and so in bytes that begin with its frame

-- b begins with the frame of m, which the writer writes
pub record FrameBegins (b : List ℕ) (m : Message) : Type 0 where
  pub same : frame_of m ≡ take (length (frame_of m)) b
  pub whole : Written m (frame_of m)

-- bytes from which a message is read
pub begins_read : (b : List ℕ) (m : Message) → WrittenBack b m → FrameBegins b m
begins_read b m back = record { same = back.same; whole = written m (frame_of m) back.writable }

-- bytes to which it was written
pub begins_written : (m : Message) (rest : List ℕ) → Written m (frame_of m) → FrameBegins (frame_of m ++ rest) m
begins_written m rest w = record { same = sym (take-append_seam (frame_of m) rest); whole = w }

module _ (b : List ℕ) (m : Message) (back : FrameBegins b m) where
  abbrev given : Given m
  given = given_fit m back.whole.passes.given

  -- a stretch of the frame is that stretch of the bytes
  same_stretch : (start len : ℕ) → start + len ≤ length (frame_of m) → stretch b start len ≡ stretch (frame_of m) start len
  same_stretch start len h =
      let n = length (frame_of m) in
      let whole : b ≡ frame_of m ++ drop n b = sym (take-append-drop n b) ∙ ap (λ (l : List ℕ). l ++ drop n b) (sym back.same) in
      ap (λ (l : List ℕ). take len (drop start l)) whole ∙ ap (take len) (drop-append-le start (frame_of m) (drop n b) (omega arith))
      ∙ take-append-le len (drop start (frame_of m)) (drop n b) (omega (arith, length-drop start (frame_of m)))

  -- a part's data lies where `data_at` says
  data_held : (before : List (List ℕ)) (p : List ℕ) (behind : List (List ℕ)) → parts_of m ≡ before ++ p ∷ behind → stretch b (data_at before p) (length p) ≡ p
  unfolding body_of
  data_held before p behind parts =
      let at = length (joined before) + length (size_bytes (length p)) in
      let there : data_at before p ≡ 8 + at = omega arith in
      same_stretch (data_at before p) (length p) (data_within m before p behind parts)
      ∙ ap (λ (n : ℕ). stretch (frame_of m) n (length p)) there ∙ ap (take (length p)) (behind_start m at) ∙ in_body (body_of m) before p behind (ap joined parts)

  -- ---- the payload

  payload_held : has_payload m.header.flags ≡ true → stretch b (layout_of m).payload.start (layout_of m).payload.len ≡ m.payload
  unfolding layout_of
  payload_held set = rw set (data_held (routing m ++ topic_part m) m.payload (header_bytes m.header ∷ []) (parts_payload m set))

  -- a part that is absent has start 0 and length 0
  pub payload_absent : has_payload m.header.flags ≡ false → ((layout_of m).payload.start ≡ 0) × ((layout_of m).payload.len ≡ 0)
  unfolding layout_of
  payload_absent clear = (rw clear, ap length (no_flag (has_payload m.header.flags) m.payload given.payload clear))

  pub payload_told : stretch b (layout_of m).payload.start (layout_of m).payload.len ≡ m.payload
  payload_told = ⊎_elim payload_held gone (outcome (has_payload m.header.flags))
    where
      gone : has_payload m.header.flags ≡ false → stretch b (layout_of m).payload.start (layout_of m).payload.len ≡ m.payload
      gone clear = rw (payload_absent clear).1 (sym (no_flag (has_payload m.header.flags) m.payload given.payload clear))

  pub payload_within : (layout_of m).payload.start + (layout_of m).payload.len ≤ length (frame_of m)
  unfolding layout_of
  payload_within = ⊎_elim there (λ clear. omega (arith, payload_absent clear)) (outcome (has_payload m.header.flags))
    where
      there : has_payload m.header.flags ≡ true → (layout_of m).payload.start + (layout_of m).payload.len ≤ length (frame_of m)
      there set = rw set (data_within m (routing m ++ topic_part m) m.payload (header_bytes m.header ∷ []) (parts_payload m set))

  -- ---- the topic

  topic_held : has_topic m.header.flags ≡ true → stretch b (layout_of m).topic.start (layout_of m).topic.len ≡ m.topic
  unfolding layout_of
  topic_held set =
      let shown : length m.topic ≤ length (ended m) = omega (arith, length-append m.topic (0 ∷ [])) in
      rw set
      (sym (take-take (length m.topic) (length (ended m)) (drop (data_at (routing m) (ended m)) b) shown)
      ∙ ap (take (length m.topic)) (data_held (routing m) (ended m) (behind_topic m) (parts_topic m set))
      ∙ take_at m.topic (0 ∷ []) (length m.topic) refl)

  pub topic_absent : has_topic m.header.flags ≡ false → ((layout_of m).topic.start ≡ 0) × ((layout_of m).topic.len ≡ 0)
  unfolding layout_of
  topic_absent clear = (rw clear, ap length (no_flag (has_topic m.header.flags) m.topic given.topic clear))

  pub topic_told : stretch b (layout_of m).topic.start (layout_of m).topic.len ≡ m.topic
  topic_told = ⊎_elim topic_held gone (outcome (has_topic m.header.flags))
    where
      gone : has_topic m.header.flags ≡ false → stretch b (layout_of m).topic.start (layout_of m).topic.len ≡ m.topic
      gone clear = rw (topic_absent clear).1 (sym (no_flag (has_topic m.header.flags) m.topic given.topic clear))

  pub topic_within : (layout_of m).topic.start + (layout_of m).topic.len ≤ length (frame_of m)
  unfolding layout_of
  topic_within = ⊎_elim there (λ clear. omega (arith, topic_absent clear)) (outcome (has_topic m.header.flags))
    where
      there : has_topic m.header.flags ≡ true → (layout_of m).topic.start + (layout_of m).topic.len ≤ length (frame_of m)
      there set = rw set (omega (arith, data_within m (routing m) (ended m) (behind_topic m) (parts_topic m set), length-append m.topic (0 ∷ [])))

  -- ---- the routes: the first where the answer says, the others 38 bytes apart

  pub route_most : (layout_of m).route ≤ 9
  unfolding layout_of
  route_most = first_most m.routes

  pub route_told : (i : ℕ) → i < length m.routes → stretch b ((layout_of m).route + 38 * i) 37 ≡ get_or m.routes i []
  unfolding layout_of
  route_told i h =
      let rs = m.routes in
      let each = routes_each rs back.whole.passes.routes in
      let front = take i rs in
      let r = get_or rs i [] in
      let cut : rs ≡ front ++ r ∷ drop (suc i) rs = split_at rs i [] h in
      let long : length r ≡ 37 = each_at (λ (r : List ℕ). length r ≡ 37) rs i [] each h in
      let joins : length (joined front) ≡ 38 * i = routes_joined front (each_take (λ (r : List ℕ). length r ≡ 37) rs i each) ∙ ap (λ (n : ℕ). 38 * n) (length-take-le i rs (omega arith)) in
      let size : length (size_bytes (length r)) ≡ 1 = rw long in
      let start : cond (is_empty rs) 0 9 + 38 * i ≡ data_at front r = omega (arith, joins, size, first-told rs (omega arith)) in
      let behind = [] ∷ (topic_part m ++ behind_topic m) in
      let set = has_flag (has_route m.header.flags) rs given.routes (omega arith) in
      ap (λ (n : ℕ). stretch b n 37) start ∙ ap (λ (n : ℕ). stretch b (data_at front r) n) (sym long)
      ∙ data_held front r (drop (suc i) rs ++ behind) (parts_route m set ∙ ap (λ (l : List (List ℕ)). l ++ behind) cut ∙ simp append_assoc)
