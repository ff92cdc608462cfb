-- What is known where a frame lies in the buffer, and what each way through a step comes to.
use Rattle.std.specs.Prelude.{Option, None, Some, Result, Ok, Err}
use mathlib.Core.Path.{◌≡◌, refl, sym, ap, ap₂, subst, ◌∙◌}
use mathlib.Core.Bool.{Bool, true, false, cond}
use mathlib.Core.Logic.{◌⊎◌, inl, inr, ⊎_elim}
use Prim.Native.Nat.{ℕ, ◌+◌, ◌-◌, ◌*◌, ◌<◌, ◌≤◌}
use mathlib.Core.List.{List, [], ◌∷◌, ◌++◌, append-nil}
use native.Mathlib.Omega.{arith}
use borrow.Author.Tests.{ltb-true, ltb-false, lt-ltb, le-ltb}
use lib.Dec.{ltb}
use lib.ListN.{length, get_or, drop, length-append}
use Rattle.bytes_number.proofs.Truth.{outcome, or_neither}
use Rattle.frame_message.specs.declared.Header.{Header}
use Rattle.refusal.specs.declared.Refusal.{Refusal}
use Rattle.refusal.specs.declared.Refusal.TheVariants.{OutputShort, ForwardLong}
use Rattle.refusal.specs.Answer.{Answer, refused, answered, and_then}
use Rattle.frame_message.specs.Header.{has_topic, no_response, has_route}
use Rattle.frame_message.specs.Message.{Message}
use Rattle.frame_message.specs.Frame.{size_bytes, part_bytes, joined, part_if, routing, topic_part, body_of, frame_of}
use Rattle.frame_message.proofs.Lists.{each_at}
use Rattle.frame_message.proofs.Forms.{routes_each}
use Rattle.frame_message.proofs.Frames.{frame_long}
use Rattle.frame_message.proofs.Parts.{part_short, joined-append}
use Rattle.frame_message.proofs.RoundTrip.{WrittenBack, write_back}
use Rattle.frame_layout.specs.declared.Layout.{Layout}
use Rattle.frame_layout.specs.Layout.{stretch, data_at, layout_of}
use Rattle.frame_body.proofs.Holding.{FrameBegins, begins_read, topic_told, topic_within, route_told, route_most}
use Rattle.table_identities.specs.Identities.{broker_of}
use Rattle.frame_rewrite.specs.Renewed.{cleared}
use Rattle.frame_rewrite.specs.WorkingRenewed.{with_part, without_front, with_header}
use Rattle.step_routing.specs.declared.Broker.{Broker}
use Rattle.step_routing.specs.declared.Way.{Way}
use Rattle.step_routing.specs.Requests.{request_way}
use Rattle.step_routing.specs.Responses.{Back, towards_broker, response_way}
use Rattle.step_routing.specs.Messages.{pushed, popped, reply_header, error_reply, too_large}
use Rattle.step_routing.specs.Routed.{Outcome, forwarded, replied, silenced, home, failed, forwarded_if, responded}
use Rattle.step_routing.specs.declared.Stepped.{Stepped}
use Rattle.step_routing.specs.declared.Stepped.TheVariants.{Replied, Silenced}
use Rattle.step_apply.specs.WorkingApply.{grown_to, forward_told, forward_left, AppliesForward, reply_in, AppliesError}
use Rattle.step_apply.proofs.Growing.{or_right_holds, grown_many, grown_long, grown_tight, grown_fits}
use Rattle.step_pass.specs.Step.{room_for, left_by, told_as}
use Rattle.step_pass.specs.Working.{Makes, held_in, Lies}
use Rattle.step_routing.proofs.Bodies.{body_on_top}
use Rattle.step_routing.proofs.Made.{has_group, has_topic_lem as names-topic}
use Rattle.step_routing.proofs.Outcomes.{failed_loud, failed_quiet}
use Rattle.step_pass.proofs.Bodies.{popped_body, front_of}
use Rattle.step_pass.proofs.Buffers.{body_short, body_within, pushed_left, popped_left, reply_left}

-- one of two numbers is the smaller one
below : (a b : ℕ) → (a < b) ⊎ (b ≤ a)
below a b = ⊎_elim (λ t. inl (ltb-true a b t)) (λ f. inr (ltb-false a b f)) (outcome (ltb a b))

-- ---- how a step ends

-- by any answer that is known
pub makes : {answer a : Answer Outcome} {buffer left : List ℕ} {r : Result Stepped Refusal} → answer ≡ a → r ≡ told_as a → left ≡ left_by a buffer → Makes answer buffer r left
makes {buffer = buffer} is told left = record { told = told ∙ sym (ap told_as is); leaves = left ∙ sym (ap (λ (x : Answer Outcome). left_by x buffer) is) }

-- by a refusal, which changes no byte
pub refuses : {answer : Answer Outcome} {buffer : List ℕ} {q : Refusal} → answer ≡ refused q → Makes answer buffer (Err q) buffer
refuses is = makes is refl refl

-- ---- a message that lies in the buffer

module _ (b : List ℕ) (f : Layout) (kind : ℕ) (l : Lies b f kind) where
  pub back_held : WrittenBack b (held_in b)
  back_held = write_back b (held_in b) l.bytes l.read

  pub taken-told : f.taken ≡ 8 + length (body_of (held_in b))
  unfolding layout_of
  taken-told = ap (λ (g : Layout). g.taken) l.places ∙ frame_long (held_in b)

  pub routes_told : f.routes ≡ length (held_in b).routes
  unfolding layout_of
  routes_told = ap (λ (g : Layout). g.routes) l.places

  pub header-told : f.header ≡ (held_in b).header
  unfolding layout_of
  header-told = ap (λ (g : Layout). g.header) l.places

  -- a request or a response has a routing group and a topic
  module _ (call : (kind ≡ 1) ⊎ (kind ≡ 2)) where
    typed : ((held_in b).header.kind ≡ 1) ⊎ ((held_in b).header.kind ≡ 2)
    typed = ⊎_elim (λ k. inl (l.type ∙ k)) (λ k. inr (l.type ∙ k)) call

    pub has_route_lem : has_route (held_in b).header.flags ≡ true
    has_route_lem = has_group (held_in b) back_held.writable typed

    pub has_topic_lem : has_topic (held_in b).header.flags ≡ true
    has_topic_lem = names-topic (held_in b) back_held.writable typed

    -- it lies behind the first eight bytes
    pub topic_behind : 8 ≤ f.topic.start
    unfolding layout_of
    topic_behind =
        let m = held_in b in
        let ended = m.topic ++ (0 ∷ []) in
        let start : f.topic.start ≡ data_at (routing m) ended = ap (λ (g : Layout). g.topic.start) l.places ∙ ap (λ (t : Bool). cond t (data_at (routing m) ended) 0) has_topic_lem in
        omega (arith, start)

    -- the topic ends where the front of the body does, with a zero byte that is not shown
    pub front-told : f.topic.start + f.topic.len + 1 ≡ 8 + length (front_of (held_in b))
    unfolding layout_of
    front-told =
        let m = held_in b in
        let ended = m.topic ++ (0 ∷ []) in
        let start : f.topic.start ≡ data_at (routing m) ended = ap (λ (g : Layout). g.topic.start) l.places ∙ ap (λ (t : Bool). cond t (data_at (routing m) ended) 0) has_topic_lem in
        let len : f.topic.len ≡ length m.topic = ap (λ (g : Layout). g.topic.len) l.places in
        let part : joined (topic_part m) ≡ part_bytes ended = ap (λ (t : Bool). joined (part_if t ended)) has_topic_lem ∙ append-nil (part_bytes ended) in
        omega (
          arith,
          start,
          len,
          ap length (joined-append (routing m) (topic_part m)),
          length-append (joined (routing m)) (joined (topic_part m)),
          ap length part,
          length-append (size_bytes (length ended)) ended,
          length-append m.topic (0 ∷ []),
        )

-- ---- a request forwarded

module _ (b : List ℕ) (f : Layout) (l : Lies b f 1) (identity : List ℕ) (short : length identity ≤ 37) (next : ℕ) where
  abbrev grown : ℕ
  grown = 1 + length identity + (f.taken - 8)

  abbrev forwarding : Answer Outcome
  forwarding = and_then (forwarded_if next (pushed identity (held_in b))) (room_for (length b))

  grown_told : length (body_of (pushed identity (held_in b))) ≡ 1 + length identity + (f.taken - 8)
  grown_told =
      omega (
        arith,
        ap length (body_on_top (held_in b) (has_route_lem b f 1 l (inl refl)) identity (held_in b).routes),
        length-append (part_bytes identity) (body_of (held_in b)),
        ap length (part_short identity (omega arith)),
        taken-told b f 1 l,
      )

  forward_many : 64 ≤ f.routes → forwarding ≡ refused ForwardLong
  forward_many h = rw (lt-ltb 64 (length (identity ∷ (held_in b).routes)) (omega (arith, routes_told b f 1 l)))

  forward_long : 32768 < grown → forwarding ≡ refused ForwardLong
  forward_long h = rw (or_right_holds (ltb 64 (length (identity ∷ (held_in b).routes))) (lt-ltb 32768 (length (body_of (pushed identity (held_in b)))) (omega (arith, grown_told))))

  module _ (few : f.routes < 64) (fits : grown ≤ 32768) where
    small : too_large (pushed identity (held_in b)) ≡ false
    small =
        or_neither (ltb 64 (length (identity ∷ (held_in b).routes))) (ltb 32768 (length (body_of (pushed identity (held_in b)))))
        (le-ltb 64 (length (identity ∷ (held_in b).routes)) (omega (arith, routes_told b f 1 l)))
        (le-ltb 32768 (length (body_of (pushed identity (held_in b)))) (omega (arith, grown_told)))

    forward_tight : length b < 8 + grown → forwarding ≡ refused OutputShort
    forward_tight h =
        rw (small, lt-ltb (length b) (length (frame_of (pushed identity (held_in b)))) (omega (arith, grown_told, frame_long (pushed identity (held_in b)))))

    forward_on : 8 + grown ≤ length b → forwarding ≡ answered (forwarded next (pushed identity (held_in b)))
    forward_on h =
        rw (small, le-ltb (length b) (length (frame_of (pushed identity (held_in b)))) (omega (arith, grown_told, frame_long (pushed identity (held_in b)))))

  -- what is said and left where the frame lies as f says
  module _ {r : Result Stepped Refusal} {left : List ℕ} (made : AppliesForward f.routes (f.taken - 8) identity next b r left) where
    ends : {a : Answer ℕ} {o : Answer Outcome} → grown_to f.routes (f.taken - 8) (length identity) (length b) ≡ a → forwarding ≡ o → forward_told next a ≡ told_as o → forward_left identity (f.taken - 8) b a ≡ left_by o b → Makes forwarding b r left
    ends is out told leaves = makes out (made.told ∙ ap (forward_told next) is ∙ told) (made.leaves ∙ ap (forward_left identity (f.taken - 8) b) is ∙ leaves)

    pub forward_made : Makes forwarding b r left
    forward_made = ⊎_elim (λ few. ⊎_elim (λ long. too_long long) (λ fits. ⊎_elim (too_tight few fits) (goes_on few fits) (below (length b) (8 + grown))) (below 32768 grown)) too_many (below f.routes 64)
      where
        too_many : 64 ≤ f.routes → Makes forwarding b r left
        too_many h = ends (grown_many f.routes (f.taken - 8) (length identity) (length b) h) (forward_many h) refl refl

        too_long : 32768 < grown → Makes forwarding b r left
        too_long h = ends (grown_long f.routes (f.taken - 8) (length identity) (length b) h) (forward_long h) refl refl

        too_tight : f.routes < 64 → grown ≤ 32768 → length b < 8 + grown → Makes forwarding b r left
        too_tight few fits h = ends (grown_tight f.routes (f.taken - 8) (length identity) (length b) few fits (omega arith)) (forward_tight few fits h) refl refl

        goes_on : f.routes < 64 → grown ≤ 32768 → 8 + grown ≤ length b → Makes forwarding b r left
        goes_on few fits h =
            let back = back_held b f 1 l in
            let size : f.taken - 8 ≡ length (body_of (held_in b)) = omega (arith, taken-told b f 1 l) in
            ends
            (grown_fits f.routes (f.taken - 8) (length identity) (length b) few fits (omega arith))
            (forward_on few fits h)
            refl
            (ap (λ (n : ℕ). with_part identity n b) size ∙ pushed_left b (held_in b) back identity (has_route_lem b f 1 l (inl refl)) (omega (arith, short)) (omega (arith, size)))

-- ---- an error

module _ (who : Broker) (errnum : ℕ) (m : Message) where
  pub fails_silent : no_response m.header.flags ≡ true → answered (failed who errnum m) ≡ answered (silenced errnum)
  fails_silent e = ap answered (failed_quiet who errnum m e)

  pub fails_reply : no_response m.header.flags ≡ false → answered (failed who errnum m) ≡ answered (replied errnum (error_reply who.userid who.rolemask errnum m))
  fails_reply e = ap answered (failed_loud who errnum m e)

  -- neither a reply nor silence asks for room
  pub fails_anyhow : (room : ℕ) → room_for room (failed who errnum m) ≡ answered (failed who errnum m)
  fails_anyhow room = ⊎_elim (λ t. rw t) (λ f. rw f) (outcome (no_response m.header.flags))

-- what is said and left where the frame lies as f says
module _ (b : List ℕ) (f : Layout) (l : Lies b f 1) (who : Broker) (errnum : ℕ) where
  -- the reply keeps the body up to the zero byte behind the topic
  abbrev kept : ℕ
  kept = f.topic.start + f.topic.len - 8 + 1

  front : kept ≡ length (front_of (held_in b))
  front = omega (arith, topic_behind b f 1 l (inl refl), front-told b f 1 l (inl refl))

  replies : reply_in who errnum f.header kept b ≡ cleared (frame_of (error_reply who.userid who.rolemask errnum (held_in b))) b
  replies =
      ap₂ (λ (h : Header) (n : ℕ). with_header (reply_header who.userid who.rolemask errnum h) n b) (header-told b f 1 l) front
      ∙ reply_left b (held_in b) (back_held b f 1 l) who.userid who.rolemask errnum (has_route_lem b f 1 l (inl refl)) (has_topic_lem b f 1 l (inl refl))

  module _ {r : Stepped} {left : List ℕ} {n : ℕ} (is : n ≡ kept) (given : AppliesError who errnum f.header n b r left) where
    made : AppliesError who errnum f.header kept b r left
    made = subst (λ (k : ℕ). AppliesError who errnum f.header k b r left) is given

    flags : {t : Bool} → no_response (held_in b).header.flags ≡ t → no_response f.header.flags ≡ t
    flags e = ap (λ (h : Header). no_response h.flags) (header-told b f 1 l) ∙ e

    told : {t : Bool} → no_response (held_in b).header.flags ≡ t → r ≡ cond t (Silenced errnum) (Replied errnum)
    told e = made.told ∙ ap (λ (t : Bool). cond t (Silenced errnum) (Replied errnum)) (flags e)

    leaves : {t : Bool} → no_response (held_in b).header.flags ≡ t → left ≡ cond t b (reply_in who errnum f.header kept b)
    leaves e = made.leaves ∙ ap (λ (t : Bool). cond t b (reply_in who errnum f.header kept b)) (flags e)

    pub fail_made : Makes (answered (failed who errnum (held_in b))) b (Ok r) left
    fail_made =
        ⊎_elim (λ t. makes (fails_silent who errnum (held_in b) t) (ap Ok (told t)) (leaves t)) (λ n. makes (fails_reply who errnum (held_in b) n) (ap Ok (told n)) (leaves n ∙ replies)) (outcome (no_response (held_in b).header.flags))

-- the same step by an answer that is equal
pub makes_as : {answer a : Answer Outcome} {buffer left : List ℕ} {r : Result Stepped Refusal} → answer ≡ a → Makes a buffer r left → Makes answer buffer r left
makes_as is m = makes is m.told m.leaves

-- ---- where a request goes, by what stands in its buffer

module _ (b : List ℕ) (f : Layout) (kind : ℕ) (l : Lies b f kind) where
  begins : FrameBegins b (held_in b)
  begins = begins_read b (held_in b) (back_held b f kind l)

  -- the topic lies in the frame, and so in the buffer
  topic_in_frame : f.topic.start + f.topic.len ≤ length (frame_of (held_in b))
  topic_in_frame =
      let start : f.topic.start ≡ (layout_of (held_in b)).topic.start = ap (λ (g : Layout). g.topic.start) l.places in
      let len : f.topic.len ≡ (layout_of (held_in b)).topic.len = ap (λ (g : Layout). g.topic.len) l.places in
      omega (arith, start, len, topic_within b (held_in b) begins)

  pub topic_inside : f.topic.start + f.topic.len ≤ length b
  topic_inside = omega (arith, topic_in_frame, (back_held b f kind l).within)

  pub topic_low : f.topic.start + f.topic.len ≤ 32776
  topic_low = omega (arith, topic_in_frame, frame_long (held_in b), body_short b (held_in b) (back_held b f kind l))

  pub topic_shown : stretch b f.topic.start (f.topic.start + f.topic.len - f.topic.start) ≡ (held_in b).topic
  topic_shown =
      ap (stretch b f.topic.start) (length_between f.topic.start f.topic.len)
      ∙ ap (λ (g : Layout). stretch b g.topic.start g.topic.len) l.places ∙ topic_told b (held_in b) begins
    where
      length_between : (at n : ℕ) → at + n - at ≡ n
      length_between at n = omega arith

  pub way_told : (tree services : List ℕ) (who : Broker) {way : Way} →
      way ≡ request_way tree services who.rank f.header (stretch b f.topic.start (f.topic.start + f.topic.len - f.topic.start)) →
      request_way tree services who.rank (held_in b).header (held_in b).topic ≡ way
  way_told tree services who e =
      sym (e ∙ ap₂ (λ (h : Header) (topic : List ℕ). request_way tree services who.rank h topic) (header-told b f kind l) topic_shown)

-- ---- where a response goes, by what stands in its buffer

-- a list that is not empty, by its first element and the others
first_rest : (rs : List (List ℕ)) → 0 < length rs → rs ≡ get_or rs 0 [] ∷ drop 1 rs
first_rest [] h = absurd (omega arith)
first_rest (r ∷ rs) h = refl

none_left : (rs : List (List ℕ)) → length rs ≡ 0 → rs ≡ []
none_left [] e = refl
none_left (r ∷ rs) e = absurd (omega arith)

module _ (b : List ℕ) (f : Layout) (l : Lies b f 2) where
  -- no routes: home
  pub home_bare : (tree identities : List ℕ) (rank : ℕ) → f.routes ≡ 0 →
      and_then (responded (held_in b) (response_way tree identities rank (held_in b).routes)) (room_for (length b)) ≡ answered home
  unfolding response_way
  home_bare tree identities rank e =
      ap (λ (rs : List (List ℕ)). and_then (responded (held_in b) (response_way tree identities rank rs)) (room_for (length b)))
      (none_left (held_in b).routes (sym (routes_told b f 2 l) ∙ e))

  module _ (some : 0 < f.routes) where
    abbrev top : List ℕ
    top = get_or (held_in b).routes 0 []

    routes_are : (held_in b).routes ≡ top ∷ drop 1 (held_in b).routes
    routes_are = first_rest (held_in b).routes (omega (arith, routes_told b f 2 l))

    top_long : length top ≡ 37
    top_long =
        each_at (λ (r : List ℕ). length r ≡ 37) (held_in b).routes 0 [] (routes_each (held_in b).routes (begins b f 2 l).whole.passes.routes) (omega (arith, routes_told b f 2 l))

    first_at : f.route ≤ 9
    first_at = omega (arith, ap (λ (g : Layout). g.route) l.places, route_most b (held_in b) (begins b f 2 l))

    routed : has_route (held_in b).header.flags ≡ true
    routed = has_route_lem b f 2 l (inr refl)

    shorter : length (body_of (held_in b)) ≡ 38 + length (body_of (popped (held_in b)))
    shorter =
        let body = popped_body (held_in b) top (drop 1 (held_in b).routes) routed routes_are in
        omega (arith, ap length body, length-append (part_bytes top) (body_of (popped (held_in b))), ap length (part_short top (omega (arith, top_long))), top_long)

    pub top_inside : f.route + 37 ≤ length b
    top_inside = omega (arith, first_at, shorter, body_within b (held_in b) (back_held b f 2 l))

    pub top_low : f.route + 37 ≤ 46
    top_low = omega (arith, first_at)

    top_shown : stretch b f.route (f.route + 37 - f.route) ≡ top
    top_shown =
        ap (stretch b f.route) (width f.route) ∙ ap (λ (g : Layout). stretch b g.route 37) l.places
        ∙ ap (λ (n : ℕ). stretch b n 37) (plus_none (layout_of (held_in b)).route) ∙ route_told b (held_in b) (begins b f 2 l) 0 (omega (arith, routes_told b f 2 l))
      where
        width : (n : ℕ) → n + 37 - n ≡ 37
        width n = omega arith

        plus_none : (n : ℕ) → n ≡ n + 38 * 0
        plus_none n = omega arith

    -- what comes of the way back that was found
    pub back_told : (tree identities : List ℕ) (rank : ℕ) {way found : Back} →
        found ≡ towards_broker tree rank (broker_of identities (stretch b f.route (f.route + 37 - f.route))) → found ≡ way →
        and_then (responded (held_in b) (response_way tree identities rank (held_in b).routes)) (room_for (length b)) ≡ and_then (responded (held_in b) way) (room_for (length b))
    unfolding response_way
    back_told tree identities rank e w =
        ap (λ (rs : List (List ℕ)). and_then (responded (held_in b) (response_way tree identities rank rs)) (room_for (length b))) routes_are
        ∙ ap (λ (back : Back). and_then (responded (held_in b) back) (room_for (length b))) (sym (e ∙ ap (λ (r : List ℕ). towards_broker tree rank (broker_of identities r)) top_shown) ∙ w)

    -- a shorter frame has room
    pub back_room : (next : ℕ) → and_then (responded (held_in b) (Ok (Some next))) (room_for (length b)) ≡ answered (forwarded next (popped (held_in b)))
    back_room next =
        rw (le-ltb (length b) (length (frame_of (popped (held_in b)))) (omega (arith, frame_long (popped (held_in b)), shorter, body_within b (held_in b) (back_held b f 2 l))))

    pub back_left : without_front 38 (f.taken - 8) b ≡ cleared (frame_of (popped (held_in b))) b
    back_left =
        let size : f.taken - 8 ≡ length (body_of (held_in b)) = omega (arith, taken-told b f 2 l) in
        ap (λ (k : ℕ). without_front 38 k b) size
        ∙ popped_left b (held_in b) (back_held b f 2 l) top (drop 1 (held_in b).routes) routed routes_are top_long
