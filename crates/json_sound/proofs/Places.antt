-- What the check says of a payload is what the grammar says: its yes, the place of its no, and the opening byte of a level too many. The way from the
-- grammar to the reading is handed in: the crate json_complete has it.
use Rattle.std.specs.Prelude.{Result, Ok, Err}
use mathlib.Core.Path.{◌≡◌, refl, sym, ap, subst, ◌∙◌}
use mathlib.Core.List.{List, [], ◌∷◌, ◌++◌, append_assoc}
use mathlib.Core.Logic.{⊎_elim}
use Prim.Native.Nat.{ℕ, suc, ◌+◌, ◌<◌, ◌≤◌}
use native.Mathlib.Omega.{arith}
use borrow.Author.Tests.{ltb-true, ltb-false, lt-ltb}
use lib.Dec.{ltb}
use lib.ListN.{length, take, drop, get_or, take-append-drop}
use lib.Seq.{take-suc, take-take, take-length}
use Rattle.bytes_number.proofs.Truth.{outcome, true_false}
use Rattle.json_grammar.specs.Json.{payload_to, most_deep}
use Rattle.json_grammar.specs.Places.{Begins, NoAt, DeepAt}
use Rattle.json_scan.specs.Scan.{Verdict}
use Rattle.json_scan.specs.declared.Fault.TheVariants.{NotJson, TooDeep}
use Rattle.json_scan.specs.Scan.{Kind, outer, State, between, ended, nowhere, to, move_of, is_ended, depth_limit, scan, verdict_of}
use Rattle.json_sound.specs.WorkingAllowed.{Allowed}
use Rattle.json_sound.proofs.Reach.{goes, reach, reach_on, reach_append, nowhere_else, same_state}
use Rattle.json_sound.proofs.Back.{reached_payload}
use Rattle.json_sound.proofs.Finish.{finish}
use Rattle.json_sound.proofs.Verdicts.{Says, Stops, Deepens, scan_says, reached_scan}
use Rattle.json_sound.proofs.Levels.{one_level, reach_wider}

-- ---- a yes

abbrev IsYes : Verdict → Type 0
IsYes (Ok tt) = Unit {0}
IsYes (Err (NotJson place)) = ⊥
IsYes (Err (TooDeep place)) = ⊥

yes_is : (v : Verdict) → v ≡ Ok tt → IsYes v
yes_is v e = subst IsYes (sym e) tt

by_scan : (most : ℕ) (payload : List ℕ) (v : Verdict) → Says most (between outer) [] 0 payload v → v ≡ Ok tt → payload_to most payload
by_scan most payload (Ok tt) s e = reached_payload most payload s.left s.ends
by_scan most payload (Err (NotJson place)) s e = absurd (yes_is (Err (NotJson place)) e)
by_scan most payload (Err (TooDeep place)) s e = absurd (yes_is (Err (TooDeep place)) e)

pub allowed : Allowed
allowed most payload = by_scan most payload (scan most (between outer) [] 0 payload) (scan_says most payload (between outer) [] 0 (omega arith))

-- ---- beginnings

-- a shorter beginning is the beginning of a longer one
take_within : (i j : ℕ) (xs : List ℕ) → i ≤ j → take i xs ++ drop i (take j xs) ≡ take j xs
take_within i j xs l = ap (λ (ys : List ℕ). ys ++ drop i (take j xs)) (sym (take-take i j xs l)) ∙ take-append-drop i (take j xs)

begins_shorter : {depth i j : ℕ} (payload : List ℕ) → i ≤ j → Begins depth (take j payload) → Begins depth (take i payload)
begins_shorter {depth} {i} {j} payload l b =
    record {
      rest = drop i (take j payload) ++ b.rest;
      good = subst (payload_to depth) (ap (λ (xs : List ℕ). xs ++ b.rest) (sym (take_within i j payload l)) ∙ append_assoc (take i payload) (drop i (take j payload)) b.rest) b.good;
    }

-- a payload begins as it does
payload_begins : {depth : ℕ} (i : ℕ) (payload : List ℕ) → payload_to depth payload → Begins depth (take i payload)
payload_begins {depth} i payload g = record { rest = drop i payload; good = subst (payload_to depth) (sym (take-append-drop i payload)) g }

-- where a reading stands behind some bytes, they begin a payload
reached_begins : (most : ℕ) → 1 ≤ most → (front : List ℕ) (state : State) (around : List Kind) → length around ≤ most → reach most (between outer) [] front ≡ to state around → Begins most front
reached_begins most some front state around l e =
    let f = finish most some state around l in
    record { rest = f.bytes; good = reached_payload most (front ++ f.bytes) f.left (reach_append most (between outer) [] front f.bytes e ∙ f.ends) }

nothing_more : (most : ℕ) (state : State) (around : List Kind) → reach most state around [] ≡ to state around
unfolding reach
nothing_more most state around = refl

module _ (payload_reached : (depth : ℕ) (payload : List ℕ) → payload_to depth payload → reach depth (between outer) [] payload ≡ to ended []) (payload : List ℕ) where
  -- ---- a yes

  pub good_json : payload_to most_deep payload → verdict_of payload ≡ Ok tt
  unfolding verdict_of
  good_json g = reached_scan depth_limit payload (between outer) [] [] 0 (payload_reached most_deep payload g)

  -- ---- behind a place where it stood

  module _ (place : ℕ) (l : place < length payload) (stood : State) (held : List Kind) (front : reach most_deep (between outer) [] (take place payload) ≡ to stood held) where
    -- a beginning up to the byte there, read on from where it stood
    goes_on : (depth more : ℕ) → depth ≤ more → most_deep ≤ more → (b : Begins depth (take (suc place) payload)) → reach more stood held (get_or payload place 0 ∷ b.rest) ≡ to ended []
    goes_on depth more d m b =
        let whole = reach_wider depth more d (take (suc place) payload ++ b.rest) (between outer) [] (payload_reached depth (take (suc place) payload ++ b.rest) b.good) in
        let same : take (suc place) payload ++ b.rest ≡ take place payload ++ (get_or payload place 0 ∷ b.rest) =
        ap (λ (xs : List ℕ). xs ++ b.rest) (take-suc payload place 0 l) ∙ append_assoc (take place payload) (get_or payload place 0 ∷ []) b.rest in
        sym (reach_append more (between outer) [] (take place payload) (get_or payload place 0 ∷ b.rest) (reach_wider most_deep more m (take place payload) (between outer) [] front))
        ∙ ap (reach more (between outer) []) (sym same) ∙ whole

    -- a byte that leads nowhere begins none
    none_begins : move_of stood held (get_or payload place 0) ≡ nowhere → (depth : ℕ) → Begins depth (take (suc place) payload) → ⊥
    unfolding reach
    none_begins e depth b =
        let more = depth + most_deep in
        nowhere_else (ap (goes more (λ state around. reach more state around b.rest)) (sym e) ∙ goes_on depth more (omega arith) (omega arith) b)

    -- one that opens a level too many begins none that is not deeper
    none_so_deep : (next : State) (deeper : List Kind) → move_of stood held (get_or payload place 0) ≡ to next deeper → most_deep < length deeper → Begins most_deep (take (suc place) payload) → ⊥
    unfolding reach
    none_so_deep next deeper e d b =
        let stuck : goes most_deep (λ state around. reach most_deep state around b.rest) (to next deeper) ≡ nowhere = rw (lt-ltb most_deep (length deeper) d) refl in
        nowhere_else (sym stuck ∙ ap (goes most_deep (λ state around. reach most_deep state around b.rest)) (sym e) ∙ goes_on most_deep most_deep (omega arith) (omega arith) b)

  -- ---- a no, and a level too many

  not_place : (place : ℕ) → Stops most_deep (between outer) [] payload place → NoAt payload place
  not_place place s =
      record {
        within = s.within;
        begun = reached_begins most_deep (omega arith) (take place payload) s.stood s.held s.room s.front;
        wrong = λ l. none_begins place l s.stood s.held s.front (s.wrong l);
        early = λ e g.
            let all : take place payload ≡ payload = ap (λ (n : ℕ). take n payload) e ∙ take-length payload in
            let done : s.stood ≡ ended = same_state (sym s.front ∙ ap (reach most_deep (between outer) []) all ∙ payload_reached most_deep payload g) in
            true_false (sym (ap is_ended done) ∙ s.early e);
      }

  deep_place : (place : ℕ) → Deepens most_deep (between outer) [] payload place → DeepAt payload place
  deep_place place s =
      let wide = reach_wider most_deep (suc most_deep) (omega arith) (take place payload) (between outer) [] s.front in
      let one : length s.deeper ≤ suc most_deep = omega (arith, one_level s.stood s.held (get_or payload place 0) s.opens, s.room) in
      let further : reach (suc most_deep) (between outer) [] (take (suc place) payload) ≡ to s.next s.deeper =
      ap (reach (suc most_deep) (between outer) []) (take-suc payload place 0 s.within)
      ∙ reach_append (suc most_deep) (between outer) [] (take place payload) (get_or payload place 0 ∷ []) wide
      ∙ reach_on (suc most_deep) s.stood s.held (get_or payload place 0) [] s.next s.deeper s.opens one
      ∙ nothing_more (suc most_deep) s.next s.deeper in
      record {
        within = s.within;
        begun = reached_begins most_deep (omega arith) (take place payload) s.stood s.held s.room s.front;
        deeper = reached_begins (suc most_deep) (omega arith) (take (suc place) payload) s.next s.deeper one further;
        too_deep = none_so_deep place s.within s.stood s.held s.front s.next s.deeper s.opens s.too_deep;
      }

  -- what the check says, in the grammar's words
  abbrev pub Told : Verdict → Type 0
  Told (Ok tt) = payload_to most_deep payload
  Told (Err (NotJson place)) = NoAt payload place
  Told (Err (TooDeep place)) = DeepAt payload place

  told : (v : Verdict) → Says most_deep (between outer) [] 0 payload v → Told v
  told (Ok tt) s = by_scan most_deep payload (Ok tt) s refl
  told (Err (NotJson place)) s = not_place place (subst (Stops most_deep (between outer) [] payload) (omega (arith, s.1.0)) s.1.1)
  told (Err (TooDeep place)) s = deep_place place (subst (Deepens most_deep (between outer) [] payload) (omega (arith, s.1.0)) s.1.1)

  pub says : Told (verdict_of payload)
  unfolding verdict_of
  says = told (scan depth_limit (between outer) [] 0 payload) (scan_says depth_limit payload (between outer) [] 0 (omega arith))

  -- ---- only one of them holds, and of one place only

  not_json : {place : ℕ} → NoAt payload place → payload_to most_deep payload → ⊥
  not_json {place} n g = ⊎_elim (λ t. n.wrong (ltb-true place (length payload) t) most_deep (payload_begins (suc place) payload g)) (λ t. n.early (omega (arith, n.within, ltb-false place (length payload) t)) g) (outcome (ltb place (length payload)))

  not_deep_json : {place : ℕ} → DeepAt payload place → payload_to most_deep payload → ⊥
  not_deep_json {place} d g = d.too_deep (payload_begins (suc place) payload g)

  -- in front of the other's place
  no_before : {i j : ℕ} → NoAt payload i → Begins most_deep (take j payload) → j ≤ length payload → i < j → ⊥
  no_before n b m l = n.wrong (omega (arith, l, m)) most_deep (begins_shorter payload l b)

  deep_before : {i j : ℕ} → DeepAt payload i → Begins most_deep (take j payload) → i < j → ⊥
  deep_before d b l = d.too_deep (begins_shorter payload l b)

  -- two places that lie neither in front of the other are one
  same_place : (i j : ℕ) → (i < j → ⊥) → (j < i → ⊥) → i ≡ j
  same_place i j f g = ⊎_elim (λ t. absurd (f (ltb-true i j t))) (λ t. ⊎_elim (λ u. absurd (g (ltb-true j i u))) (λ u. omega (arith, ltb-false i j t, ltb-false j i u)) (outcome (ltb j i))) (outcome (ltb i j))

  not_deep : {i j : ℕ} → NoAt payload i → DeepAt payload j → ⊥
  not_deep {i} {j} n d =
      let same = same_place i j (no_before n d.begun (omega (arith, d.within))) (deep_before d n.begun) in
      n.wrong (omega (arith, same, d.within)) (suc most_deep) (subst (λ (k : ℕ). Begins (suc most_deep) (take (suc k) payload)) (sym same) d.deeper)

  only_not : (v : Verdict) → Told v → (place : ℕ) → NoAt payload place → v ≡ Err (NotJson place)
  only_not (Ok tt) g place n = absurd (not_json n g)
  only_not (Err (NotJson i)) m place n = ap (λ (k : ℕ). Err (NotJson k)) (same_place i place (no_before m n.begun n.within) (no_before n m.begun m.within))
  only_not (Err (TooDeep i)) d place n = absurd (not_deep n d)

  only_deep : (v : Verdict) → Told v → (place : ℕ) → DeepAt payload place → v ≡ Err (TooDeep place)
  only_deep (Ok tt) g place d = absurd (not_deep_json d g)
  only_deep (Err (NotJson i)) n place d = absurd (not_deep n d)
  only_deep (Err (TooDeep i)) m place d = ap (λ (k : ℕ). Err (TooDeep k)) (same_place i place (deep_before m d.begun) (deep_before d m.begun))

  pub no_at : (place : ℕ) → NoAt payload place → verdict_of payload ≡ Err (NotJson place)
  no_at = only_not (verdict_of payload) says

  pub deep_at : (place : ℕ) → DeepAt payload place → verdict_of payload ≡ Err (TooDeep place)
  deep_at = only_deep (verdict_of payload) says
