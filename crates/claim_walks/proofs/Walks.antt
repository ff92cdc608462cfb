-- W1 to W11 of the calls: demand 3, on the paths of the table. The premises of every row are one test, computed.
use mathlib.Core.Path.{◌≡◌, refl, sym, ap, ◌∙◌, subst}
use mathlib.Core.Bool.{Bool, true, false, ◌&&◌}
use mathlib.Core.Logic.{⊎_elim}
use Prim.Native.Nat.{ℕ, zero, suc, ◌+◌, ◌-◌, ◌<◌, ◌≤◌}
use mathlib.Core.List.{List, [], ◌∷◌, ◌++◌, map}
use native.Mathlib.Omega.{arith}
use borrow.Author.Tests.{ltb-true, leb-true}
use lib.Dec.{ltb, leb, lit<}
use lib.ListN.{length, drop, replicate, length-append, length-replicate}
use Rattle.bytes_number.specs.Number.{Bytes, row_bytes}
use Rattle.bytes_number.proofs.Truth.{and_left, and_right, outcome, true_false}
use Rattle.frame_forms.specs.Forms.{is_route, is_topic}
use Rattle.refusal.specs.Answer.{Answer, refused, answered}
use Rattle.frame_message.specs.Header.{no_response, parts_fit, fields_good, header_bytes}
use Rattle.frame_message.specs.Message.{Message}
use Rattle.frame_message.specs.Working.{FieldsFit}
use Rattle.frame_message.specs.Frame.{parts_of, body_of, frame_of}
use Rattle.frame_message.specs.Reading.{final}
use Rattle.frame_message.specs.Writing.{parts_given_fit, routes_good, writing}
use Rattle.frame_message.proofs.Messages.{written}
use Rattle.frame_message.proofs.RoundTrip.{read_back}
use Rattle.table_records.specs.Below.{all_below, none_twice}
use Rattle.table_records.specs.Bytes.{same_bytes}
use Rattle.table_tree.specs.Tree.{ranks_in}
use Rattle.table_identities.specs.Identities.{same_identity, identities_good}
use Rattle.walk_path.specs.Path.{End, delivers, fails, path_of}
use Rattle.walk_path.specs.Walks.{floor_tree, floor_services, Told, told_of, Row, walk, table, by_path}
use Rattle.walk_path.proofs.Walks.{walks_are_right}
use Rattle.step_routing.specs.Messages.{Owner}
use Rattle.step_routing.specs.Routed.{Tables, ValidTables}
use Rattle.step_routing.specs.declared.Stepped.{Stepped}
use Rattle.frame_message.proofs.Frames.{frame_long}
use Rattle.call_step_record.specs.Steps.{step_row, frame_length}
use Rattle.call_specs.specs.Calls.{walk_record}
use Rattle.claim_walks.specs.Demand3.{Enters, StepsOver, Goes, answer_at}
use Rattle.claim_walks.specs.Walks.{floor_identities, floor, request_of, entering, answer_of, EndsAs, RowEnds, EachRow, WalksOfTheTable}
use Rattle.claim_walks.proofs.Demand3.{demand_three}

-- ---- the tables are valid

identities_right : identities_good floor_tree floor_identities ≡ true
unfolding identities_good ranks_in all_below none_twice same_identity same_bytes is_route
identities_right = refl

floor_valid : ValidTables floor
floor_valid = record { tree = walks_are_right.tree; services = walks_are_right.services; identities = identities_right }

-- ---- the premises of demand 3

abbrev all_bytes : List ℕ → Bool
all_bytes [] = true
all_bytes (x ∷ xs) = ltb x 256 && all_bytes xs

-- bytes with zeros behind them are bytes
bytes_padded : (xs : List ℕ) (n : ℕ) → all_bytes xs ≡ true → Bytes (xs ++ replicate n 0)
bytes_padded [] zero e = tt
bytes_padded [] (suc n) e = (omega arith, bytes_padded [] n e)
bytes_padded (x ∷ xs) n e = (ltb-true x 256 (and_left (ltb x 256) (all_bytes xs) e), bytes_padded xs n (and_right (ltb x 256) (all_bytes xs) e))

abbrev is_answered : {A : Type 0} → Answer A → Bool
is_answered (refused r) = false
is_answered (answered x) = true

answer_of_lem : {A : Type 0} (a : Answer A) → is_answered a ≡ true → (x : A) × (a ≡ answered x)
answer_of_lem (refused r) e = absurd (true_false (sym e))
answer_of_lem (answered x) e = (x, refl)

-- the test of a request m at its entry: a rank of the tree, and a frame that the writer makes, not too long, of bytes
unfoldable fits : Tables → ℕ → Message → Bool
fits t entry m =
    ltb entry (ranks_in t.tree)
    && (ltb m.header.first 4294967296 && (is_answered (writing m) && (leb (length (body_of m)) 31552 && all_bytes (frame_of m))))

-- what it says
record Fits (t : Tables) (entry : ℕ) (m : Message) : Type 0 where
  inside : entry < ranks_in t.tree
  nodeid : m.header.first < 4294967296
  writes : writing m ≡ answered (frame_of m)
  short : length (body_of m) ≤ 31552
  bytes : all_bytes (frame_of m) ≡ true

fitting : (t : Tables) (entry : ℕ) (m : Message) → fits t entry m ≡ true → Fits t entry m
unfolding fits
fitting t entry m e₁ =
    let inside = ltb entry (ranks_in t.tree) in
    let nodeid = ltb m.header.first 4294967296 in
    let writes = is_answered (writing m) in
    let short = leb (length (body_of m)) 31552 in
    let bytes = all_bytes (frame_of m) in
    let e₂ = and_right inside (nodeid && (writes && (short && bytes))) e₁ in
    let e₃ = and_right nodeid (writes && (short && bytes)) e₂ in
    let e₄ = and_right writes (short && bytes) e₃ in
    let frame = answer_of_lem (writing m) (and_left writes (short && bytes) e₃) in
    record {
      inside = ltb-true entry (ranks_in t.tree) (and_left inside (nodeid && (writes && (short && bytes))) e₁);
      nodeid = ltb-true m.header.first 4294967296 (and_left nodeid (writes && (short && bytes)) e₂);
      writes = frame.1 ∙ ap answered (sym (written m frame.0 frame.1).same);
      short = leb-true (length (body_of m)) 31552 (and_left short bytes e₄);
      bytes = and_right short bytes e₄;
    }

-- no routes: there is no top route to be a broker's
no_top : {A : Type 0} (routes : List (List ℕ)) → routes ≡ [] → (top : List ℕ) (below : List (List ℕ)) → routes ≡ top ∷ below → A
no_top routes none top below some = let e = ap length (sym none ∙ some) in absurd (omega arith)

entering_room : (room : ℕ) (m : Message) → length (frame_of m) ≤ room → length (entering room m) ≡ room
entering_room room m h = length-append (frame_of m) (replicate (room - length (frame_of m)) 0) ∙ omega (arith, length-replicate {A = ℕ} (room - length (frame_of m)) 0)

enters : (t : Tables) → ValidTables t → (room : ℕ) → 32776 ≤ room → (entry : ℕ) (m : Message) →
    Fits t entry m → FieldsFit m.header → m.header.kind ≡ 1 → m.routes ≡ [] → Enters t entry (entering room m) m
enters t valid room enough entry m f numbers kind none =
    let held = entering_room room m (omega (arith, frame_long m, f.short)) in
    record {
      tables = valid;
      inside = f.inside;
      held = record { room = omega (arith, held); read = read_back m numbers f.writes (replicate (room - length (frame_of m)) 0); typed = kind };
      few = omega (arith, ap length none);
      short = f.short;
      stranger = λ top below e rank h. no_top m.routes none top below e;
    }

-- ---- how it ends

-- a walk over these brokers, said as a row says it
ends_as : (t : Tables) (owner : Owner) (entry : ℕ) (buffer : List ℕ) (m : Message) (brokers : List ℕ) (ended : Stepped) (left : List ℕ) {answer : Stepped} {rank links : ℕ} →
    Enters t entry buffer m → (rest : List ℕ) × (brokers ≡ entry ∷ rest) → Goes t owner entry buffer brokers ended left →
    ended ≡ answer → final 0 brokers ≡ rank → length brokers - 1 ≡ links →
    EndsAs t owner entry buffer m answer rank links
ends_as t owner entry buffer m brokers ended left premises starts goes answers rests crossed =
    record {
      enters = premises;
      brokers = brokers;
      first = starts;
      last = rests;
      count = omega (arith, crossed, ap length starts.1);
      left = left;
      steps = subst (λ (s : Stepped). StepsOver t owner buffer brokers s left) answers goes.steps;
      walk = λ row r after listed room plays.
          let w = goes.walk row r after listed room plays in
          record {
            returns = w.returns;
            lists = w.lists ∙ (λ i. row_bytes (step_row (answers i) (frame_length (sym w.leaves i)) ++ (rests i ∷ crossed i ∷ [])) ++ drop walk_record row);
            leaves = w.leaves;
          };
    }

-- ---- the rows

abbrev told_in : Row → Told
told_in (walk entry nodeid flags topic told rank links) = told

abbrev rank_in : Row → ℕ
rank_in (walk entry nodeid flags topic told rank links) = rank

abbrev links_in : Row → ℕ
links_in (walk entry nodeid flags topic told rank links) = links

-- what the path's table tells of an end is demand 3's answer
told_answer : (end : End) (flags : ℕ) → answer_at end (no_response flags) ≡ answer_of (told_of flags end)
told_answer (delivers number) flags = refl
told_answer (fails errnum) flags = ⊎_elim (λ q. rw q) (λ l. rw l) (outcome (no_response flags))

-- the test of a row
meets : Row → Bool
meets (walk entry nodeid flags topic told rank links) = fits floor entry (request_of nodeid flags topic)

row_ends : (owner : Owner) (room : ℕ) → 32776 ≤ room → (row : Row) → meets row ≡ true → by_path row ≡ row → RowEnds owner room row
unfolding meets RowEnds
row_ends owner room enough (walk entry nodeid flags topic told rank links) test same =
    let m = request_of nodeid flags topic in
    let f = fitting floor entry m test in
    let numbers : FieldsFit m.header = record { userid = lit< tt; rolemask = lit< tt; first = f.nodeid; second = lit< tt } in
    let premises = enters floor floor_valid room enough entry m f numbers refl refl in
    let path = path_of floor_tree floor_services entry m.header m.topic in
    let both = demand_three floor owner entry (entering room m) [] (bytes_padded (frame_of m) (room - length (frame_of m)) f.bytes) tt m premises in
    ends_as floor owner entry (entering room m) m path.brokers (answer_at path.end (no_response flags)) _ premises both.entered both.there
    (told_answer path.end flags ∙ ap (λ (row : Row). answer_of (told_in row)) same) (ap rank_in same) (ap links_in same)

abbrev all_rows : List Row → Bool
all_rows [] = true
all_rows (row ∷ rows) = meets row && all_rows rows

head_of : Row → List Row → Row
head_of d [] = d
head_of d (row ∷ rows) = row

tail_of : List Row → List Row
tail_of [] = []
tail_of (row ∷ rows) = rows

-- rows that pass the test, and that are what their paths come to
rows_end : (owner : Owner) (room : ℕ) → 32776 ≤ room → (rows : List Row) → all_rows rows ≡ true → map by_path rows ≡ rows → EachRow (RowEnds owner room) rows
unfolding EachRow head_of tail_of
rows_end owner room enough [] tests same = tt
rows_end owner room enough (row ∷ rows) tests same = (
  row_ends owner room enough row (and_left (meets row) (all_rows rows) tests) (ap (head_of row) same),
  rows_end owner room enough rows (and_right (meets row) (all_rows rows) tests) (ap tail_of same),
)

table_meets : all_rows table ≡ true
unfolding meets fits writing parts_fit parts_given_fit routes_good is_topic fields_good header_bytes parts_of body_of frame_of ranks_in
table_meets = refl

pub walks_of_the_table : (owner : Owner) → WalksOfTheTable owner
walks_of_the_table owner room enough = rows_end owner room enough table table_meets walks_are_right.rows
