-- Objects and arrays, from the opening byte to the closing one: what was read so far, and what is left to read.
use Rattle.std.specs.Prelude.{Ok, Err}
use mathlib.Core.Path.{◌≡◌, refl, sym, ap, subst, subst⁻¹, ◌∙◌}
use mathlib.Core.Bool.{false}
use mathlib.Core.List.{List, ◌∷◌}
use mathlib.Core.Logic.{⊎_elim}
use Prim.Native.Nat.{ℕ, ◌+◌, ◌-◌, ◌<◌, ◌≤◌}
use native.Mathlib.Omega.{arith}
use borrow.Author.Tests.{ne_eqb, eqb-true, eqb-false}
use lib.Dec.{eqb}
use Rattle.bytes_number.proofs.Truth.{outcome}
use lib.ListN.{length, drop, get_or}
use Rattle.json_scan.specs.Scan.{Verdict}
use Rattle.json_scan.specs.declared.Fault.{Fault}
use Rattle.json_scan.specs.declared.Fault.TheVariants.{TooDeep}
use Rattle.json_scan.specs.declared.Token.{Token}
use Rattle.json_scan.specs.Scan.{is_white, Kind, in_object, in_array, first_name, first_value, name, value, behind, State, between, text, to, value_step, behind_step, token_move, between_move, move_of, go_on, scan}
use Rattle.json_scan.specs.WorkingReads.{Came, came, resumed, ReadsOn}
use Rattle.json_scan.proofs.Scanning.{scan_at, go_on_lem, go_deeper}
use Rattle.json_scan.proofs.Reading.{scan_alike}
use Rattle.json_scan.proofs.White.{TokenAt, token_begins, scan_white, token_further, token_there, token_dark, scan_on}
use Rattle.json_separators.specs.declared.Next.TheVariants.{More, Closed}
use Rattle.json_separators.specs.WorkingSeparators.{next_of}
use Rattle.json_separators.proofs.Steps.{closing, again, no_zero_closes}
use Rattle.json_separators.proofs.Nexts.{next_told}
use Rattle.json_check.specs.WorkingNested.{first, Nests, Opened}

-- ---- bytes

-- the byte that opens it
abbrev pub opening : Kind → ℕ
opening in_object = 123
opening in_array = 91

opens : (kind : Kind) (around : List Kind) (c : ℕ) → c ≡ opening kind → move_of (between value) around c ≡ to (between (first kind)) (kind ∷ around)
unfolding move_of between_move token_move value_step is_white
opens in_object around c e = ap (move_of (between value) around) e
opens in_array around c e = ap (move_of (between value) around) e

-- at once behind the opening byte: the closing one, or what is due behind a comma
closes_at_once : (kind : Kind) (around : List Kind) (c : ℕ) → c ≡ closing kind → move_of (between (first kind)) (kind ∷ around) c ≡ to (between behind) around
unfolding move_of between_move token_move behind_step is_white
closes_at_once in_object around c e = ap (move_of (between first_name) (in_object ∷ around)) e
closes_at_once in_array around c e = ap (move_of (between first_value) (in_array ∷ around)) e

first_as_again : (kind : Kind) (around : List Kind) (c : ℕ) → is_white c ≡ false → (c ≡ closing kind → ⊥) → move_of (between (first kind)) around c ≡ move_of (between (again kind)) around c
unfolding token_move
first_as_again in_object around c d f = token_begins first_name around c d ∙ rw (ne_eqb c 125 f) refl ∙ sym (token_begins name around c d)
first_as_again in_array around c d f = token_begins first_value around c d ∙ rw (ne_eqb c 93 f) refl ∙ sym (token_begins value around c d)

pub begins_text : (around : List Kind) (c : ℕ) → c ≡ 34 → move_of (between value) around c ≡ to (text behind) around
unfolding move_of between_move token_move value_step is_white
begins_text around c e = ap (move_of (between value) around) e

-- ---- a run of one byte, from a place where the levels suffice or do not

module _ (most : ℕ) (state : State) (around : List Kind) (bytes : List ℕ) (i : ℕ) (l : i < length bytes) where
  abbrev next : State → List Kind → Verdict
  next state₁ around₁ = scan most state₁ around₁ (i + 1) (drop (i + 1) bytes)

  pub leads : (state₁ : State) (around₁ : List Kind) → move_of state around (get_or bytes i 0) ≡ to state₁ around₁ → length around₁ ≤ most → scan most state around i (drop i bytes) ≡ next state₁ around₁
  leads state₁ around₁ e room = scan_at most state around bytes i l ∙ ap (go_on most i next) e ∙ go_on_lem most i next state₁ around₁ room

  leads_deeper : (state₁ : State) (around₁ : List Kind) → move_of state around (get_or bytes i 0) ≡ to state₁ around₁ → most < length around₁ → scan most state around i (drop i bytes) ≡ Err (TooDeep i)
  leads_deeper state₁ around₁ e room = scan_at most state around bytes i l ∙ ap (go_on most i next) e ∙ go_deeper most i next state₁ around₁ room

-- ---- behind the opening byte

-- so far it was read, and what is due behind a comma is due there
pub record Inside (bytes : List ℕ) (room at : ℕ) (kind : Kind) (i : ℕ) : Type 0 where
  pub same :
      (around : List Kind) →
      scan (length (kind ∷ around) + room) (between (first kind)) (kind ∷ around) at (drop at bytes) ≡ scan (length (kind ∷ around) + room) (between (again kind)) (kind ∷ around) i (drop i bytes)
  pub onward : at ≤ i

-- so far it was read, and it stands behind a value in it
pub record Held (bytes : List ℕ) (room at : ℕ) (kind : Kind) (j : ℕ) : Type 0 where
  pub same :
      (around : List Kind) →
      scan (length (kind ∷ around) + room) (between (first kind)) (kind ∷ around) at (drop at bytes) ≡ scan (length (kind ∷ around) + room) (between behind) (kind ∷ around) j (drop j bytes)
  pub onward : at ≤ j

-- at the first token behind the opening byte
module _ {bytes : List ℕ} (room : ℕ) {at : ℕ} (kind : Kind) {t : Token} (b : TokenAt bytes at t) where
  pub nest_closed : t.byte ≡ closing kind → Nests bytes room at kind (Ok (t.at + 1))
  nest_closed e =
      record {
        same = λ around.
            scan_on b (length (kind ∷ around) + room) (first kind) (kind ∷ around) (between behind) around (omega arith) (omega arith) (token_there b (λ z. no_zero_closes kind z e)) (closes_at_once kind around t.byte e);
        onward = omega (arith, token_further b);
      }

  pub inside_first : (t.byte ≡ closing kind → ⊥) → Inside bytes room at kind t.at
  inside_first f =
      record {
        same = λ around.
            let most = length (kind ∷ around) + room in
            scan_white bytes at t.at b.end most (first kind) (kind ∷ around) (omega arith)
            ∙ scan_alike bytes t.at most (between (first kind)) (between (again kind)) (kind ∷ around) refl
            (λ l. ap (move_of (between (first kind)) (kind ∷ around)) (sym b.there) ∙ first_as_again kind (kind ∷ around) t.byte (token_dark b l) f ∙ ap (move_of (between (again kind)) (kind ∷ around)) b.there);
        onward = token_further b;
      }

module _ {bytes : List ℕ} {room at : ℕ} {kind : Kind} where
  -- a value was read in it, with its name if it has one
  pub inside_held : {i j : ℕ} → Inside bytes room at kind i → ReadsOn bytes room i (between (again kind)) (between behind) (Ok j) → Held bytes room at kind j
  inside_held inside one = record { same = λ around. inside.same around ∙ one.same (kind ∷ around); onward = omega (arith, inside.onward, one.onward) }

  -- it was not
  pub inside_failed : {i : ℕ} {fault : Fault} → Inside bytes room at kind i → ReadsOn bytes room i (between (again kind)) (between behind) (Err fault) → Nests bytes room at kind (Err fault)
  inside_failed inside one = record { same = λ around. inside.same around ∙ one.same (kind ∷ around); onward = omega (arith, inside.onward, one.onward) }

  -- what stands behind it
  pub held_more : {j k : ℕ} → Held bytes room at kind j → Ok (More k) ≡ came (next_of (closing kind) bytes j) → Inside bytes room at kind k
  held_more {j} held told =
      let m = next_told (closing kind) bytes j told in
      record { same = λ around. held.same around ∙ m.same kind refl room around; onward = omega (arith, held.onward, m.further.0) }

  pub held_closed : {j k : ℕ} → Held bytes room at kind j → Ok (Closed k) ≡ came (next_of (closing kind) bytes j) → Nests bytes room at kind (Ok k)
  held_closed {j} held told =
      let m = next_told (closing kind) bytes j told in
      record { same = λ around. held.same around ∙ m.same kind refl room around; onward = omega (arith, held.onward, m.further) }

  pub held_neither : {j : ℕ} {fault : Fault} → Held bytes room at kind j → Err fault ≡ came (next_of (closing kind) bytes j) → Nests bytes room at kind (Err fault)
  held_neither {j} held told =
      let m = next_told (closing kind) bytes j told in
      record { same = λ around. held.same around ∙ m.same kind refl room around; onward = omega (arith, held.onward, m.further) }

-- ---- a value that is an object or an array

-- with no level left for it, and with some
pub opened_deeper : {bytes : List ℕ} {room at : ℕ} {kind : Kind} {r : Came} → room ≡ 0 → r ≡ Err (TooDeep at) → Opened bytes room at kind r
opened_deeper none e = record { deeper = λ z. e; nests = λ some. absurd (omega (arith, none, some)) }

pub opened_nest : {bytes : List ℕ} {room at : ℕ} {kind : Kind} {r : Came} → 0 < room → Nests bytes (room - 1) (at + 1) kind r → Opened bytes room at kind r
opened_nest some nests = record { deeper = λ none. absurd (omega (arith, none, some)); nests = λ l. nests }

module _ {bytes : List ℕ} (kind : Kind) (room at : ℕ) (l : at < length bytes) (e : get_or bytes at 0 ≡ opening kind) where
  too_deep : room ≡ 0 → ReadsOn bytes room at (between value) (between behind) (Err (TooDeep at))
  too_deep none =
      record {
        same = λ around. leads_deeper (length around + room) (between value) around bytes at l (between (first kind)) (kind ∷ around) (opens kind around (get_or bytes at 0) e) (omega (arith, none));
        onward = omega arith;
      }

  nested : {r : Came} → 0 < room → Nests bytes (room - 1) (at + 1) kind r → ReadsOn bytes room at (between value) (between behind) r
  nested {r} some nests = record { same = λ around. whole around (omega (arith, some)); onward = omega (arith, nests.onward) }
    where
      whole :
          (around : List Kind) → length (kind ∷ around) + (room - 1) ≡ length around + room →
          scan (length around + room) (between value) around at (drop at bytes) ≡ resumed bytes (scan (length around + room) (between behind) around) r
      whole around most =
          leads (length around + room) (between value) around bytes at l (between (first kind)) (kind ∷ around) (opens kind around (get_or bytes at 0) e) (omega (arith, some))
          ∙ subst (λ (m : ℕ). scan m (between (first kind)) (kind ∷ around) (at + 1) (drop (at + 1) bytes) ≡ resumed bytes (scan m (between behind) around) r) most (nests.same around)

  pub reads_opened : {r : Came} → Opened bytes room at kind r → ReadsOn bytes room at (between value) (between behind) r
  reads_opened opened =
      ⊎_elim
      (λ t. let none = eqb-true room 0 t in subst (ReadsOn bytes room at (between value) (between behind)) (sym (opened.deeper none)) (too_deep none))
      (λ t. let some : 0 < room = omega (arith, eqb-false room 0 t) in nested some (opened.nests some))
      (outcome (eqb room 0))

-- it stopped
pub opened_stop : {bytes : List ℕ} {room at : ℕ} {kind : Kind} {r : Came} {fault : Fault} → 0 < room → r ≡ Err fault → Nests bytes (room - 1) (at + 1) kind (Err fault) → Opened bytes room at kind r
opened_stop {bytes} {room} {at} {kind} some is nests = opened_nest some (subst⁻¹ (Nests bytes (room - 1) (at + 1) kind) is nests)

-- a comma lies further on, and within the bytes; a closing byte lies behind something
pub more_further : (close : ℕ) (bytes : List ℕ) (j : ℕ) {k : ℕ} → Ok (More k) ≡ came (next_of close bytes j) → (j < k) × (k ≤ length bytes)
more_further close bytes j told = (next_told close bytes j told).further

pub closed_further : (close : ℕ) (bytes : List ℕ) (j : ℕ) {k : ℕ} → Ok (Closed k) ≡ came (next_of close bytes j) → j < k
closed_further close bytes j told = (next_told close bytes j told).further
