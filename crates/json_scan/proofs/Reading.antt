-- How a reader's promise is put together: a byte more in front, a place to stop, two readers one behind the other.
use Rattle.std.specs.Prelude.{Ok, Err}
use mathlib.Core.Path.{◌≡◌, refl, sym, ap, ◌∙◌}
use mathlib.Core.Bool.{Bool, true, false, cond}
use mathlib.Core.List.{List}
use mathlib.Core.Logic.{⊎_elim}
use Prim.Native.Nat.{ℕ, ◌+◌, ◌<◌, ◌≤◌}
use native.Mathlib.Omega.{arith}
use borrow.Author.Tests.{ltb-true, ltb-false}
use lib.Dec.{ltb}
use lib.ListN.{length, drop, get_or}
use Rattle.bytes_number.proofs.Truth.{outcome}
use Rattle.json_scan.specs.declared.Fault.{Fault}
use Rattle.json_scan.specs.declared.Fault.TheVariants.{NotJson}
use Rattle.json_scan.specs.WorkingEnds.{Reached}
use Rattle.json_scan.specs.Scan.{Class, Kind, Due, State, nowhere, to, remaining, move_of, is_ended, go_on, scan}
use Rattle.json_scan.specs.WorkingEnds.{end_of, followed}
use Rattle.json_scan.specs.WorkingReads.{Came, place_of, came, ReadsOn}
use Rattle.json_scan.proofs.Scanning.{scan_at, scan_over, go_on_lem}
use Rattle.json_scan.proofs.Leading.{scan_passes}

-- a token, however many levels are left
abbrev pub ReadsToken : List ℕ → ℕ → State → State → Came → Type 0
ReadsToken bytes at state next r = (room : ℕ) → ReadsOn bytes room at state next r

-- the rest of a token, whatever comes behind it
abbrev pub ReadsRest : List ℕ → ℕ → List Class → Came → Type 0
ReadsRest bytes at ks r = (next : State) → ReadsToken bytes at (remaining ks next) next r

-- a string or a part of one, whatever is due behind it
abbrev pub ReadsText : List ℕ → ℕ → (Due → State) → (Due → State) → Came → Type 0
ReadsText bytes at state next r = (due : Due) → ReadsToken bytes at (state due) (next due) r

-- if it came behind what it read, that was a byte at least
abbrev pub Takes : ℕ → Came → Type 0
Takes at (Ok i) = at < i
Takes at (Err fault) = Unit {0}

-- ---- one byte

-- nothing more is read
pub reads_none : {bytes : List ℕ} {room at : ℕ} {state : State} → ReadsOn bytes room at state state (Ok at)
reads_none = record { same = λ around. refl; onward = omega arith }

-- the byte leads on, and the rest is read from there
pub reads_more :
    {bytes : List ℕ} {room at : ℕ} {state next : State} {r : Came} (state₁ : State) →
    at < length bytes → ((around : List Kind) → move_of state around (get_or bytes at 0) ≡ to state₁ around) → ReadsOn bytes room (at + 1) state₁ next r → ReadsOn bytes room at state next r
reads_more {bytes} {room} {at} {state} {next} {r} state₁ l e rest =
    record {
      same = λ around.
          scan_at (length around + room) state around bytes at l
          ∙ ap (go_on (length around + room) at (λ state₂ around₂. scan (length around + room) state₂ around₂ (at + 1) (drop (at + 1) bytes))) (e around)
          ∙ go_on_lem (length around + room) at (λ state₂ around₂. scan (length around + room) state₂ around₂ (at + 1) (drop (at + 1) bytes)) state₁ around (omega arith)
          ∙ rest.same around;
      onward = omega (arith, rest.onward);
    }

-- the byte is the last one
pub reads_last :
    {bytes : List ℕ} {room at : ℕ} {state next : State} →
    at < length bytes → ((around : List Kind) → move_of state around (get_or bytes at 0) ≡ to next around) → ReadsOn bytes room at state next (Ok (at + 1))
reads_last {next = next} l e = reads_more next l e reads_none

-- the byte leads nowhere
pub reads_wrong :
    {bytes : List ℕ} {room at : ℕ} {state next : State} →
    at < length bytes → ((around : List Kind) → move_of state around (get_or bytes at 0) ≡ nowhere) → ReadsOn bytes room at state next (Err (NotJson at))
reads_wrong {bytes} {room} {at} {state} l e =
    record {
      same = λ around.
          scan_at (length around + room) state around bytes at l
          ∙ ap (go_on (length around + room) at (λ state₂ around₂. scan (length around + room) state₂ around₂ (at + 1) (drop (at + 1) bytes))) (e around);
      onward = omega arith;
    }

-- no byte is left
pub reads_over : {bytes : List ℕ} {room at : ℕ} {state next : State} → length bytes ≤ at → is_ended state ≡ false → ReadsOn bytes room at state next (Err (NotJson at))
reads_over {bytes} {room} {at} {state} l e =
    record {
      same = λ around. scan_over (length around + room) state around bytes at l ∙ ap (λ (t : Bool). cond t (Ok tt) (Err (NotJson at))) e;
      onward = omega arith;
    }

-- one reader behind another
pub reads_then :
    {bytes : List ℕ} {room at j : ℕ} {state middle next : State} {r : Came} → ReadsOn bytes room at state middle (Ok j) → ReadsOn bytes room j middle next r → ReadsOn bytes room at state next r
reads_then one two = record { same = λ around. one.same around ∙ two.same around; onward = omega (arith, one.onward, two.onward) }

-- a reader that came behind what it read took something
pub takes_from : {at : ℕ} (i : ℕ) (r : Came) → at < i → i ≤ place_of r → Takes at r
takes_from i (Ok j) l m = omega arith
takes_from i (Err fault) l m = tt

pub takes_more : {at : ℕ} (i : ℕ) (r : Came) → at ≤ i → Takes i r → Takes at r
takes_more i (Ok j) l t = omega (arith, l, t)
takes_more i (Err fault) l t = tt

-- one that stopped: whatever was to come then
pub reads_failed : {bytes : List ℕ} {room at : ℕ} {state middle next : State} {fault : Fault} → ReadsOn bytes room at state middle (Err fault) → ReadsOn bytes room at state next (Err fault)
reads_failed one = record { same = λ around. one.same around; onward = one.onward }

-- a second one behind the first, as long as that does not stop
pub reads_followed :
    {bytes : List ℕ} {room at : ℕ} {state middle next : State} (r : Reached) (f : ℕ → Reached) → ReadsOn bytes room at state middle (came r) → ((i : ℕ) → r ≡ Ok i → ReadsOn bytes room i middle next (came (f i))) →
    ReadsOn bytes room at state next (came (followed r f))
reads_followed (Ok i) f one two = reads_then one (two i refl)
reads_followed (Err i) f one two = reads_failed one

pub takes_followed : (at : ℕ) (r : Reached) (f : ℕ → Reached) → ((i : ℕ) → r ≡ Ok i → Takes at (came (f i))) → Takes at (came (followed r f))
takes_followed at (Ok i) f two = two i refl
takes_followed at (Err i) f two = tt

-- bytes at the front that leave the reading where it stands
pub reads_passes :
    {bytes : List ℕ} {room at : ℕ} {state next : State} {r : Came} (test : ℕ → Bool) → ((around : List Kind) (c : ℕ) → test c ≡ true → move_of state around c ≡ to state around) →
    ReadsOn bytes room (end_of test bytes at) state next r → ReadsOn bytes room at state next r
reads_passes {bytes} {room} {at} {state} test stays rest =
    record {
      same = λ around. scan_passes (length around + room) state around test bytes at (stays around) (omega arith) ∙ rest.same around;
      onward = omega (arith, rest.onward);
    }

-- two states that the byte at the place leads alike, or that stop alike where there is none
pub scan_alike :
    (bytes : List ℕ) (at most : ℕ) (state state₁ : State) (around : List Kind) → is_ended state ≡ is_ended state₁ →
    (at < length bytes → move_of state around (get_or bytes at 0) ≡ move_of state₁ around (get_or bytes at 0)) → scan most state around at (drop at bytes) ≡ scan most state₁ around at (drop at bytes)
scan_alike bytes at most state state₁ around e f = ⊎_elim (λ t. here (ltb-true at (length bytes) t)) (λ t. over (ltb-false at (length bytes) t)) (outcome (ltb at (length bytes)))
  where
    here : at < length bytes → scan most state around at (drop at bytes) ≡ scan most state₁ around at (drop at bytes)
    here l =
        scan_at most state around bytes at l
        ∙ ap (go_on most at (λ state₂ around₂. scan most state₂ around₂ (at + 1) (drop (at + 1) bytes))) (f l)
        ∙ sym (scan_at most state₁ around bytes at l)

    over : length bytes ≤ at → scan most state around at (drop at bytes) ≡ scan most state₁ around at (drop at bytes)
    over l = scan_over most state around bytes at l ∙ ap (λ (t : Bool). cond t (Ok tt) (Err (NotJson at))) e ∙ sym (scan_over most state₁ around bytes at l)

pub reads_alike :
    {bytes : List ℕ} {room at : ℕ} {state next : State} {r : Came} (state₁ : State) → is_ended state ≡ is_ended state₁ →
    (at < length bytes → (around : List Kind) → move_of state around (get_or bytes at 0) ≡ move_of state₁ around (get_or bytes at 0)) →
    ReadsOn bytes room at state₁ next r → ReadsOn bytes room at state next r
reads_alike {bytes} {room} {at} {state} state₁ e f rest =
    record { same = λ around. scan_alike bytes at (length around + room) state state₁ around e (λ l. f l around) ∙ rest.same around; onward = rest.onward }

-- the byte at the place leads nowhere, or there is none
pub reads_stuck :
    {bytes : List ℕ} {room at : ℕ} {state next : State} → is_ended state ≡ false → (at < length bytes → (around : List Kind) → move_of state around (get_or bytes at 0) ≡ nowhere) →
    ReadsOn bytes room at state next (Err (NotJson at))
reads_stuck {bytes} {at = at} e f =
    ⊎_elim (λ t. let l = ltb-true at (length bytes) t in reads_wrong l (f l)) (λ t. reads_over (ltb-false at (length bytes) t) e) (outcome (ltb at (length bytes)))
