-- White space in front of a token, and the first byte that is none.
use Rattle.std.specs.Prelude.{Err}
use mathlib.Core.Path.{◌≡◌, sym, ap, subst, subst⁻¹, ◌∙◌}
use mathlib.Core.Bool.{Bool, true, false, cond}
use mathlib.Core.List.{List}
use Prim.Native.Nat.{ℕ, ◌+◌, ◌<◌, ◌≤◌}
use native.Mathlib.Omega.{arith}
use mathlib.Core.Logic.{⊎_elim}
use borrow.Author.Tests.{ltb-true, ltb-false}
use lib.Dec.{ltb}
use lib.ListN.{length, drop, get_or, get_or-eq_default}
use Rattle.bytes_number.proofs.Truth.{outcome}
use Rattle.json_scan.specs.Scan.{Verdict}
use Rattle.json_scan.specs.declared.Fault.TheVariants.{NotJson}
use Rattle.json_scan.specs.Scan.{is_white, Kind, Due, State, between, nowhere, to, token_move, between_move, move_of, go_on, scan}
use Rattle.json_scan.specs.WorkingEnds.{end_of, token_at}
use Rattle.json_scan.specs.WorkingReads.{Came, ReadsOn}
use Rattle.json_scan.specs.declared.Token.{Token}
use Rattle.json_scan.proofs.Leading.{end_here, end_stops, scan_passes}
use Rattle.json_scan.proofs.Bytes.{white_none}
use Rattle.json_scan.proofs.Scanning.{inside, scan_at, scan_over, go_on_lem}
use Rattle.json_scan.proofs.Reading.{reads_passes}

white_stays : (due : Due) (around : List Kind) (c : ℕ) → is_white c ≡ true → move_of (between due) around c ≡ to (between due) around
unfolding move_of between_move
white_stays due around c e = ap (λ (t : Bool). cond t (to (between due) around) (token_move due around c)) e

-- a byte that is none begins a token
pub token_begins : (due : Due) (around : List Kind) (c : ℕ) → is_white c ≡ false → move_of (between due) around c ≡ token_move due around c
unfolding move_of between_move
token_begins due around c e = ap (λ (t : Bool). cond t (to (between due) around) (token_move due around c)) e

-- where the white space ends that begins at a place
pub reads_white :
    {bytes : List ℕ} {room at i : ℕ} {due : Due} {next : State} {r : Came} → i ≡ end_of is_white bytes at → ReadsOn bytes room i (between due) next r → ReadsOn bytes room at (between due) next r
reads_white {bytes} {room} {due = due} {next = next} {r = r} end rest = reads_passes is_white (white_stays due) (subst (λ (j : ℕ). ReadsOn bytes room j (between due) next r) end rest)

module _ (bytes : List ℕ) (at i : ℕ) (end : i ≡ end_of is_white bytes at) where
  pub white_further : at ≤ i
  white_further = omega (arith, end)

  pub dark_at : i < length bytes → is_white (get_or bytes i 0) ≡ false
  dark_at l = subst⁻¹ (λ (j : ℕ). is_white (get_or bytes j 0) ≡ false) end (end_stops is_white bytes at (omega (arith, end, l)))

  pub scan_white : (most : ℕ) (due : Due) (around : List Kind) → length around ≤ most → scan most (between due) around at (drop at bytes) ≡ scan most (between due) around i (drop i bytes)
  scan_white most due around l =
      scan_passes most (between due) around is_white bytes at (white_stays due around) l
      ∙ ap (λ (j : ℕ). scan most (between due) around j (drop j bytes)) (sym end)

-- a byte above them is none
pub white_above : (bytes : List ℕ) (at : ℕ) → 32 < get_or bytes at 0 → at ≡ end_of is_white bytes at
white_above bytes at l =
    let c = get_or bytes at 0 in
    sym (end_here is_white bytes at (inside bytes at (λ e. omega (arith, l, e))) (sym (white_none c (λ e. omega (arith, l, e)) (λ e. omega (arith, l, e)) (λ e. omega (arith, l, e)) (λ e. omega (arith, l, e)))))

-- ---- a place where a token may begin, with the byte there

pub record TokenAt (bytes : List ℕ) (from : ℕ) (t : Token) : Type 0 where
  pub end : t.at ≡ end_of is_white bytes from
  pub there : t.byte ≡ get_or bytes t.at 0

pub token_is : (bytes : List ℕ) (from : ℕ) {at byte : ℕ} → at ≡ end_of is_white bytes from → byte ≡ get_or bytes at 0 → record { at = at; byte = byte } ≡ token_at bytes from
unfolding token_at
token_is bytes from end there = let is = there ∙ ap (λ (j : ℕ). get_or bytes j 0) end in λ i. record { at = end i; byte = is i }

pub token_told : (bytes : List ℕ) (from : ℕ) {t : Token} → t ≡ token_at bytes from → TokenAt bytes from t
unfolding token_at
token_told bytes from {t} e =
    let end : t.at ≡ end_of is_white bytes from = ap (λ (x : Token). x.at) e in
    record { end = end; there = ap (λ (x : Token). x.byte) e ∙ ap (λ (j : ℕ). get_or bytes j 0) (sym end) }

module _ {bytes : List ℕ} {from : ℕ} {t : Token} (b : TokenAt bytes from t) where
  pub token_further : from ≤ t.at
  token_further = white_further bytes from t.at b.end

  pub token_there : (t.byte ≡ 0 → ⊥) → t.at < length bytes
  token_there f = inside bytes t.at (λ e. f (b.there ∙ e))

  pub token_over : length bytes ≤ t.at → t.byte ≡ 0
  token_over l = b.there ∙ get_or-eq_default bytes 0 l

  pub token_dark : t.at < length bytes → is_white t.byte ≡ false
  token_dark l = ap is_white b.there ∙ dark_at bytes from t.at b.end l

  -- the byte leads on
  pub scan_on :
      (most : ℕ) (due : Due) (around : List Kind) (state₁ : State) (around₁ : List Kind) → length around ≤ most → length around₁ ≤ most → t.at < length bytes →
      move_of (between due) around t.byte ≡ to state₁ around₁ → scan most (between due) around from (drop from bytes) ≡ scan most state₁ around₁ (t.at + 1) (drop (t.at + 1) bytes)
  scan_on most due around state₁ around₁ l m h e =
      let next : State → List Kind → Verdict = λ state₂ around₂. scan most state₂ around₂ (t.at + 1) (drop (t.at + 1) bytes) in
      scan_white bytes from t.at b.end most due around l
      ∙ scan_at most (between due) around bytes t.at h
      ∙ ap (λ (c : ℕ). go_on most t.at next (move_of (between due) around c)) (sym b.there)
      ∙ ap (go_on most t.at next) e
      ∙ go_on_lem most t.at next state₁ around₁ m

  -- it leads nowhere, or there is none
  pub scan_stuck :
      (most : ℕ) (due : Due) (around : List Kind) → length around ≤ most → (is_white t.byte ≡ false → move_of (between due) around t.byte ≡ nowhere) →
      scan most (between due) around from (drop from bytes) ≡ Err (NotJson t.at)
  scan_stuck most due around l e =
      scan_white bytes from t.at b.end most due around l
      ∙ ⊎_elim (λ u. here (ltb-true t.at (length bytes) u)) (λ u. scan_over most (between due) around bytes t.at (ltb-false t.at (length bytes) u)) (outcome (ltb t.at (length bytes)))
    where
      here : t.at < length bytes → scan most (between due) around t.at (drop t.at bytes) ≡ Err (NotJson t.at)
      here m =
          scan_at most (between due) around bytes t.at m
          ∙ ap (go_on most t.at (λ state₂ around₂. scan most state₂ around₂ (t.at + 1) (drop (t.at + 1) bytes))) (ap (move_of (between due) around) (sym b.there) ∙ e (token_dark m))

  -- the same of a reader: the rest is read from there
  pub token_on :
      {room : ℕ} {due : Due} {next : State} {r : Came} (state₁ : State) → (t.byte ≡ 0 → ⊥) → ((around : List Kind) → move_of (between due) around t.byte ≡ to state₁ around) →
      ReadsOn bytes room (t.at + 1) state₁ next r → ReadsOn bytes room from (between due) next r
  token_on {room} {due} state₁ f e rest =
      record {
        same = λ around. scan_on (length around + room) due around state₁ around (omega arith) (omega arith) (token_there f) (e around) ∙ rest.same around;
        onward = omega (arith, token_further, rest.onward);
      }

  pub token_stuck : {room : ℕ} {due : Due} {next : State} → (is_white t.byte ≡ false → (around : List Kind) → move_of (between due) around t.byte ≡ nowhere) → ReadsOn bytes room from (between due) next (Err (NotJson t.at))
  token_stuck {room} {due} e = record { same = λ around. scan_stuck (length around + room) due around (omega arith) (λ dark. e dark around); onward = token_further }
