-- Where a string ends: behind the byte that leads out of it, or at the first that leads nowhere.
use Rattle.std.specs.Prelude.{Ok, Err}
use Rattle.std.specs.Prelude.{◌≡◌, Bool, true, false, cond, List, [], ◌∷◌, ℕ, ◌+◌, ◌≤◌, drop}
use Rattle.json_scan.specs.WorkingEnds.{Reached}
use Rattle.json_scan.specs.Scan.{behind, State, between, number, text, escape, rest, ended, Move, nowhere, to, move_of}
use Rattle.json_scan.specs.WorkingEnds.{followed}
use Rattle.json_scan.specs.WorkingReads.{place_of, came}

-- between two tokens a string is over
abbrev pub is_between : State → Bool
is_between (between due) = true
is_between (number figure) = false
is_between (text due) = false
is_between (escape due) = false
is_between (rest k ks next) = false
is_between ended = false

-- a byte leads nowhere, out of the string, or on in it
abbrev pub text_on : ℕ → (State → Reached) → Move → Reached
text_on at next nowhere = Err at
text_on at next (to state around) = cond (is_between state) (Ok (at + 1)) (next state)

-- from a place on, in this state within a string
unfoldable pub text_from : State → ℕ → List ℕ → Reached
text_from state at [] = Err at
text_from state at (c ∷ cs) = text_on at (λ state₁. text_from state₁ (at + 1) cs) (move_of state [] c)

-- what stands between the quotation marks, and the closing one. What is open around a string and due behind it does not matter.
abbrev pub text_end : ℕ → List ℕ → Reached
text_end at xs = text_from (text behind) at xs

-- what stands behind a backslash: behind that the string goes on
pub record Escaped (bytes : List ℕ) (at : ℕ) (r : Reached) : Type 0 where
  pub same : text_from (escape behind) at (drop at bytes) ≡ followed r (λ i. text_end i (drop i bytes))
  pub onward : at ≤ place_of (came r)
