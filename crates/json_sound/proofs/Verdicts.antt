-- What a scan says, in terms of where it stood: at the end, at a byte that leads nowhere, or at one that opens a level too many.
use Rattle.std.specs.Prelude.{Result, Ok, Err}
use mathlib.Core.Path.{◌≡◌, refl, sym, ap, ◌∙◌}
use mathlib.Core.Bool.{Bool, true, false, cond}
use mathlib.Core.List.{List, [], ◌∷◌}
use Prim.Native.Nat.{ℕ, suc, ◌+◌, ◌<◌, ◌≤◌, suc-le-suc}
use native.Mathlib.Omega.{arith}
use borrow.Author.Tests.{ltb-true, ltb-false}
use lib.Dec.{ltb}
use lib.ListN.{length, take, get_or}
use Rattle.bytes_number.proofs.Truth.{true_false}
use Rattle.json_scan.specs.Scan.{Verdict}
use Rattle.json_scan.specs.declared.Fault.TheVariants.{NotJson, TooDeep}
use Rattle.json_scan.specs.Scan.{Kind, State, between, number, text, escape, rest, ended, Move, nowhere, to, move_of, is_ended, go_on, scan}
use Rattle.json_sound.proofs.Reach.{goes, reach, reach_on, nowhere_else, same_state}

-- ---- a yes

pub record Ended (most : ℕ) (state : State) (around : List Kind) (xs : List ℕ) : Type 0 where
  pub left : List Kind
  pub ends : reach most state around xs ≡ to ended left

-- ---- a no: so many bytes were read, and the next one leads nowhere, or there is none

pub record Stops (most : ℕ) (state : State) (around : List Kind) (xs : List ℕ) (count : ℕ) : Type 0 where
  pub within : count ≤ length xs
  pub stood : State
  pub held : List Kind
  pub room : length held ≤ most
  pub front : reach most state around (take count xs) ≡ to stood held
  pub wrong : count < length xs → move_of stood held (get_or xs count 0) ≡ nowhere
  pub early : count ≡ length xs → is_ended stood ≡ false

-- ---- too deep: so many bytes were read, and the next one opens a level too many

pub record Deepens (most : ℕ) (state : State) (around : List Kind) (xs : List ℕ) (count : ℕ) : Type 0 where
  pub within : count < length xs
  pub stood : State
  pub held : List Kind
  pub room : length held ≤ most
  pub front : reach most state around (take count xs) ≡ to stood held
  pub next : State
  pub deeper : List Kind
  pub opens : move_of stood held (get_or xs count 0) ≡ to next deeper
  pub too_deep : most < length deeper

-- ---- which it is, by the scan's verdict

abbrev pub Says : ℕ → State → List Kind → ℕ → List ℕ → Verdict → Type 0
Says most state around at xs (Ok tt) = Ended most state around xs
Says most state around at xs (Err (NotJson place)) = (count : ℕ) × ((place ≡ at + count) × Stops most state around xs count)
Says most state around at xs (Err (TooDeep place)) = (count : ℕ) × ((place ≡ at + count) × Deepens most state around xs count)

-- at the end
ended_is : (state : State) → is_ended state ≡ true → state ≡ ended
ended_is (between due) e = absurd (true_false (sym e))
ended_is (number figure) e = absurd (true_false (sym e))
ended_is (text due) e = absurd (true_false (sym e))
ended_is (escape due) e = absurd (true_false (sym e))
ended_is (rest k ks next) e = absurd (true_false (sym e))
ended_is ended e = refl

says_over : (most : ℕ) (state : State) (around : List Kind) (at : ℕ) → length around ≤ most → Says most state around at [] (cond (is_ended state) (Ok tt) (Err (NotJson at)))
unfolding reach
says_over most state around at l = go (is_ended state) refl
  where
    go : (t : Bool) → is_ended state ≡ t → Says most state around at [] (cond t (Ok tt) (Err (NotJson at)))
    go true e = record { left = around; ends = ap (λ (s : State). to s around) (ended_is state e) }
    go false e = (0, (omega arith, record { within = omega arith; stood = state; held = around; room = l; front = refl; wrong = λ m. absurd (omega arith); early = λ m. e }))

-- a byte more in front
says_more :
    (most : ℕ) (state : State) (around : List Kind) (at x : ℕ) (xs : List ℕ) (state₁ : State) (around₁ : List Kind) → move_of state around x ≡ to state₁ around₁ → length around₁ ≤ most →
    (v : Verdict) → Says most state₁ around₁ (at + 1) xs v → Says most state around at (x ∷ xs) v
says_more most state around at x xs state₁ around₁ e l (Ok tt) s = record { left = s.left; ends = reach_on most state around x xs state₁ around₁ e l ∙ s.ends }
says_more most state around at x xs state₁ around₁ e l (Err (NotJson place)) s =
    let d = s.1.1 in (
      suc s.0,
      (
        omega (arith, s.1.0),
        record {
          within = suc-le-suc d.within;
          stood = d.stood;
          held = d.held;
          room = d.room;
          front = reach_on most state around x (take s.0 xs) state₁ around₁ e l ∙ d.front;
          wrong = λ m. d.wrong (omega (arith, m));
          early = λ m. d.early (omega (arith, m));
        },
      ),
    )
says_more most state around at x xs state₁ around₁ e l (Err (TooDeep place)) s =
    let d = s.1.1 in (
      suc s.0,
      (
        omega (arith, s.1.0),
        record {
          within = suc-le-suc d.within;
          stood = d.stood;
          held = d.held;
          room = d.room;
          front = reach_on most state around x (take s.0 xs) state₁ around₁ e l ∙ d.front;
          next = d.next;
          deeper = d.deeper;
          opens = d.opens;
          too_deep = d.too_deep;
        },
      ),
    )

pub scan_says : (most : ℕ) (xs : List ℕ) (state : State) (around : List Kind) (at : ℕ) → length around ≤ most → Says most state around at xs (scan most state around at xs)
unfolding scan reach
scan_says most [] state around at l = says_over most state around at l
scan_says most (x ∷ xs) state around at l = by (λ state₁ around₁ m. scan_says most xs state₁ around₁ (at + 1) m) (move_of state around x) refl
  where
    by :
        ((state₁ : State) (around₁ : List Kind) → length around₁ ≤ most → Says most state₁ around₁ (at + 1) xs (scan most state₁ around₁ (at + 1) xs)) → (s : Move) → move_of state around x ≡ s →
        Says most state around at (x ∷ xs) (go_on most at (λ state₁ around₁. scan most state₁ around₁ (at + 1) xs) s)
    by again nowhere e = (0, (omega arith, record { within = omega arith; stood = state; held = around; room = l; front = refl; wrong = λ m. e; early = λ m. absurd (omega (arith, m)) }))
    by again (to state₁ around₁) e = test (ltb most (length around₁)) refl
      where
        test : (t : Bool) → ltb most (length around₁) ≡ t → Says most state around at (x ∷ xs) (cond t (Err (TooDeep at)) (scan most state₁ around₁ (at + 1) xs))
        test true d = (
          0,
          (
            omega arith,
            record {
              within = omega arith;
              stood = state;
              held = around;
              room = l;
              front = refl;
              next = state₁;
              deeper = around₁;
              opens = e;
              too_deep = ltb-true most (length around₁) d;
            },
          ),
        )
        test false d =
            let m = ltb-false most (length around₁) d in
            says_more most state around at x xs state₁ around₁ e m (scan most state₁ around₁ (at + 1) xs) (again state₁ around₁ m)

-- ---- and the other way for a yes

pub reached_scan : (most : ℕ) (xs : List ℕ) (state : State) (around left : List Kind) (at : ℕ) → reach most state around xs ≡ to ended left → scan most state around at xs ≡ Ok tt
unfolding scan reach
reached_scan most [] state around left at e = ap (λ (s : State). cond (is_ended s) (Ok tt) (Err (NotJson at))) (same_state e)
reached_scan most (x ∷ xs) state around left at e = by (λ state₁ around₁. reached_scan most xs state₁ around₁ left (at + 1)) (move_of state around x) e
  where
    by :
        ((state₁ : State) (around₁ : List Kind) → reach most state₁ around₁ xs ≡ to ended left → scan most state₁ around₁ (at + 1) xs ≡ Ok tt) → (s : Move) →
        goes most (λ state₁ around₁. reach most state₁ around₁ xs) s ≡ to ended left → go_on most at (λ state₁ around₁. scan most state₁ around₁ (at + 1) xs) s ≡ Ok tt
    by again nowhere e = absurd (nowhere_else e)
    by again (to state₁ around₁) e = test (ltb most (length around₁)) e
      where
        test : (t : Bool) → cond t nowhere (reach most state₁ around₁ xs) ≡ to ended left → cond t (Err (TooDeep at)) (scan most state₁ around₁ (at + 1) xs) ≡ Ok tt
        test true e = absurd (nowhere_else e)
        test false e = again state₁ around₁ e
