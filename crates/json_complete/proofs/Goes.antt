-- Words of a rule that lead a reading from one place to another, and how that goes together as rules do.
use mathlib.Core.Path.{◌≡◌, refl, ap, ◌∙◌}
use mathlib.Core.Logic.{◌⊎◌, inl, inr}
use mathlib.Core.List.{List, [], ◌∷◌, ◌++◌, append_assoc}
use Prim.Native.Nat.{ℕ, zero, suc, ◌≤◌}
use lib.ListN.{length}
use Rattle.json_grammar.specs.Language.{Language, byte, range, spelled, nothing, Then, ◌then◌, ◌or◌, perhaps, times, many}
use Rattle.json_scan.specs.Scan.{Kind, State, to, move_of}
use Rattle.json_sound.proofs.Reach.{reach, reach_on}

-- whatever comes behind a word
pub record Any (rest : List ℕ) : Type 0 where

-- each word of a rule, with such bytes behind it, leads from one place to another
pub record Goes (most : ℕ) (after : List ℕ → Type 0) (rule : Language) (state : State) (around : List Kind) (state₁ : State) (around₁ : List Kind) : Type 0 where
  pub go : (word rest : List ℕ) → rule word → after rest → reach most state around (word ++ rest) ≡ reach most state₁ around₁ rest

-- a word in two parts, with something behind it
parts : (most : ℕ) (state : State) (around : List Kind) {one two : Language} {word : List ℕ} (w : Then one two word) (rest : List ℕ) → reach most state around (word ++ rest) ≡ reach most state around (w.front ++ (w.rest ++ rest))
parts most state around w rest =
    ap (λ (xs : List ℕ). reach most state around (xs ++ rest)) w.whole
    ∙ ap (reach most state around) (append_assoc w.front w.rest rest)

module _ {most : ℕ} {after : List ℕ → Type 0} where
  -- what holds whatever comes behind holds here
  pub goes_any : {rule : Language} {state state₁ : State} {around around₁ : List Kind} → Goes most Any rule state around state₁ around₁ → Goes most after rule state around state₁ around₁
  goes_any g = record { go = λ word rest w a. g.go word rest w (record {}) }

  -- ---- bytes

  -- no byte: it stays where it is
  pub goes_nothing : {state : State} {around : List Kind} → Goes most after nothing state around state around
  goes_nothing {state} {around} = record { go = λ word rest w a. ap (λ (xs : List ℕ). reach most state around (xs ++ rest)) w }

  -- a byte and then the other bytes of a spelling
  pub goes_spelled :
      {x : ℕ} {xs : List ℕ} {state state₁ state₂ : State} {around around₁ around₂ : List Kind} →
      move_of state around x ≡ to state₁ around₁ → length around₁ ≤ most → Goes most after (spelled xs) state₁ around₁ state₂ around₂ → Goes most after (spelled (x ∷ xs)) state around state₂ around₂
  goes_spelled {x} {xs} {state} {state₁} {state₂} {around} {around₁} {around₂} e l g =
      record {
        go = λ word rest w a.
            ap (λ (ys : List ℕ). reach most state around (ys ++ rest)) w
            ∙ reach_on most state around x (xs ++ rest) state₁ around₁ e l
            ∙ g.go xs rest refl a;
      }

  -- one byte
  pub goes_byte : {x : ℕ} {state state₁ : State} {around around₁ : List Kind} → move_of state around x ≡ to state₁ around₁ → length around₁ ≤ most → Goes most after (byte x) state around state₁ around₁
  goes_byte e l = goes_spelled e l goes_nothing

  -- each byte from the first to the last
  pub goes_range :
      {first last : ℕ} {state state₁ : State} {around around₁ : List Kind} →
      ((c : ℕ) → first ≤ c → c ≤ last → move_of state around c ≡ to state₁ around₁) → length around₁ ≤ most → Goes most after (range first last) state around state₁ around₁
  goes_range {state = state} {state₁} {around} {around₁} e l =
      record {
        go = λ word rest w a.
            ap (λ (ys : List ℕ). reach most state around (ys ++ rest)) w.whole
            ∙ reach_on most state around w.value rest state₁ around₁ (e w.value w.least w.most) l;
      }

  -- ---- one rule or another

  -- if each of them leads there
  pub goes_or :
      {one two : Language} {state state₁ : State} {around around₁ : List Kind} →
      Goes most after one state around state₁ around₁ → Goes most after two state around state₁ around₁ → Goes most after (one or two) state around state₁ around₁
  goes_or {one} {two} {state} {state₁} {around} {around₁} g h = record { go = go }
    where
      go : (word rest : List ℕ) → one word ⊎ two word → after rest → reach most state around (word ++ rest) ≡ reach most state₁ around₁ rest
      go word rest (inl w) a = g.go word rest w a
      go word rest (inr w) a = h.go word rest w a

-- ---- one rule behind another

-- three parts of a word, the first two taken together or the last two
apart : {one two three : Language} {word : List ℕ} → Then (one then two) three word → Then one (two then three) word
apart w =
    record {
      front = w.first.front;
      rest = w.first.rest ++ w.rest;
      whole = w.whole ∙ ap (λ (xs : List ℕ). xs ++ w.rest) w.first.whole ∙ append_assoc w.first.front w.first.rest w.rest;
      first = w.first.first;
      second = record { front = w.first.rest; rest = w.rest; whole = refl; first = w.first.second; second = w.second };
    }

module _ {most : ℕ} {after : List ℕ → Type 0} where
  -- a rule whose words want something behind them, and one that brings it
  pub goes_before :
      {before : List ℕ → Type 0} {one two : Language} {state state₁ state₂ : State} {around around₁ around₂ : List Kind} →
      ((word rest : List ℕ) → two word → after rest → before (word ++ rest)) →
      Goes most before one state around state₁ around₁ → Goes most after two state₁ around₁ state₂ around₂ → Goes most after (one then two) state around state₂ around₂
  goes_before {state = state} {around = around} f g h =
      record {
        go = λ word rest w a.
            parts most state around w rest
            ∙ g.go w.front (w.rest ++ rest) w.first (f w.rest rest w.second a)
            ∙ h.go w.rest rest w.second a;
      }

  -- the first rule wants nothing of what is behind its word
  pub goes_then :
      {one two : Language} {state state₁ state₂ : State} {around around₁ around₂ : List Kind} →
      Goes most Any one state around state₁ around₁ → Goes most after two state₁ around₁ state₂ around₂ → Goes most after (one then two) state around state₂ around₂
  goes_then g h = goes_before (λ word rest w a. record {}) g h

  -- nothing in front
  pub goes_nothing_then : {two : Language} {state state₁ : State} {around around₁ : List Kind} → Goes most after two state around state₁ around₁ → Goes most after (nothing then two) state around state₁ around₁
  goes_nothing_then g = goes_then goes_nothing g

  -- a place that is as good as another, with nothing more read
  pub goes_as :
      {one : Language} {state state₁ state₂ : State} {around around₁ around₂ : List Kind} →
      Goes most Any one state around state₁ around₁ → Goes most after nothing state₁ around₁ state₂ around₂ → Goes most after one state around state₂ around₂
  goes_as g h = record { go = λ word rest w a. g.go word rest w (record {}) ∙ h.go [] rest refl a }

  -- the first two of three rules may be taken together
  pub goes_together :
      {one two three : Language} {state state₁ : State} {around around₁ : List Kind} →
      Goes most after (one then two then three) state around state₁ around₁ → Goes most after ((one then two) then three) state around state₁ around₁
  goes_together g = record { go = λ word rest w a. g.go word rest (apart w) a }

  -- one rule or another in front
  pub goes_or_then :
      {one two three : Language} {state state₁ : State} {around around₁ : List Kind} →
      Goes most after (one then three) state around state₁ around₁ → Goes most after (two then three) state around state₁ around₁ → Goes most after ((one or two) then three) state around state₁ around₁
  goes_or_then {one} {two} {three} {state} {state₁} {around} {around₁} g h = record { go = λ word rest w a. go w.front w.rest w.first w.second word rest w.whole a }
    where
      go :
          (front back : List ℕ) → one front ⊎ two front → three back → (word rest : List ℕ) → word ≡ front ++ back → after rest →
          reach most state around (word ++ rest) ≡ reach most state₁ around₁ rest
      go front back (inl v) u word rest e a = g.go word rest (record { front = front; rest = back; whole = e; first = v; second = u }) a
      go front back (inr v) u word rest e a = h.go word rest (record { front = front; rest = back; whole = e; first = v; second = u }) a

  -- a rule or nothing in front
  pub goes_perhaps_then :
      {one two : Language} {state state₁ : State} {around around₁ : List Kind} →
      Goes most after two state around state₁ around₁ → Goes most after (one then two) state around state₁ around₁ → Goes most after (perhaps one then two) state around state₁ around₁
  goes_perhaps_then g h = goes_or_then (goes_nothing_then g) h

-- ---- a rule any number of times

module _ {most : ℕ} {rule : Language} {state : State} {around : List Kind} (stays : Goes most Any rule state around state around) where
  -- so many of them
  goes_times : (n : ℕ) → Goes most Any (times n rule) state around state around
  goes_times zero = goes_nothing
  goes_times (suc n) = goes_then stays (goes_times n)

  -- if it stays where it is, all of them do
  pub goes_many : Goes most Any (many rule) state around state around
  goes_many = record { go = λ word rest w a. (goes_times w.count).go word rest w.all a }

-- and then another, if so many of them and the other do
pub goes_many_then :
    {most : ℕ} {after : List ℕ → Type 0} {one two : Language} {state state₁ : State} {around around₁ : List Kind} →
    ((n : ℕ) → Goes most after (times n one then two) state around state₁ around₁) → Goes most after (many one then two) state around state₁ around₁
goes_many_then g =
    record {
      go = λ word rest w a.
          (g w.first.count).go word rest (record { front = w.front; rest = w.rest; whole = w.whole; first = w.first.all; second = w.second }) a;
    }
