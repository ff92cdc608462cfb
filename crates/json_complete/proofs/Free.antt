-- Bytes that end a number: what follows a value begins with one.
use mathlib.Core.Path.{◌≡◌, refl, ap, subst⁻¹, ◌∙◌}
use mathlib.Core.Bool.{false}
use mathlib.Core.Logic.{◌⊎◌, inl, inr}
use mathlib.Core.List.{List, ◌∷◌, ◌++◌, append_assoc}
use Prim.Native.Nat.{ℕ, zero, suc}
use lib.Dec.{eqb}
use Rattle.json_grammar.specs.Language.{Language, byte, nothing, Then, ◌then◌, ◌or◌, times, many}
use Rattle.json_grammar.specs.Json.{ws}
use Rattle.json_scan.specs.Scan.{is_within, is_digit, is_e, Kind, State, move_of}
use Rattle.json_sound.proofs.Reach.{reach, goes}
use Rattle.json_complete.proofs.Goes.{Goes, goes_before}

-- no digit, no point and no e
pub record Ends (c : ℕ) : Type 0 where
  pub no_digit : is_digit c ≡ false
  pub no_point : eqb c 46 ≡ false
  pub no_e : is_e c ≡ false

-- at least one byte, and the first is such a one
pub record Free (rest : List ℕ) : Type 0 where
  pub first : ℕ
  pub others : List ℕ
  pub whole : rest ≡ first ∷ others
  pub ends : Ends first

-- ---- rules whose words all begin so

pub record Frees (rule : Language) : Type 0 where
  pub frees : (word rest : List ℕ) → rule word → Free (word ++ rest)

-- such a byte
pub frees_byte : {x : ℕ} → Ends x → Frees (byte x)
frees_byte {x} e = record { frees = λ word rest w. record { first = x; others = rest; whole = ap (λ (xs : List ℕ). xs ++ rest) w; ends = e } }

-- one rule or another
pub frees_or : {one two : Language} → Frees one → Frees two → Frees (one or two)
frees_or {one} {two} f g = record { frees = go }
  where
    go : (word rest : List ℕ) → one word ⊎ two word → Free (word ++ rest)
    go word rest (inl w) = f.frees word rest w
    go word rest (inr w) = g.frees word rest w

-- a word in two parts
parts : {one two : Language} {word : List ℕ} (w : Then one two word) (rest : List ℕ) → Free (w.front ++ (w.rest ++ rest)) → Free (word ++ rest)
parts w rest f = subst⁻¹ Free (ap (λ (xs : List ℕ). xs ++ rest) w.whole ∙ append_assoc w.front w.rest rest) f

-- such a rule, and whatever is behind it
pub frees_then : {one two : Language} → Frees one → Frees (one then two)
frees_then f = record { frees = λ word rest w. parts w rest (f.frees w.front (w.rest ++ rest) w.first) }

-- a rule so many times, and then another
pub frees_times_then : {one two : Language} → Frees one → Frees two → (n : ℕ) → Frees (times n one then two)
frees_times_then f g zero = record { frees = λ word rest w. parts w rest (subst⁻¹ (λ (xs : List ℕ). Free (xs ++ (w.rest ++ rest))) w.first (g.frees w.rest rest w.second)) }
frees_times_then f g (suc n) = frees_then (frees_then f)

-- any number of times
pub frees_many_then : {one two : Language} → Frees one → Frees two → Frees (many one then two)
frees_many_then f g =
    record {
      frees = λ word rest w.
          (frees_times_then f g w.first.count).frees word rest (record { front = w.front; rest = w.rest; whole = w.whole; first = w.first.all; second = w.second });
    }

-- ---- white space, the comma and the closing bytes

ends_blank : Ends 32
unfolding is_within
ends_blank = record { no_digit = refl; no_point = refl; no_e = refl }

ends_tab : Ends 9
unfolding is_within
ends_tab = record { no_digit = refl; no_point = refl; no_e = refl }

ends_feed : Ends 10
unfolding is_within
ends_feed = record { no_digit = refl; no_point = refl; no_e = refl }

ends_return : Ends 13
unfolding is_within
ends_return = record { no_digit = refl; no_point = refl; no_e = refl }

pub ends_comma : Ends 44
unfolding is_within
ends_comma = record { no_digit = refl; no_point = refl; no_e = refl }

pub ends_array : Ends 93
unfolding is_within
ends_array = record { no_digit = refl; no_point = refl; no_e = refl }

pub ends_object : Ends 125
unfolding is_within
ends_object = record { no_digit = refl; no_point = refl; no_e = refl }

-- such a byte with white space around it
pub frees_mark : {x : ℕ} → Ends x → Frees (ws then byte x then ws)
frees_mark e = frees_many_then (frees_or (frees_byte ends_blank) (frees_or (frees_byte ends_tab) (frees_or (frees_byte ends_feed) (frees_byte ends_return)))) (frees_then (frees_byte e))

-- ---- what asks for it

-- a rule whose words want such bytes behind them, and one that brings them
pub goes_freed :
    {most : ℕ} {after : List ℕ → Type 0} {one two : Language} {state state₁ state₂ : State} {around around₁ around₂ : List Kind} →
    Frees two → Goes most Free one state around state₁ around₁ → Goes most after two state₁ around₁ state₂ around₂ → Goes most after (one then two) state around state₂ around₂
goes_freed f g h = goes_before (λ word rest w a. f.frees word rest w) g h

-- two places at which one byte leads to the same
same_byte :
    (most : ℕ) (state state₁ : State) (around around₁ : List Kind) (c : ℕ) (cs : List ℕ) → move_of state around c ≡ move_of state₁ around₁ c →
    reach most state around (c ∷ cs) ≡ reach most state₁ around₁ (c ∷ cs)
unfolding reach
same_byte most state state₁ around around₁ c cs e = ap (goes most (λ state₂ around₂. reach most state₂ around₂ cs)) e

-- two places at which every such byte leads to the same
pub goes_ended :
    {most : ℕ} {state state₁ : State} {around around₁ : List Kind} → ((c : ℕ) → Ends c → move_of state around c ≡ move_of state₁ around₁ c) →
    Goes most Free nothing state around state₁ around₁
goes_ended {most} {state} {state₁} {around} {around₁} e =
    record {
      go = λ word rest w f.
          ap (λ (xs : List ℕ). reach most state around (xs ++ rest)) w
          ∙ subst⁻¹ (λ (xs : List ℕ). reach most state around xs ≡ reach most state₁ around₁ xs) f.whole (same_byte most state state₁ around around₁ f.first f.others (e f.first f.ends));
    }
