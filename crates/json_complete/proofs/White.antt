-- White space, and a byte with white space around it.
use mathlib.Core.Path.{◌≡◌, refl}
use mathlib.Core.List.{List}
use Prim.Native.Nat.{ℕ, ◌≤◌}
use lib.ListN.{length}
use Rattle.json_grammar.specs.Language.{byte, ◌then◌}
use Rattle.json_grammar.specs.Json.{ws}
use Rattle.json_scan.specs.Scan.{is_white, Kind, Due, between, to, between_move, move_of}
use Rattle.json_complete.proofs.Goes.{Any, Goes, goes_byte, goes_or, goes_then, goes_many}

-- ---- one byte of white space

blank : (due : Due) (around : List Kind) → move_of (between due) around 32 ≡ to (between due) around
unfolding move_of between_move is_white
blank due around = refl

tab : (due : Due) (around : List Kind) → move_of (between due) around 9 ≡ to (between due) around
unfolding move_of between_move is_white
tab due around = refl

feed : (due : Due) (around : List Kind) → move_of (between due) around 10 ≡ to (between due) around
unfolding move_of between_move is_white
feed due around = refl

return : (due : Due) (around : List Kind) → move_of (between due) around 13 ≡ to (between due) around
unfolding move_of between_move is_white
return due around = refl

-- ---- any number of them

module _ {most : ℕ} where
  -- white space changes nothing
  pub goes_white : {due : Due} {around : List Kind} → length around ≤ most → Goes most Any ws (between due) around (between due) around
  goes_white {due} {around} l = goes_many (goes_or (goes_byte (blank due around) l) (goes_or (goes_byte (tab due around) l) (goes_or (goes_byte (feed due around) l) (goes_byte (return due around) l))))

  -- a byte with white space around it leads where the byte leads
  pub goes_mark :
      {x : ℕ} {due due₁ : Due} {around around₁ : List Kind} →
      move_of (between due) around x ≡ to (between due₁) around₁ → length around ≤ most → length around₁ ≤ most → Goes most Any (ws then byte x then ws) (between due) around (between due₁) around₁
  goes_mark e l l₁ = goes_then (goes_white l) (goes_then (goes_byte e l₁) (goes_white l₁))
