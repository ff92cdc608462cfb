-- What the writer of commands refuses: one law for each way through the check.
use mathlib.Core.Path.{◌≡◌, refl, sym, ap, subst, ◌∙◌}
use mathlib.Core.Bool.{Bool, true, false, cond}
use Prim.Native.Nat.{ℕ, ◌+◌}
use mathlib.Core.List.{List, [], ◌∷◌}
use native.Mathlib.Omega.{arith}
use lib.Dec.{ltb}
use borrow.Author.Tests.{ne_eqb}
use lib.ListN.{length}
use Rattle.bytes_number.specs.Number.{Bytes}
use Rattle.bytes_number.proofs.Truth.{true_false}
use Rattle.refusal.specs.declared.Refusal.TheVariants.{OutputShort, CommandLong, CommandPartWrong, CommandWrong, PartCountWrong, NameWrong, AddressWrong}
use Rattle.refusal.specs.Answer.{Answer, refused, answered, refuse_if, and_then}
use Rattle.std.specs.Prelude.{Result, Ok, Err}
use Rattle.std.specs.Bool.{MatchBool}
use Rattle.refusal.specs.declared.Refusal.{Refusal}
use Rattle.frame_write_check.specs.Working.{fitted}
use Rattle.frame_message.specs.Reading.{parts_in}
use Rattle.frame_message.specs.Working.{written_as}
use Rattle.frame_message.specs.Writing.{is_empty}
use Rattle.frame_forms.specs.Forms.{is_route}
use Rattle.mdp_command.specs.Command.{Command, is_command, has_name, has_address, is_command_name}
use Rattle.mdp_command.specs.CommandBytes.{as_thirty, command_bytes, cut_parts}
use Rattle.mdp_command.specs.CommandWriting.{body_fits, name_fits, address_fits, command_written, Given, command_of, command_into}
use Rattle.mdp_command.proofs.Carrying.{kind_of}
use Rattle.mdp_command.proofs.Commands.{empty_none}
use Rattle.mdp_command.proofs.Cutting.{CutInto, cut_found, cut_split}
use Rattle.mdp_command.proofs.RoundTrip.{bytes-length}
use Rattle.mdp_rules.specs.declared.Carried.{Carried}
use Rattle.mdp_rules.specs.WorkingCarried.{CarriedBy}
use Rattle.mdp_write_check.specs.WorkingChecks.{cut_as, front_length}
use Rattle.mdp_write_check.proofs.Measuring.{front_long, fitted_lem}

-- ---- a body that is cut

never : {r : Refusal} {n : ℕ} → Err r ≡ Ok n → ⊥
never e = let z : true ≡ false = cc in true_false z

pub cut-none : (b : List ℕ) {r : Refusal} → Err r ≡ cut_as (cut_parts b) → (r ≡ CommandPartWrong) × (cut_parts b ≡ refused CommandPartWrong)
unfolding cut_parts
cut-none b {r} e = go (parts_in (length b) b) e
  where
    go : (a : Answer (List (List ℕ))) → Err r ≡ cut_as (as_thirty a) → (r ≡ CommandPartWrong) × (as_thirty a ≡ refused CommandPartWrong)
    go (refused q) e = (cc, refl)
    go (answered ps) e = absurd (never e)

pub cut_whole : (b : List ℕ) {n : ℕ} → Ok n ≡ cut_as (cut_parts b) → CutInto b n
cut_whole b {n} e = go (cut_parts b) refl e
  where
    go : (a : Answer (List (List ℕ))) → cut_parts b ≡ a → Ok n ≡ cut_as a → CutInto b n
    go (refused q) k e = absurd (never (sym e))
    go (answered ps) k e = record { parts = ps; found = cut_found b ps k; cuts = k; counted = cc }

pub cut-told : {b : List ℕ} {n : ℕ} → CutInto b n → Ok n ≡ cut_as (cut_parts b)
cut-told c = rw (c.cuts, c.counted)

-- ---- what is there to be given, and what is not

no_bytes : (xs : List ℕ) → length xs ≡ 0 → is_empty xs ≡ true
no_bytes [] e = refl
no_bytes (x ∷ xs) e = absurd (omega arith)

pub given_is : (right wrong : Bool) {given : Bool} → given ≡ true → cond given right wrong ≡ right
given_is right wrong e = rw e

module _ (xs : List ℕ) (right : Bool) {given : Bool} (none : given ≡ false) where
  pub none_given : length xs ≡ 0 → cond given right (is_empty xs) ≡ true
  none_given e = rw none (no_bytes xs e)

  pub given_none : cond given right (is_empty xs) ≡ true → length xs ≡ 0
  given_none e = ap length (empty_none xs (rw none at e))

pub no_sender : (sender code : ℕ) → (sender ≡ 1 → ⊥) → (sender ≡ 2 → ⊥) → is_command sender code ≡ false
unfolding is_command
no_sender sender code n m = rw (ne_eqb sender 1 n, ne_eqb sender 2 m)

-- what the sender with this number has, by the number
pub carried_of : {m n : ℕ} (code : ℕ) (carried : Carried) → m ≡ n → CarriedBy m code carried → CarriedBy n code carried
carried_of code carried e k = subst (λ (i : ℕ). CarriedBy i code carried) e k

pub unknown_of : {m n : ℕ} (code : ℕ) → m ≡ n → is_command m code ≡ false → is_command n code ≡ false
unknown_of code e k = subst (λ (i : ℕ). is_command i code ≡ false) e k

-- as the one test for both tells it
tested : (xs : List ℕ) (right r : Bool) (given : Bool) → MatchBool given (r ≡ right) (r ≡ is_empty xs) → r ≡ cond given right (is_empty xs)
tested xs right r true e = e
tested xs right r false e = e

pub named_as : (sender code : ℕ) (name : List ℕ) {given r : Bool} → has_name sender code ≡ given → MatchBool given (r ≡ is_command_name name) (r ≡ is_empty name) → name_fits sender code name ≡ r
unfolding name_fits
named_as sender code name {given} {r} e f = rw e (sym (tested name (is_command_name name) r given f))

pub addressed_as : (sender code : ℕ) (address : List ℕ) {given r : Bool} → has_address sender code ≡ given → MatchBool given (r ≡ is_route address) (r ≡ is_empty address) → address_fits sender code address ≡ r
unfolding address_fits
addressed_as sender code address {given} {r} e f = rw e (sym (tested address (is_route address) r given f))

-- ---- 33, 30, 34, 35, 36, and then 31 and 11

module _ (room : ℕ) (g : Given) where
  abbrev Tells : Result ℕ Refusal → Type 0
  Tells r = r ≡ written_as (command_into room g)

  pub check_unknown : is_command g.sender g.code ≡ false → Tells (Err CommandWrong)
  unfolding command_into
  check_unknown e = rw e

  module _ (known : is_command g.sender g.code ≡ true) where
    pub check_malformed : cut_parts g.body ≡ refused CommandPartWrong → Tells (Err CommandPartWrong)
    unfolding command_into
    check_malformed e = rw (known, e)

    module _ {n : ℕ} (c : CutInto g.body n) where
      abbrev command : Command
      command = command_of g c.parts

      -- what is left of the order
      behind : command_into room g ≡ and_then (command_written command) (λ bytes. refuse_if (ltb room (length bytes)) OutputShort (answered bytes))
      unfolding command_into
      behind = rw (known, c.cuts)

      pub check_count : body_fits g.sender g.code n ≡ false → Tells (Err PartCountWrong)
      unfolding command_written
      check_count e = let none : body_fits g.sender g.code (length c.parts) ≡ false = rw c.counted at e in rw (behind, none)

      module _ (fit : body_fits g.sender g.code n ≡ true) where
        fits : body_fits g.sender g.code (length c.parts) ≡ true
        fits = rw c.counted at fit

        pub check_name : name_fits g.sender g.code g.name ≡ false → Tells (Err NameWrong)
        unfolding command_written
        check_name e = rw (behind, fits, e)

        module _ (named : name_fits g.sender g.code g.name ≡ true) where
          pub check_address : address_fits g.sender g.code g.address ≡ false → Tells (Err AddressWrong)
          unfolding command_written
          check_address e = rw (behind, fits, named, e)

          module _ (addressed : address_fits g.sender g.code g.address ≡ true) (bytes : Bytes g.body) where
            long : length (command_bytes command) ≡ front_length (has_name g.sender g.code) (has_address g.sender g.code) (length g.name) + length g.body
            long =
                let front = front_long command (kind_of g.sender g.code known) addressed in
                let body = ap length (cut_split g.body c.parts bytes c.cuts).same in
                bytes-length command ∙ omega (arith, front, body)

            by_length : {m : ℕ} → length (command_bytes command) ≡ m → fitted m 32768 CommandLong room ≡ written_as (command_into room g)
            unfolding command_written
            by_length e = rw (behind, fits, named, addressed, ← e) (fitted_lem room (command_bytes command))

            pub check_measured : {front : ℕ} {r : Result ℕ Refusal} → front ≡ front_length (has_name g.sender g.code) (has_address g.sender g.code) (length g.name) → r ≡ fitted (front + length g.body) 32768 CommandLong room → Tells r
            check_measured e m = m ∙ by_length (long ∙ ap (λ (k : ℕ). k + length g.body) (sym e))
