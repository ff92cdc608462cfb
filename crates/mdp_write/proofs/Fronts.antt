-- The parts in front of a command's body: what all of them have room for has room for each.
use mathlib.Core.Path.{◌≡◌, sym, ◌∙◌}
use mathlib.Core.Bool.{Bool, true}
use Prim.Native.Nat.{ℕ, ◌≤◌}
use mathlib.Core.List.{List, [], ◌∷◌, ◌++◌, append-nil, append_assoc}
use native.Mathlib.Omega.{arith}
use lib.ListN.{length, length-append}
use borrow.Author.Tests.{ne_eqb}
use Rattle.frame_message.specs.Frame.{part_bytes, joined, part_if}
use Rattle.frame_message.proofs.Parts.{joined-append}
use Rattle.mdp_command.specs.Command.{client_mark, worker_mark, has_name, has_address}
use Rattle.mdp_command.specs.CommandBytes.{mark_of, address_parts, front_parts}
use Rattle.mdp_write.specs.WorkingFront.{front_of}

-- bytes that fit with others behind them fit
pub fore_fits : (w x : List ℕ) {n : ℕ} → length (w ++ x) ≤ n → length w ≤ n
fore_fits w x h = omega (arith, length-append w x)

-- nothing behind them changes nothing
pub no_more : (w x : List ℕ) → length x ≤ 0 → w ≡ w ++ x
no_more w [] h = sym (append-nil w)
no_more w (b ∷ x) h = absurd (omega arith)

-- each of these where it is there
module _ {given : Bool} where
  pub name_part : (p : List ℕ) → given ≡ true → joined (part_if given p) ≡ part_bytes p
  name_part p e = rw e (append-nil (part_bytes p))

  pub address_part : (p : List ℕ) → given ≡ true → joined (address_parts given p) ≡ part_bytes p ++ (0 ∷ [])
  address_part p e = rw e

pub client_mark_lem : (sender : ℕ) → sender ≡ 1 → client_mark ≡ mark_of sender
client_mark_lem sender e = rw e

pub worker_mark_lem : (sender : ℕ) → (sender ≡ 1 → ⊥) → worker_mark ≡ mark_of sender
worker_mark_lem sender n = rw (ne_eqb sender 1 n)

-- ---- the four, one behind the other

module _ (sender code : ℕ) (name address : List ℕ) {n a : Bool} (en : n ≡ has_name sender code) (ea : a ≡ has_address sender code) where
  abbrev mark : List ℕ
  mark = part_bytes (mark_of sender)

  abbrev coded : List ℕ
  coded = mark ++ part_bytes (code ∷ [])

  abbrev named : List ℕ
  named = coded ++ joined (part_if n name)

  abbrev addressed : List ℕ
  addressed = named ++ joined (address_parts a address)

  pub front_bytes : joined (front_of sender code name address) ≡ addressed
  unfolding front_parts
  front_bytes =
      rw (← en, ← ea, joined-append (part_if n name) (address_parts a address))
      (sym (append_assoc (mark ++ part_bytes (code ∷ [])) (joined (part_if n name)) (joined (address_parts a address)) ∙ append_assoc mark (part_bytes (code ∷ [])) (joined (part_if n name) ++ joined (address_parts a address))))

  module _ {room : ℕ} (h : length (joined (front_of sender code name address)) ≤ room) where
    pub address_room : length addressed ≤ room
    address_room = rw front_bytes at h

    pub name_room : length named ≤ room
    name_room = fore_fits named (joined (address_parts a address)) address_room

    pub code_room : length coded ≤ room
    code_room = fore_fits coded (joined (part_if n name)) name_room

    pub mark_room : length mark ≤ room
    mark_room = fore_fits mark (part_bytes (code ∷ [])) code_room
