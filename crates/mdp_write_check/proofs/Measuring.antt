-- How long a command is that will be written.
use mathlib.Core.Path.{◌≡◌, refl, sym}
use mathlib.Core.Bool.{Bool, true, false, cond, ◌&&◌}
use Prim.Native.Nat.{ℕ, ◌+◌, ◌<◌, ◌≤◌}
use mathlib.Core.List.{List, [], ◌∷◌}
use native.Mathlib.Omega.{arith}
use lib.Dec.{ltb, leb}
use lib.ListN.{length}
use borrow.Author.Tests.{lt-ltb, le-ltb, leb-true}
use Rattle.bytes_number.proofs.Truth.{and_left, and_right, true_false}
use Rattle.refusal.specs.declared.Refusal.TheVariants.{CommandLong, OutputShort}
use Rattle.bytes_number.specs.Number.{four}
use Rattle.std.specs.Prelude.{Ok, Err}
use Rattle.refusal.specs.Answer.{answered, refuse_if, and_then, result_of}
use Rattle.frame_write_check.specs.Working.{fitted}
use Rattle.frame_message.specs.Frame.{size_bytes, joined}
use Rattle.frame_message.specs.Working.{written_as}
use Rattle.frame_message.specs.Writing.{is_empty}
use Rattle.frame_message.proofs.Forms.{route_length_lem}
use Rattle.mdp_command.specs.Command.{Command, has_name, has_address, is_command_name, all_printable}
use Rattle.mdp_command.specs.CommandBytes.{front_parts}
use Rattle.mdp_command.specs.CommandWriting.{name_fits, address_fits}
use Rattle.mdp_command.proofs.Carrying.{Carries, Kind, asks, ready, works, bare}
use Rattle.mdp_command.proofs.Commands.{fits_address}
use Rattle.mdp_command.proofs.Placing.{two_long, three_long, four_long}
use Rattle.mdp_write_check.specs.WorkingChecks.{front_length}

-- ---- the bytes in front of the body

name_most : (name : List ℕ) → is_command_name name ≡ true → length name ≤ 255
unfolding is_command_name
name_most name e =
    leb-true (length name) 255 (and_right (leb 1 (length name)) (leb (length name) 255) (and_left (leb 1 (length name) && leb (length name) 255) (all_printable name) e))

-- a name that fits is short, also where there is to be none
pub name_short : (sender code : ℕ) (name : List ℕ) → name_fits sender code name ≡ true → length name ≤ 255
unfolding name_fits
name_short sender code name e = go (has_name sender code) name e
  where
    go : (t : Bool) (xs : List ℕ) → cond t (is_command_name xs) (is_empty xs) ≡ true → length xs ≤ 255
    go true xs e = name_most xs e
    go false [] e = omega arith
    go false (x ∷ xs) e = absurd (true_false (sym e))

module _ (c : Command) (kind : Kind c.sender c.code) where
  named_front : {body : Bool} → Carries c.sender c.code true false body → length (joined (front_parts c)) ≡ front_length (has_name c.sender c.code) (has_address c.sender c.code) (length c.name)
  unfolding front_parts
  named_front k = rw (k.named, k.addressed) (three_long c.sender c.code kind c.name)

  front_kind : Kind c.sender c.code → address_fits c.sender c.code c.address ≡ true →
      length (joined (front_parts c)) ≡ front_length (has_name c.sender c.code) (has_address c.sender c.code) (length c.name)
  unfolding front_parts
  front_kind (asks e k) a = named_front k
  front_kind (ready e k) a = named_front k
  front_kind (works e k) a = rw (k.named, k.addressed) (four_long c.sender c.code kind c.address (route_length_lem c.address (fits_address c.sender c.code c.address k.addressed a)))
  front_kind (bare e k) a = rw (k.named, k.addressed) (two_long c.sender c.code kind)

  pub front_long : address_fits c.sender c.code c.address ≡ true → length (joined (front_parts c)) ≡ front_length (has_name c.sender c.code) (has_address c.sender c.code) (length c.name)
  front_long a = front_kind kind a

size_most : (n : ℕ) → length (size_bytes n) ≤ 5
size_most n = go (ltb n 255)
  where
    go : (t : Bool) → length (cond t (n ∷ []) (255 ∷ four n)) ≤ 5
    go true = omega arith
    go false = omega arith

pub front_most : (name address : Bool) (n : ℕ) → n ≤ 255 → front_length name address n ≤ 269
front_most true address n h = omega (arith, size_most n)
front_most false true n h = omega arith
front_most false false n h = omega arith

-- by what it carries
module _ {name : Bool} (address : Bool) (n : ℕ) where
  pub front_short_name : name ≡ true → n < 255 → 9 + 1 + n ≡ front_length name address n
  front_short_name e h = rw (e, lt-ltb n 255 h) (omega arith)

  pub front_long_name : name ≡ true → 255 ≤ n → 9 + 5 + n ≡ front_length name address n
  front_long_name e h = rw (e, le-ltb n 255 h) (omega arith)

  pub front_address : name ≡ false → address ≡ true → 48 ≡ front_length name address n
  front_address e f = rw (e, f)

  pub front_bare : name ≡ false → address ≡ false → 9 ≡ front_length name address n
  front_bare e f = rw (e, f)

-- ---- 31 and 11

module _ (room n : ℕ) where
  pub measured_long : 32768 < n → Err CommandLong ≡ fitted n 32768 CommandLong room
  measured_long h = rw (lt-ltb 32768 n h)

  pub measured_room : n ≤ 32768 → room < n → Err OutputShort ≡ fitted n 32768 CommandLong room
  measured_room h k = rw (le-ltb 32768 n h, lt-ltb room n k)

  pub measured_fits : n ≤ 32768 → n ≤ room → Ok n ≡ fitted n 32768 CommandLong room
  measured_fits h k = rw (le-ltb 32768 n h, le-ltb room n k)

-- what is told of a command's bytes
pub fitted_lem : (room : ℕ) (xs : List ℕ) →
    fitted (length xs) 32768 CommandLong room ≡ written_as (and_then (refuse_if (ltb 32768 (length xs)) CommandLong (answered xs)) (λ bytes. refuse_if (ltb room (length bytes)) OutputShort (answered bytes)))
fitted_lem room xs = go (ltb 32768 (length xs))
  where
    fits : (q : Bool) → result_of (λ (m : ℕ). m) (refuse_if q OutputShort (answered (length xs))) ≡ written_as (refuse_if q OutputShort (answered xs))
    fits true = refl
    fits false = refl

    go : (p : Bool) → result_of (λ (m : ℕ). m) (refuse_if p CommandLong (refuse_if (ltb room (length xs)) OutputShort (answered (length xs)))) ≡
        written_as (and_then (refuse_if p CommandLong (answered xs)) (λ bytes. refuse_if (ltb room (length bytes)) OutputShort (answered bytes)))
    go true = refl
    go false = fits (ltb room (length xs))
