-- Where a command's parts lie: behind the first two, which take nine bytes.
use mathlib.Core.Path.{◌≡◌, ap, ◌∙◌}
use mathlib.Core.Bool.{Bool, true, false, cond}
use Prim.Native.Nat.{ℕ, ◌+◌}
use mathlib.Core.List.{List, [], ◌∷◌, append-nil}
use native.Mathlib.Omega.{arith}
use lib.ListN.{length, drop, length-append}
use Rattle.frame_message.specs.Frame.{size_bytes, part_bytes, joined}
use Rattle.frame_message.specs.declared.Stretch.{Stretch}
use Rattle.mdp_command.specs.declared.CommandPlaces.{CommandPlaces}
use Rattle.mdp_command.specs.CommandBytes.{mark_of, front_parts}
use Rattle.mdp_command.specs.Places.{places_of}
use Rattle.mdp_command.proofs.Carrying.{Carries, Kind, asks, ready, works, bare}
use Rattle.mdp_command.proofs.Commands.{holding}

-- the two take nine bytes
pub nine : (sender code : ℕ) (rest : List (List ℕ)) → Kind sender code → drop 9 (joined (mark_of sender ∷ (code ∷ []) ∷ rest)) ≡ joined rest
nine sender code rest (asks e k) = rw e
nine sender code rest (ready e k) = rw e
nine sender code rest (works e k) = rw e
nine sender code rest (bare e k) = rw e

pub nine_long : (sender code : ℕ) (rest : List (List ℕ)) → Kind sender code → length (joined (mark_of sender ∷ (code ∷ []) ∷ rest)) ≡ 9 + length (joined rest)
nine_long sender code rest (asks e k) = rw e (omega arith)
nine_long sender code rest (ready e k) = rw e (omega arith)
nine_long sender code rest (works e k) = rw e (omega arith)
nine_long sender code rest (bare e k) = rw e (omega arith)

-- ---- the places, by what a command carries

abbrev pub stretch_of : ℕ → ℕ → Stretch
stretch_of start len = record { start = start; len = len }

abbrev pub places_at : ℕ → ℕ → Stretch → ℕ → Stretch → ℕ → CommandPlaces
places_at sender code name address body parts = record { sender = sender; code = code; name = name; address = address; body = body; parts = parts }

part_long : (p : List ℕ) → length (joined (p ∷ [])) ≡ length (size_bytes (length p)) + length p
part_long p = ap length (append-nil (part_bytes p)) ∙ length-append (size_bytes (length p)) p

module _ (sender code : ℕ) (kind : Kind sender code) where
  pub two_long : length (joined (mark_of sender ∷ (code ∷ []) ∷ [])) ≡ 9
  two_long = nine_long sender code [] kind

  pub three_long : (p : List ℕ) → length (joined (mark_of sender ∷ (code ∷ []) ∷ p ∷ [])) ≡ 9 + length (size_bytes (length p)) + length p
  three_long p = nine_long sender code (p ∷ []) kind ∙ omega (arith, part_long p)

  -- "an address is one route": with the empty part behind it, it takes 39 bytes
  pub four_long : (address : List ℕ) → length address ≡ 37 → length (joined (mark_of sender ∷ (code ∷ []) ∷ address ∷ [] ∷ [])) ≡ 48
  four_long address long =
      let one_byte : length (size_bytes (length address)) ≡ 1 = rw long in
      nine_long sender code (address ∷ [] ∷ []) kind
      ∙ omega (arith, length-append (part_bytes address) (joined ([] ∷ [])), length-append (size_bytes (length address)) address)

  pub named_places : {body : Bool} → Carries sender code true false body → (name : List ℕ) (rest : List (List ℕ)) →
      places_of (holding sender code name [] rest) ≡
      places_at sender code (stretch_of (9 + length (size_bytes (length name))) (length name)) 0 (stretch_of (cond body (9 + length (size_bytes (length name)) + length name) 0) (length (joined rest))) (length rest)
  unfolding places_of front_parts
  named_places k name rest = rw (k.named, k.addressed, k.bodied, two_long, three_long name)

  pub addressed_places : Carries sender code false true true → (address : List ℕ) (rest : List (List ℕ)) → length address ≡ 37 →
      places_of (holding sender code [] address rest) ≡ places_at sender code (stretch_of 0 0) 10 (stretch_of 48 (length (joined rest))) (length rest)
  unfolding places_of front_parts
  addressed_places k address rest long = rw (k.named, k.addressed, k.bodied, two_long, four_long address long, long)

  pub bare_places : Carries sender code false false false → (rest : List (List ℕ)) →
      places_of (holding sender code [] [] rest) ≡ places_at sender code (stretch_of 0 0) 0 (stretch_of 0 (length (joined rest))) (length rest)
  unfolding places_of front_parts
  bare_places k rest = rw (k.named, k.addressed, k.bodied)
