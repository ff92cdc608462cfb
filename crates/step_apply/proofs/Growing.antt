-- A body with a part more in front: one law for each way that its test ends.
use Rattle.std.specs.Prelude.{Result, Ok, Err}
use mathlib.Core.Path.{◌≡◌, refl, sym, ap, ◌∙◌}
use mathlib.Core.Bool.{Bool, true, false, ◌||◌}
use Prim.Native.Nat.{ℕ, ◌+◌, ◌<◌, ◌≤◌}
use mathlib.Core.List.{List}
use borrow.Author.Tests.{lt-ltb, le-leb, le-ltb, lt-leb}
use lib.Dec.{leb, ltb}
use lib.ListN.{length}
use Rattle.bytes_number.proofs.Truth.{or_neither}
use Rattle.refusal.specs.declared.Refusal.{Refusal}
use Rattle.refusal.specs.declared.Refusal.TheVariants.{OutputShort, ForwardLong}
use Rattle.refusal.specs.Answer.{Answer, refused, answered}
use Rattle.frame_rewrite.specs.WorkingRenewed.{with_part}
use Rattle.step_routing.specs.declared.Stepped.{Stepped}
use Rattle.step_routing.specs.declared.Stepped.TheVariants.{Forwarded}
use Rattle.step_apply.specs.WorkingApply.{grown_to, forward_told, forward_left, AppliesForward}

pub or_right_holds : (a : Bool) {b : Bool} → b ≡ true → (a || b) ≡ true
or_right_holds true e = refl
or_right_holds false e = e

module _ (routes size part room : ℕ) where
  pub grown_many : 64 ≤ routes → grown_to routes size part room ≡ refused ForwardLong
  unfolding grown_to
  grown_many h = rw (le-leb 64 routes h)

  pub grown_long : 32768 < 1 + part + size → grown_to routes size part room ≡ refused ForwardLong
  unfolding grown_to
  grown_long h = rw (or_right_holds (leb 64 routes) (lt-ltb 32768 (1 + part + size) h))

  module _ (few : routes < 64) (short : 1 + part + size ≤ 32768) where
    small : (leb 64 routes || ltb 32768 (1 + part + size)) ≡ false
    small = or_neither (leb 64 routes) (ltb 32768 (1 + part + size)) (lt-leb 64 routes few) (le-ltb 32768 (1 + part + size) short)

    pub grown_tight : room < 9 + part + size → grown_to routes size part room ≡ refused OutputShort
    unfolding grown_to
    grown_tight h = rw (small, lt-ltb room (9 + part + size) h)

    pub grown_fits : 9 + part + size ≤ room → grown_to routes size part room ≡ answered (1 + part + size)
    unfolding grown_to
    grown_fits h = rw (small, le-ltb room (9 + part + size) h)

-- ---- how forwarding ends

-- by any answer that is known
forwards : {routes size next : ℕ} {identity buffer left : List ℕ} {r : Result Stepped Refusal} {a : Answer ℕ} →
    grown_to routes size (length identity) (length buffer) ≡ a → r ≡ forward_told next a → left ≡ forward_left identity size buffer a → AppliesForward routes size identity next buffer r left
forwards {size = size} {next = next} {identity = identity} {buffer = buffer} is told left =
    record { told = told ∙ sym (ap (forward_told next) is); leaves = left ∙ sym (ap (forward_left identity size buffer) is) }

-- by a refusal, which changes no byte
pub forwards_not : {routes size next : ℕ} {identity buffer : List ℕ} {q : Refusal} → grown_to routes size (length identity) (length buffer) ≡ refused q → AppliesForward routes size identity next buffer (Err q) buffer
forwards_not is = forwards is refl refl

-- by a part that is put in front of a body of n bytes, which is the body
pub forwards_on : (n : ℕ) {routes size next grown : ℕ} {identity buffer left : List ℕ} → n ≡ size → grown_to routes size (length identity) (length buffer) ≡ answered grown → left ≡ with_part identity n buffer →
    AppliesForward routes size identity next buffer (Ok (Forwarded next)) left
forwards_on n {identity = identity} {buffer = buffer} e is left = forwards is refl (left ∙ ap (λ (k : ℕ). with_part identity k buffer) e)
