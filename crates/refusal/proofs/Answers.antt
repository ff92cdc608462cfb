-- What an answer tells of the tests in front of it; how large the numbers of refusals are.
use mathlib.Core.Path.{◌≡◌, refl}
use mathlib.Core.Bool.{Bool, true, false}
use Prim.Native.Nat.{◌<◌, ◌≤◌}
use native.Mathlib.Omega.{arith}
use Rattle.bytes_number.proofs.Truth.{true_false}
use Rattle.refusal.specs.declared.Refusal.{Refusal}
use Rattle.refusal.specs.declared.Refusal.TheVariants.{InputShort, StartWrong, BodyLong, PartWrong, PartsMany, HeaderWrong, PartsDisagree, RouteWrong, TopicWrong, FieldWrong, OutputShort, ForwardLong, TreeWrong, ServicesWrong, IdentitiesWrong, RankWrong, NotRouted, NoNeighbour, MagicWrong, VersionWrong, TypeWrong, FlagWrong, JsonDeep}
use Rattle.refusal.specs.declared.Refusal.TheVariants.{CommandPartWrong, CommandLong, MarkWrong, CommandWrong, PartCountWrong, NameWrong, AddressWrong, SeparatorWrong}
use Rattle.refusal.specs.Refusals.{number_of}
use Rattle.refusal.specs.Answer.{Answer, refused, answered, refuse_if, and_then}

-- ---- refusals

pub number-range : (r : Refusal) → (1 ≤ number_of r) × (number_of r < 256)
number-range InputShort = (omega arith, omega arith)
number-range StartWrong = (omega arith, omega arith)
number-range BodyLong = (omega arith, omega arith)
number-range PartWrong = (omega arith, omega arith)
number-range PartsMany = (omega arith, omega arith)
number-range HeaderWrong = (omega arith, omega arith)
number-range PartsDisagree = (omega arith, omega arith)
number-range RouteWrong = (omega arith, omega arith)
number-range TopicWrong = (omega arith, omega arith)
number-range FieldWrong = (omega arith, omega arith)
number-range OutputShort = (omega arith, omega arith)
number-range ForwardLong = (omega arith, omega arith)
number-range TreeWrong = (omega arith, omega arith)
number-range ServicesWrong = (omega arith, omega arith)
number-range IdentitiesWrong = (omega arith, omega arith)
number-range RankWrong = (omega arith, omega arith)
number-range NotRouted = (omega arith, omega arith)
number-range NoNeighbour = (omega arith, omega arith)
number-range MagicWrong = (omega arith, omega arith)
number-range VersionWrong = (omega arith, omega arith)
number-range TypeWrong = (omega arith, omega arith)
number-range FlagWrong = (omega arith, omega arith)
number-range JsonDeep = (omega arith, omega arith)
number-range CommandPartWrong = (omega arith, omega arith)
number-range CommandLong = (omega arith, omega arith)
number-range MarkWrong = (omega arith, omega arith)
number-range CommandWrong = (omega arith, omega arith)
number-range PartCountWrong = (omega arith, omega arith)
number-range NameWrong = (omega arith, omega arith)
number-range AddressWrong = (omega arith, omega arith)
number-range SeparatorWrong = (omega arith, omega arith)

-- 0 is no refusal's number
pub some_number : (r : Refusal) → number_of r ≡ 0 → ⊥
some_number r e = omega (arith, (number-range r).0)

-- ---- answers

pub answered_same : {A : Type 0} {x y : A} → answered x ≡ answered y → x ≡ y
answered_same e = cc

pub refused_same : {A : Type 0} {r s : Refusal} → ◌≡◌ {A = Answer A} (refused r) (refused s) → r ≡ s
refused_same e = cc

pub not_answered : {A : Type 0} {r : Refusal} {x : A} → refused r ≡ answered x → ⊥
not_answered e = let z : true ≡ false = cc in true_false z

-- a test that did not refuse failed, and the answer is that of what comes next
pub record Passed {A : Type 0} (t : Bool) (next : Answer A) (x : A) : Type 0 where
  pub test : t ≡ false
  pub rest : next ≡ answered x

pub passed : {A : Type 0} (t : Bool) (r : Refusal) (next : Answer A) (x : A) → refuse_if t r next ≡ answered x → Passed t next x
passed true r next x e = absurd (not_answered e)
passed false r next x e = record { test = refl; rest = e }

-- the other way
pub pass : {A : Type 0} (t : Bool) (r : Refusal) (next : Answer A) → t ≡ false → refuse_if t r next ≡ next
pass true r next e = absurd (true_false e)
pass false r next e = refl

-- a refusal is that of the test, which then holds, or comes of what is next
pub data Refuses {A : Type 0} (t : Bool) (q : Refusal) (next : Answer A) (r : Refusal) : Type 0 where
  here : t ≡ true → q ≡ r → Refuses t q next r
  later : t ≡ false → next ≡ refused r → Refuses t q next r

pub refuses : {A : Type 0} (t : Bool) (q : Refusal) (next : Answer A) (r : Refusal) → refuse_if t q next ≡ refused r → Refuses t q next r
refuses true q next r e = here refl (refused_same e)
refuses false q next r e = later refl e

-- where an answer came of two, each gave one
pub record Both {A B : Type 0} (a : Answer A) (f : A → Answer B) (y : B) : Type 0 where
  pub value : A
  pub first : a ≡ answered value
  pub second : f value ≡ answered y

pub both : {A B : Type 0} (a : Answer A) (f : A → Answer B) (y : B) → and_then a f ≡ answered y → Both a f y
both (refused r) f y e = absurd (not_answered e)
both (answered x) f y e = record { value = x; first = refl; second = e }
