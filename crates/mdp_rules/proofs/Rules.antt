-- Which commands there are and what they carry: the tests of the definitions, and what the code tells.
use mathlib.Core.Path.{◌≡◌, refl, sym, ap, ◌∙◌}
use mathlib.Core.Bool.{Bool, true, false, cond, ◌&&◌, ◌||◌}
use Prim.Native.Nat.{ℕ, ◌<◌, ◌≤◌}
use lib.Dec.{eqb, leb}
use borrow.Author.Tests.{ne_eqb, le-leb, lt-leb, leb-true}
use Rattle.bytes_number.proofs.Truth.{true_false, and_right}
use Rattle.mdp_command.specs.Command.{is_command, is_ready, is_work, has_name, has_address, has_body}
use Rattle.mdp_command.specs.CommandWriting.{body_fits}
use Rattle.mdp_command.proofs.Carrying.{Carries}
use Rattle.mdp_rules.specs.declared.Carried.{Carried}
use Rattle.mdp_rules.specs.declared.Carried.TheVariants.{NameAndBody, Name, AddressAndBody, Nothing}
use Rattle.mdp_rules.specs.declared.Contents.{Contents}
use Rattle.mdp_rules.specs.WorkingCarried.{named, addressed, bodied, CarriedBy, carried_by}

-- ---- which there are

-- what is left of the test, for each sender
within : (code most : ℕ) → (leb 1 code && leb code most) ≡ true → code ≤ most
within code most e = leb-true code most (and_right (leb 1 code) (leb code most) e)

or_none : (t : Bool) → (t || false) ≡ t
or_none true = refl
or_none false = refl

module _ (sender code : ℕ) where
  pub no_command : code < 1 → is_command sender code ≡ false
  unfolding is_command
  no_command h = go (eqb sender 1) (eqb sender 2)
    where
      go : (p q : Bool) → ((p && (leb 1 code && leb code 3)) || (q && (leb 1 code && leb code 6))) ≡ false
      go true true = rw (lt-leb 1 code h)
      go true false = rw (lt-leb 1 code h)
      go false true = rw (lt-leb 1 code h)
      go false false = refl

  client_tests : sender ≡ 1 → is_command sender code ≡ (leb 1 code && leb code 3)
  unfolding is_command
  client_tests e = rw e (or_none (leb 1 code && leb code 3))

  worker_tests : sender ≡ 2 → is_command sender code ≡ (leb 1 code && leb code 6)
  unfolding is_command
  worker_tests e = rw e

  pub client_most : sender ≡ 1 → is_command sender code ≡ true → code ≤ 3
  client_most e known = within code 3 (rw (client_tests e) at known)

  pub client_command : sender ≡ 1 → 1 ≤ code → code ≤ 3 → is_command sender code ≡ true
  client_command e low high = rw (client_tests e, le-leb 1 code low, le-leb code 3 high)

  pub worker_most : sender ≡ 2 → is_command sender code ≡ true → code ≤ 6
  worker_most e known = within code 6 (rw (worker_tests e) at known)

  pub worker_command : sender ≡ 2 → 1 ≤ code → code ≤ 6 → is_command sender code ≡ true
  worker_command e low high = rw (worker_tests e, le-leb 1 code low, le-leb code 6 high)

  -- of a number that is not 0
  pub client_known : sender ≡ 1 → 1 ≤ code → leb code 3 ≡ is_command sender code
  client_known e low = rw (client_tests e, le-leb 1 code low)

  pub worker_known : sender ≡ 2 → 1 ≤ code → leb code 6 ≡ is_command sender code
  worker_known e low = rw (worker_tests e, le-leb 1 code low)

  pub no_sender : (sender ≡ 1 → ⊥) → (sender ≡ 2 → ⊥) → is_command sender code ≡ false
  unfolding is_command
  no_sender n m = rw (ne_eqb sender 1 n, ne_eqb sender 2 m)

  -- ---- what they carry

  abbrev carrying : Bool → Bool → Bool → Contents
  carrying name address body = record { name = name; address = address; body = body }

  pub client_carries : sender ≡ 1 → carrying true false true ≡ carried_by sender code
  unfolding carried_by has_name has_address has_body
  client_carries e = rw e

  pub worker_carries : sender ≡ 2 → {ready work : Bool} → ready ≡ is_ready code → work ≡ is_work code → carrying ready work work ≡ carried_by sender code
  unfolding carried_by has_name has_address has_body
  worker_carries e r w = rw (e, r, w)

  pub nobody_carries : (sender ≡ 1 → ⊥) → (sender ≡ 2 → ⊥) → {ready work : Bool} → ready ≡ is_ready code → work ≡ is_work code → carrying ready false work ≡ carried_by sender code
  unfolding carried_by has_name has_address has_body
  nobody_carries n m r w = rw (ne_eqb sender 1 n, ne_eqb sender 2 m, r, w)

-- ---- how many parts its body has

abbrev fits : Bool → ℕ → Bool
fits body parts = cond body (leb 1 parts && leb parts 16) (eqb parts 0)

module _ (parts : ℕ) {body : Bool} where
  pub body_none : body ≡ true → parts < 1 → fits body parts ≡ false
  body_none e h = rw (e, lt-leb 1 parts h)

  pub body_some : body ≡ true → 1 ≤ parts → parts ≤ 16 → fits body parts ≡ true
  body_some e h k = rw (e, le-leb 1 parts h, le-leb parts 16 k)

  pub body_most : body ≡ true → fits body parts ≡ true → parts ≤ 16
  body_most e f = within parts 16 (rw e at f)

  pub no_body : body ≡ false → fits body parts ≡ eqb parts 0
  no_body e = rw e

-- the number of body parts, by the code's test of it
pub fits_as : (sender code parts : ℕ) {body r : Bool} → has_body sender code ≡ body → r ≡ cond body (leb 1 parts && leb parts 16) (eqb parts 0) → body_fits sender code parts ≡ r
unfolding body_fits
fits_as sender code parts e f = rw (e, f)

-- ---- a worker's work

module _ (code : ℕ) where
  pub work_low : code < 2 → is_work code ≡ false
  work_low h = rw (lt-leb 2 code h)

  pub work_some : 2 ≤ code → code ≤ 4 → is_work code ≡ true
  work_some h k = rw (le-leb 2 code h, le-leb code 4 k)

  pub work_most : is_work code ≡ true → code ≤ 4
  work_most e = leb-true code 4 (and_right (leb 2 code) (leb code 4) e)

-- ---- the three, one by one

module _ (sender code : ℕ) {x : Contents} (e : x ≡ carried_by sender code) where
  pub carried_name : x.name ≡ has_name sender code
  unfolding carried_by
  carried_name = ap (λ (y : Contents). y.name) e

  pub carried_address : x.address ≡ has_address sender code
  unfolding carried_by
  carried_address = ap (λ (y : Contents). y.address) e

  pub carried_body : x.body ≡ has_body sender code
  unfolding carried_by
  carried_body = ap (λ (y : Contents). y.body) e

-- ---- what it carries, as the laws of the commands have it

module _ (sender code : ℕ) where
  pub with_name : (carried : Carried) → CarriedBy sender code carried → named carried ≡ true → Carries sender code true false (has_body sender code)
  with_name NameAndBody k e = record { named = k.1; addressed = k.2; bodied = refl }
  with_name Name k e = record { named = k.1; addressed = k.2; bodied = refl }
  with_name AddressAndBody k e = absurd (true_false (sym e))
  with_name Nothing k e = absurd (true_false (sym e))

  pub with_address : {carried : Carried} → CarriedBy sender code carried → carried ≡ AddressAndBody → Carries sender code false true true
  with_address k e = record { named = k.1 ∙ ap named e; addressed = k.2 ∙ ap addressed e; bodied = k.3 ∙ ap bodied e }

  pub with_nothing : {carried : Carried} → CarriedBy sender code carried → carried ≡ Nothing → Carries sender code false false false
  with_nothing k e = record { named = k.1 ∙ ap named e; addressed = k.2 ∙ ap addressed e; bodied = k.3 ∙ ap bodied e }
