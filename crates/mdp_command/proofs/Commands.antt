-- A command and its parts: `command_judged` makes of the parts of a command that command, and of any other parts nothing.
use mathlib.Core.Path.{◌≡◌, refl, sym, ap, ap₂, subst, ◌∙◌}
use Prim.Native.Nat.{ℕ, ◌≤◌}
use mathlib.Core.Bool.{Bool, true, false, cond, not, ◌&&◌, ◌||◌}
use mathlib.Core.List.{List, [], ◌∷◌}
use native.Mathlib.Omega.{arith}
use borrow.Author.Tests.{eqb-false, ltb-false, le-ltb, le-leb, lt-leb, not-false, ne_eqb}
use lib.Dec.{eqb, leb}
use lib.ListN.{length, get_or, drop}
use Rattle.bytes_number.proofs.Truth.{true_false}
use Rattle.refusal.specs.declared.Refusal.TheVariants.{PartCountWrong, NameWrong, AddressWrong, SeparatorWrong}
use Rattle.refusal.specs.Answer.{refused, answered, refuse_if}
use Rattle.frame_forms.specs.Forms.{is_route}
use Rattle.refusal.proofs.Answers.{passed, answered_same, not_answered}
use Rattle.frame_message.specs.Writing.{is_empty}
use Rattle.table_records.specs.Bytes.{same_bytes}
use Rattle.table_records.proofs.Bytes.{same_equal}
use Rattle.mdp_command.specs.Command.{Command, client_mark, worker_mark, is_command, has_name, has_address, is_command_name}
use Rattle.mdp_command.specs.CommandBytes.{mark_of, front_parts, command_parts, command_bytes}
use Rattle.mdp_command.specs.CommandWriting.{body_fits, name_fits, address_fits, command_written}
use Rattle.mdp_command.specs.CommandReading.{sender_of, code_of, command_in, command_as, command_judged}
use Rattle.mdp_command.proofs.Carrying.{Carries, Kind, asks, ready, works, bare, kind_of}

-- ---- what the writer's answer tells, 33 to 36 and 31

pub record Passes (c : Command) : Type 0 where
  pub body : body_fits c.sender c.code (length c.body) ≡ true
  pub name : name_fits c.sender c.code c.name ≡ true
  pub address : address_fits c.sender c.code c.address ≡ true

pub record Written (c : Command) (bytes : List ℕ) : Type 0 where
  pub passes : Passes c
  pub short : length (command_bytes c) ≤ 32768
  pub same : command_bytes c ≡ bytes

pub written : (c : Command) (bytes : List ℕ) → command_written c ≡ answered bytes → Written c bytes
unfolding command_written
written c bytes e =
    let p₁ = passed _ _ _ _ e in
    let p₂ = passed _ _ _ _ p₁.rest in
    let p₃ = passed _ _ _ _ p₂.rest in
    let p₄ = passed _ _ _ _ p₃.rest in
    record {
      passes = record { body = not-false _ p₁.test; name = not-false _ p₂.test; address = not-false _ p₃.test };
      short = ltb-false 32768 _ p₄.test;
      same = answered_same p₄.rest;
    }

pub write : (c : Command) → Passes c → length (command_bytes c) ≤ 32768 → command_written c ≡ answered (command_bytes c)
unfolding command_written
write c p short = rw (p.body, p.name, p.address, le-ltb 32768 (length (command_bytes c)) short)

-- ---- the first two parts

pub mark_sender : (sender code : ℕ) → Kind sender code → sender_of (mark_of sender) ≡ sender
unfolding sender_of same_bytes
mark_sender sender code (asks e c) = rw e
mark_sender sender code (ready e c) = rw e
mark_sender sender code (works e c) = rw e
mark_sender sender code (bare e c) = rw e

pub sender_mark : (p : List ℕ) → (sender_of p ≡ 0 → ⊥) → p ≡ mark_of (sender_of p)
unfolding sender_of
sender_mark p some = go (same_bytes p client_mark) (same_bytes p worker_mark) refl refl
  where
    go : (s t : Bool) → same_bytes p client_mark ≡ s → same_bytes p worker_mark ≡ t → p ≡ mark_of (sender_of p)
    go true t a b = rw a (same_equal p client_mark a)
    go false true a b = rw (a, b) (same_equal p worker_mark b)
    go false false a b = absurd (some (rw (a, b)))

pub part_code : (p : List ℕ) → (code_of p ≡ 0 → ⊥) → p ≡ code_of p ∷ []
unfolding code_of
part_code [] some = absurd (some refl)
part_code (x ∷ []) some = refl
part_code (x ∷ y ∷ p) some = absurd (some (rw (ne_eqb (length (x ∷ y ∷ p)) 1 (λ e. omega arith))))

-- no sender has a command 0, so that what was judged has its two first parts
pub no_zero_lem : (sender : ℕ) → is_command sender 0 ≡ true → ⊥
unfolding is_command
no_zero_lem sender e = go (eqb sender 1) (eqb sender 2) e
  where
    go : (p q : Bool) → ((p && (leb 1 0 && leb 0 3)) || (q && (leb 1 0 && leb 0 6))) ≡ true → ⊥
    go true true e = true_false (sym e)
    go true false e = true_false (sym e)
    go false true e = true_false (sym e)
    go false false e = true_false (sym e)

-- ---- from a command to its parts and back

pub empty_none : (xs : List ℕ) → is_empty xs ≡ true → xs ≡ []
empty_none [] e = refl
empty_none (x ∷ xs) e = absurd (true_false (sym e))

-- the parts of a command, by its kind
abbrev pub opening : Command → List (List ℕ) → List (List ℕ)
opening c rest = mark_of c.sender ∷ (c.code ∷ []) ∷ rest

module _ (c : Command) where
  pub named_parts : {body : Bool} → Carries c.sender c.code true false body → command_parts c ≡ opening c (c.name ∷ c.body)
  unfolding command_parts front_parts
  named_parts k = rw (k.named, k.addressed)

  pub addressed_parts : Carries c.sender c.code false true true → command_parts c ≡ opening c (c.address ∷ [] ∷ c.body)
  unfolding command_parts front_parts
  addressed_parts k = rw (k.named, k.addressed)

  pub bare_parts : Carries c.sender c.code false false false → command_parts c ≡ opening c c.body
  unfolding command_parts front_parts
  bare_parts k = rw (k.named, k.addressed)

-- ---- what is judged of the parts, by the kind

module _ (sender code : ℕ) where
  -- a command that carries this
  abbrev pub holding : List ℕ → List ℕ → List (List ℕ) → Command
  holding name address body = record { sender = sender; code = code; name = name; address = address; body = body }

  module _ {body : Bool} (k : Carries sender code true false body) where
    pub named_short : (p q : List ℕ) → command_as sender code (p ∷ q ∷ []) ≡ refused PartCountWrong
    unfolding command_as front_parts
    named_short p q = rw (k.named, k.addressed)

    pub named_judged : (p q name : List ℕ) (rest : List (List ℕ)) → command_as sender code (p ∷ q ∷ name ∷ rest) ≡
        refuse_if (not (body_fits sender code (length rest))) PartCountWrong (refuse_if (not (is_command_name name)) NameWrong (answered (holding name [] rest)))
    unfolding command_as command_in front_parts name_fits address_fits
    named_judged p q name rest = rw (k.named, k.addressed, le-leb 3 (length (p ∷ q ∷ name ∷ rest)) (omega arith))

  module _ (k : Carries sender code false true true) where
    pub addressed_short : (p q : List ℕ) (ps : List (List ℕ)) → length ps ≤ 1 → command_as sender code (p ∷ q ∷ ps) ≡ refused PartCountWrong
    unfolding command_as front_parts
    addressed_short p q ps h = rw (k.named, k.addressed, lt-leb 4 (length (p ∷ q ∷ ps)) (omega arith))

    pub addressed_judged : (p q address gap : List ℕ) (rest : List (List ℕ)) → command_as sender code (p ∷ q ∷ address ∷ gap ∷ rest) ≡
        refuse_if (not (body_fits sender code (length rest))) PartCountWrong
        (refuse_if (not (is_route address)) AddressWrong (refuse_if (not (is_empty gap)) SeparatorWrong (answered (holding [] address rest))))
    unfolding command_as command_in front_parts name_fits address_fits
    addressed_judged p q address gap rest = rw (k.named, k.addressed, le-leb 4 (length (p ∷ q ∷ address ∷ gap ∷ rest)) (omega arith))

  module _ (k : Carries sender code false false false) where
    pub bare_judged : (p q : List ℕ) (rest : List (List ℕ)) → command_as sender code (p ∷ q ∷ rest) ≡
        refuse_if (not (body_fits sender code (length rest))) PartCountWrong (answered (holding [] [] rest))
    unfolding command_as command_in front_parts name_fits address_fits
    bare_judged p q rest = rw (k.named, k.addressed, le-leb 2 (length (p ∷ q ∷ rest)) (omega arith))

-- ---- the parts of a command that passes are read as that command

pub fits_name : (sender code : ℕ) (name : List ℕ) {t : Bool} → has_name sender code ≡ t → name_fits sender code name ≡ true → cond t (is_command_name name) (is_empty name) ≡ true
unfolding name_fits
fits_name sender code name k e = rw k at e

pub fits_address : (sender code : ℕ) (address : List ℕ) {t : Bool} → has_address sender code ≡ t → address_fits sender code address ≡ true → cond t (is_route address) (is_empty address) ≡ true
unfolding address_fits
fits_address sender code address k e = rw k at e

module _ (c : Command) (p : Passes c) where
  judged_named : {body : Bool} → Carries c.sender c.code true false body → command_as c.sender c.code (command_parts c) ≡ answered c
  judged_named k =
      let name = fits_name _ _ _ k.named p.name in
      let none = empty_none c.address (fits_address _ _ _ k.addressed p.address) in
      rw (named_parts c k, named_judged c.sender c.code k (mark_of c.sender) (c.code ∷ []) c.name c.body, p.body, name)
      (λ i. answered (record { sender = c.sender; code = c.code; name = c.name; address = sym none i; body = c.body }))

  judged_kind : Kind c.sender c.code → command_as c.sender c.code (command_parts c) ≡ answered c
  judged_kind (asks e k) = judged_named k
  judged_kind (ready e k) = judged_named k
  judged_kind (works e k) =
      let none = empty_none c.name (fits_name _ _ _ k.named p.name) in
      let address = fits_address _ _ _ k.addressed p.address in
      rw (addressed_parts c k, addressed_judged c.sender c.code k (mark_of c.sender) (c.code ∷ []) c.address [] c.body, p.body, address)
      (λ i. answered (record { sender = c.sender; code = c.code; name = sym none i; address = c.address; body = c.body }))
  judged_kind (bare e k) =
      let no_name = empty_none c.name (fits_name _ _ _ k.named p.name) in
      let no_address = empty_none c.address (fits_address _ _ _ k.addressed p.address) in
      rw (bare_parts c k, bare_judged c.sender c.code k (mark_of c.sender) (c.code ∷ []) c.body, p.body)
      (λ i. answered (record { sender = c.sender; code = c.code; name = sym no_name i; address = sym no_address i; body = c.body }))

-- the sender and the number that the first two parts tell
pub judged_as_lem : (ps : List (List ℕ)) (sender code : ℕ) → sender_of (get_or ps 0 []) ≡ sender → code_of (get_or ps 1 []) ≡ code → (sender ≡ 0 → ⊥) → is_command sender code ≡ true → command_judged ps ≡ command_as sender code ps
unfolding command_judged
judged_as_lem ps sender code s k some known = rw (s, k, ne_eqb sender 0 some, known)

pub some_sender : {sender code : ℕ} → Kind sender code → sender ≡ 0 → ⊥
some_sender (asks e k) z = omega arith
some_sender (ready e k) z = omega arith
some_sender (works e k) z = omega arith
some_sender (bare e k) z = omega arith

parts_open : (c : Command) → (rest : List (List ℕ)) × (command_parts c ≡ opening c rest)
unfolding command_parts front_parts
parts_open c = (_, refl)

pub judge : (c : Command) → is_command c.sender c.code ≡ true → Passes c → command_judged (command_parts c) ≡ answered c
unfolding code_of
judge c known p =
    let kind = kind_of c.sender c.code known in
    let front = (parts_open c).1 in
    let first = ap (λ (ps : List (List ℕ)). sender_of (get_or ps 0 [])) front ∙ mark_sender c.sender c.code kind in
    let second = ap (λ (ps : List (List ℕ)). code_of (get_or ps 1 [])) front in
    judged_as_lem (command_parts c) c.sender c.code first second (some_sender kind) known ∙ judged_kind c p kind

-- ---- from parts to a command and back

-- a command read from parts is one, passes, and its parts are those
pub record Held (ps : List (List ℕ)) (c : Command) : Type 0 where
  pub same : command_parts c ≡ ps
  pub known : is_command c.sender c.code ≡ true
  pub passes : Passes c

-- what was judged has its first two parts, and the rest was judged as theirs
pub record Opened (ps : List (List ℕ)) (c : Command) : Type 0 where
  pub sender : ℕ
  pub code : ℕ
  pub rest : List (List ℕ)
  pub known : is_command sender code ≡ true
  pub same : ps ≡ mark_of sender ∷ (code ∷ []) ∷ rest
  pub judges : command_as sender code ps ≡ answered c

pub two_parts : (ps : List (List ℕ)) → (sender_of (get_or ps 0 []) ≡ 0 → ⊥) → (code_of (get_or ps 1 []) ≡ 0 → ⊥) → ps ≡ mark_of (sender_of (get_or ps 0 [])) ∷ (code_of (get_or ps 1 []) ∷ []) ∷ drop 2 ps
unfolding code_of
two_parts [] some more = absurd (more refl)
two_parts (p ∷ []) some more = absurd (more refl)
two_parts (p ∷ q ∷ ps) some more = ap₂ (λ (a b : List ℕ). a ∷ b ∷ ps) (sender_mark p some) (part_code q more)

pub opened : (ps : List (List ℕ)) (c : Command) → command_judged ps ≡ answered c → Opened ps c
unfolding command_judged
opened ps c e =
    let sender = sender_of (get_or ps 0 []) in
    let code = code_of (get_or ps 1 []) in
    let p₁ = passed (eqb sender 0) _ _ c e in
    let p₂ = passed (not (is_command sender code)) _ _ c p₁.rest in
    let known = not-false (is_command sender code) p₂.test in
    record {
      sender = sender;
      code = code;
      rest = drop 2 ps;
      known = known;
      same = two_parts ps (eqb-false sender 0 p₁.test) (λ z. no_zero_lem sender (subst (λ (n : ℕ). is_command sender n ≡ true) z known));
      judges = p₂.rest;
    }

pub name_fits_lem : (sender code : ℕ) (name : List ℕ) {t : Bool} → has_name sender code ≡ t → cond t (is_command_name name) (is_empty name) ≡ true → name_fits sender code name ≡ true
unfolding name_fits
name_fits_lem sender code name k e = rw k e

pub address_fits_lem : (sender code : ℕ) (address : List ℕ) {t : Bool} → has_address sender code ≡ t → cond t (is_route address) (is_empty address) ≡ true → address_fits sender code address ≡ true
unfolding address_fits
address_fits_lem sender code address k e = rw k e

module _ (sender code : ℕ) (known : is_command sender code ≡ true) where
  abbrev opened_by : List (List ℕ) → List (List ℕ)
  opened_by rest = mark_of sender ∷ (code ∷ []) ∷ rest

  -- a command that is held by its parts
  held_as : (ps : List (List ℕ)) (c d : Command) → d ≡ c → Held ps d → Held ps c
  held_as ps c d e h = subst (λ (x : Command). Held ps x) e h

  held_named : {body : Bool} → Carries sender code true false body → (rest : List (List ℕ)) (c : Command) → command_as sender code (opened_by rest) ≡ answered c → Held (opened_by rest) c
  held_named k [] c e = absurd (not_answered (sym (named_short sender code k _ _) ∙ e))
  held_named k (name ∷ body) c e =
      let d = holding sender code name [] body in
      let p₁ = passed _ _ _ c (sym (named_judged sender code k _ _ name body) ∙ e) in
      let p₂ = passed _ _ _ c p₁.rest in
      held_as (opened_by (name ∷ body)) c d (answered_same p₂.rest)
      (record {
        same = named_parts d k;
        known = known;
        passes =
            record {
              body = not-false _ p₁.test;
              name = name_fits_lem sender code name k.named (not-false _ p₂.test);
              address = address_fits_lem sender code [] k.addressed refl;
            };
      })

  held_addressed : Carries sender code false true true → (rest : List (List ℕ)) (c : Command) → command_as sender code (opened_by rest) ≡ answered c → Held (opened_by rest) c
  held_addressed k [] c e = absurd (not_answered (sym (addressed_short sender code k _ _ [] (omega arith)) ∙ e))
  held_addressed k (a ∷ []) c e = absurd (not_answered (sym (addressed_short sender code k _ _ (a ∷ []) (omega arith)) ∙ e))
  held_addressed k (address ∷ gap ∷ body) c e =
      let d = holding sender code [] address body in
      let p₁ = passed _ _ _ c (sym (addressed_judged sender code k _ _ address gap body) ∙ e) in
      let p₂ = passed _ _ _ c p₁.rest in
      let p₃ = passed _ _ _ c p₂.rest in
      let none : gap ≡ [] = empty_none gap (not-false _ p₃.test) in
      held_as (opened_by (address ∷ gap ∷ body)) c d (answered_same p₃.rest)
      (record {
        same = addressed_parts d k ∙ ap (λ (g : List ℕ). opened_by (address ∷ g ∷ body)) (sym none);
        known = known;
        passes =
            record {
              body = not-false _ p₁.test;
              name = name_fits_lem sender code [] k.named refl;
              address = address_fits_lem sender code address k.addressed (not-false _ p₂.test);
            };
      })

  held_bare : Carries sender code false false false → (rest : List (List ℕ)) (c : Command) → command_as sender code (opened_by rest) ≡ answered c → Held (opened_by rest) c
  held_bare k rest c e =
      let d = holding sender code [] [] rest in
      let p₁ = passed _ _ _ c (sym (bare_judged sender code k _ _ rest) ∙ e) in
      held_as (opened_by rest) c d (answered_same p₁.rest)
      (record {
        same = bare_parts d k;
        known = known;
        passes =
            record {
              body = not-false _ p₁.test;
              name = name_fits_lem sender code [] k.named refl;
              address = address_fits_lem sender code [] k.addressed refl;
            };
      })

  held_kind : Kind sender code → (rest : List (List ℕ)) (c : Command) → command_as sender code (opened_by rest) ≡ answered c → Held (opened_by rest) c
  held_kind (asks e k) = held_named k
  held_kind (ready e k) = held_named k
  held_kind (works e k) = held_addressed k
  held_kind (bare e k) = held_bare k

pub held : (ps : List (List ℕ)) (c : Command) → command_judged ps ≡ answered c → Held ps c
held ps c e =
    let o = opened ps c e in
    let judges = subst (λ (qs : List (List ℕ)). command_as o.sender o.code qs ≡ answered c) o.same o.judges in
    subst (λ (qs : List (List ℕ)). Held qs c) (sym o.same) (held_kind o.sender o.code o.known (kind_of o.sender o.code o.known) o.rest c judges)
