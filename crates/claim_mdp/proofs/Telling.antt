-- Where a command lies in its bytes, read off the places: one law for each kind.
use mathlib.Core.Path.{◌≡◌, refl, sym, ap, ◌∙◌, subst}
use mathlib.Core.Bool.{Bool, true, false, cond, ◌&&◌}
use Prim.Native.Nat.{ℕ, ◌+◌, ◌<◌, ◌≤◌}
use mathlib.Core.List.{List, [], ◌∷◌, ◌++◌, append_assoc}
use native.Mathlib.Omega.{arith}
use lib.Dec.{eqb, leb}
use lib.ListN.{length, take, drop, length-append, length-drop}
use lib.Seq.{drop-drop, drop_at, take_at, take-length}
use borrow.Author.Tests.{eqb-true, leb-true}
use Rattle.bytes_number.proofs.Truth.{clash, and_right}
use Rattle.frame_forms.specs.Forms.{route_length}
use Rattle.frame_layout.specs.Layout.{stretch}
use Rattle.frame_message.specs.Frame.{size_bytes, part_bytes, joined}
use Rattle.frame_message.proofs.Forms.{route_length_lem}
use Rattle.frame_message.proofs.Lists.{Each}
use Rattle.frame_message.proofs.Parts.{part_short}
use Rattle.mdp_command.specs.declared.CommandPlaces.{CommandPlaces}
use Rattle.mdp_command.specs.Command.{Command, is_command, has_name, has_address, has_body}
use Rattle.mdp_command.specs.CommandBytes.{command_parts, command_bytes}
use Rattle.mdp_command.specs.CommandWriting.{body_fits}
use Rattle.mdp_command.specs.Places.{places_of}
use Rattle.mdp_command.proofs.Carrying.{Carries, Kind, asks, ready, works, bare, kind_of, code_most}
use Rattle.mdp_command.proofs.Commands.{holding, opening, Passes, empty_none, fits_name, fits_address, named_parts, addressed_parts}
use Rattle.mdp_command.proofs.Placing.{nine, nine_long, stretch_of, places_at, named_places, addressed_places, bare_places}
use Rattle.call_specs.specs.CommandCalls.{command_row}

-- what the places tell of a command in bytes
pub record Tells (b : List ℕ) (c : Command) (f : CommandPlaces) : Type 0 where
  pub sender : f.sender ≡ c.sender
  pub code : f.code ≡ c.code
  pub name : stretch b f.name.start f.name.len ≡ c.name
  pub address : stretch b f.address (cond (eqb f.address 0) 0 route_length) ≡ c.address
  pub body : stretch b f.body.start f.body.len ≡ joined c.body
  pub parts : f.parts ≡ length c.body
  pub ends : has_body c.sender c.code ≡ true → f.body.start + f.body.len ≡ length b
  pub no_name : has_name c.sender c.code ≡ false → (f.name.start ≡ 0) × (f.name.len ≡ 0)
  pub no_address : has_address c.sender c.code ≡ false → f.address ≡ 0
  pub no_body : has_body c.sender c.code ≡ false → (f.body.start ≡ 0) × (f.body.len ≡ 0) × (f.parts ≡ 0)
  pub fit : Each (λ n. n < 4294967296) (command_row f)

-- a command without a body has no parts
no_parts : (ps : List (List ℕ)) → length ps ≡ 0 → ps ≡ []
no_parts [] e = refl
no_parts (p ∷ ps) e = absurd (omega arith)

bodiless : (c : Command) → has_body c.sender c.code ≡ false → body_fits c.sender c.code (length c.body) ≡ true → c.body ≡ []
unfolding body_fits
bodiless c none fits = no_parts c.body (eqb-true (length c.body) 0 (rw none at fits))

few_parts : (c : Command) → body_fits c.sender c.code (length c.body) ≡ true → length c.body ≤ 16
unfolding body_fits
few_parts c fits = go (has_body c.sender c.code) fits
  where
    go : (t : Bool) → cond t (leb 1 (length c.body) && leb (length c.body) 16) (eqb (length c.body) 0) ≡ true → length c.body ≤ 16
    go true e = leb-true (length c.body) 16 (and_right (leb 1 (length c.body)) (leb (length c.body) 16) e)
    go false e = omega (arith, eqb-true (length c.body) 0 e)

module _ (b : List ℕ) (c : Command) (known : is_command c.sender c.code ≡ true) (p : Passes c) (same : command_bytes c ≡ b) (short : length b ≤ 32768) where
  kind : Kind c.sender c.code
  kind = kind_of c.sender c.code known

  few : length c.body ≤ 16
  few = few_parts c p.body

  -- what stands behind the first two parts
  behind : (rest : List (List ℕ)) → command_parts c ≡ opening c rest → (drop 9 b ≡ joined rest) × (length b ≡ 9 + length (joined rest))
  unfolding command_bytes
  behind rest e =
      let whole : b ≡ joined (opening c rest) = sym same ∙ ap joined e in
      (ap (drop 9) whole ∙ nine c.sender c.code rest kind, ap length whole ∙ nine_long c.sender c.code rest kind)

  sender_small : Kind c.sender c.code → c.sender < 4294967296
  sender_small (asks e k) = omega arith
  sender_small (ready e k) = omega arith
  sender_small (works e k) = omega arith
  sender_small (bare e k) = omega arith

  -- numbers up to the length of the bytes fit
  rows : (ns address bs bl n : ℕ) (nl : ℕ) → ns ≤ 32768 → nl ≤ 32768 → address ≤ 32768 → bs ≤ 32768 → bl ≤ 32768 → n ≤ 16 →
      Each (λ k. k < 4294967296) (command_row (places_at c.sender c.code (stretch_of ns nl) address (stretch_of bs bl) n))
  rows ns address bs bl n nl h₁ h₂ h₃ h₄ h₅ h₆ =
      (sender_small kind, (omega (arith, code_most c.sender c.code known), (omega arith, (omega arith, (omega arith, (omega arith, (omega arith, (omega arith, tt))))))))

  module _ {body : Bool} (k : Carries c.sender c.code true false body) where
    no_address_given : c.address ≡ []
    no_address_given = empty_none c.address (fits_address c.sender c.code c.address k.addressed p.address)

    abbrev size : ℕ
    size = length (size_bytes (length c.name))

    abbrev long : ℕ
    long = length c.name

    third : drop 9 b ≡ part_bytes c.name ++ joined c.body
    third = (behind (c.name ∷ c.body) (named_parts c k)).0

    ends : 9 + size + long + length (joined c.body) ≡ length b
    ends = omega (arith, (behind (c.name ∷ c.body) (named_parts c k)).1, length-append (part_bytes c.name) (joined c.body), length-append (size_bytes (length c.name)) c.name)

    name_there : take long (drop (9 + size) b) ≡ c.name
    name_there =
        rw (← drop-drop size 9 b, third, append_assoc (size_bytes long) c.name (joined c.body), drop_at (size_bytes long) (c.name ++ joined c.body) size refl)
        (take_at c.name (joined c.body) long refl)

    body_there : drop (9 + size + long) b ≡ joined c.body
    body_there =
        let one : 9 + size + long ≡ 9 + (size + long) = omega arith in
        rw (one, ← drop-drop (size + long) 9 b, third) (drop_at (part_bytes c.name) (joined c.body) (size + long) (length-append (size_bytes long) c.name))

    abbrev start : ℕ
    start = cond body (9 + size + long) 0

    abbrev places : CommandPlaces
    places = places_at c.sender c.code (stretch_of (9 + size) long) 0 (stretch_of start (length (joined c.body))) (length c.body)

    -- with a body, and without one
    body_told : (t : Bool) → has_body c.sender c.code ≡ t → stretch b (cond t (9 + size + long) 0) (length (joined c.body)) ≡ joined c.body
    body_told true e = rw body_there (take-length (joined c.body))
    body_told false e = let none = bodiless c e p.body in rw none

    start_most : (t : Bool) → cond t (9 + size + long) 0 ≤ 32768
    start_most true = omega (arith, ends)
    start_most false = omega arith

    named_tells : Tells b c places
    named_tells =
        record {
          sender = refl;
          code = refl;
          name = name_there;
          address = sym no_address_given;
          body = body_told body k.bodied;
          parts = refl;
          ends = λ has. let is : body ≡ true = sym k.bodied ∙ has in rw is (omega (arith, ends));
          no_name = λ none. clash (has_name c.sender c.code) k.named none;
          no_address = λ none. refl;
          no_body = λ none.
              let is : body ≡ false = sym k.bodied ∙ none in
              let empty = bodiless c none p.body in
              (rw is, rw empty, ap length empty);
          fit = rows (9 + size) 0 start (length (joined c.body)) (length c.body) long (omega (arith, ends)) (omega (arith, ends)) (omega arith) (start_most body) (omega (arith, ends)) few;
        }

    named_told : Tells b c (places_of c)
    named_told =
        let is : c ≡ holding c.sender c.code c.name [] c.body = λ i. record { sender = c.sender; code = c.code; name = c.name; address = no_address_given i; body = c.body } in
        subst (λ (f : CommandPlaces). Tells b c f) (sym (ap places_of is ∙ named_places c.sender c.code kind k c.name c.body)) named_tells

  module _ (k : Carries c.sender c.code false true true) where
    no_name_given : c.name ≡ []
    no_name_given = empty_none c.name (fits_name c.sender c.code c.name k.named p.name)

    address_long : length c.address ≡ 37
    address_long = route_length_lem c.address (fits_address c.sender c.code c.address k.addressed p.address)

    abbrev rest : List (List ℕ)
    rest = c.address ∷ [] ∷ c.body

    fourth : drop 9 b ≡ 37 ∷ (c.address ++ (0 ∷ joined c.body))
    fourth =
        let front : part_bytes c.address ≡ 37 ∷ c.address = part_short c.address (omega (arith, address_long)) ∙ ap (λ (n : ℕ). n ∷ c.address) address_long in
        (behind rest (addressed_parts c k)).0 ∙ ap (λ (xs : List ℕ). xs ++ (0 ∷ joined c.body)) front

    address_there : take 37 (drop 10 b) ≡ c.address
    address_there = rw (← drop-drop 1 9 b, fourth) (take_at c.address (0 ∷ joined c.body) 37 address_long)

    work_there : drop 48 b ≡ joined c.body
    work_there =
        rw (← drop-drop 39 9 b, fourth, ← append_assoc c.address (0 ∷ []) (joined c.body))
        (drop_at (37 ∷ (c.address ++ (0 ∷ []))) (joined c.body) 39 (omega (arith, length-append c.address (0 ∷ []), address_long)))

    work_ends : 48 + length (joined c.body) ≡ length b
    work_ends = omega (arith, ap length fourth, length-drop 9 b, length-append c.address (0 ∷ joined c.body), address_long, (behind rest (addressed_parts c k)).1)

    abbrev work_places : CommandPlaces
    work_places = places_at c.sender c.code (stretch_of 0 0) 10 (stretch_of 48 (length (joined c.body))) (length c.body)

    works_tells : Tells b c work_places
    works_tells =
        record {
          sender = refl;
          code = refl;
          name = sym no_name_given;
          address = address_there;
          body = rw work_there (take-length (joined c.body));
          parts = refl;
          ends = λ has. work_ends;
          no_name = λ none. (refl, refl);
          no_address = λ none. clash (has_address c.sender c.code) k.addressed none;
          no_body = λ none. clash (has_body c.sender c.code) k.bodied none;
          fit = rows 0 10 48 (length (joined c.body)) (length c.body) 0 (omega arith) (omega arith) (omega arith) (omega arith) (omega (arith, work_ends)) few;
        }

    works_told : Tells b c (places_of c)
    works_told =
        let is : c ≡ holding c.sender c.code [] c.address c.body = λ i. record { sender = c.sender; code = c.code; name = no_name_given i; address = c.address; body = c.body } in
        subst (λ (f : CommandPlaces). Tells b c f) (sym (ap places_of is ∙ addressed_places c.sender c.code kind k c.address c.body address_long)) works_tells

  module _ (k : Carries c.sender c.code false false false) where
    bare_name : c.name ≡ []
    bare_name = empty_none c.name (fits_name c.sender c.code c.name k.named p.name)

    bare_address : c.address ≡ []
    bare_address = empty_none c.address (fits_address c.sender c.code c.address k.addressed p.address)

    bare_body : c.body ≡ []
    bare_body = bodiless c k.bodied p.body

    bare_tells : Tells b c (places_at c.sender c.code (stretch_of 0 0) 0 (stretch_of 0 0) 0)
    bare_tells =
        record {
          sender = refl;
          code = refl;
          name = sym bare_name;
          address = sym bare_address;
          body = rw bare_body;
          parts = sym (ap length bare_body);
          ends = λ has. clash (has_body c.sender c.code) has k.bodied;
          no_name = λ none. (refl, refl);
          no_address = λ none. refl;
          no_body = λ none. (refl, refl, refl);
          fit = rows 0 0 0 0 0 0 (omega arith) (omega arith) (omega arith) (omega arith) (omega arith) (omega arith);
        }

    bare_told : Tells b c (places_of c)
    bare_told =
        let is : c ≡ holding c.sender c.code [] [] [] = λ i. record { sender = c.sender; code = c.code; name = bare_name i; address = bare_address i; body = bare_body i } in
        subst (λ (f : CommandPlaces). Tells b c f) (sym (ap places_of is ∙ bare_places c.sender c.code kind k [])) bare_tells

  told_kind : Kind c.sender c.code → Tells b c (places_of c)
  told_kind (asks e k) = named_told k
  told_kind (ready e k) = named_told k
  told_kind (works e k) = works_told k
  told_kind (bare e k) = bare_told k

  pub places_tell : Tells b c (places_of c)
  places_tell = told_kind kind
