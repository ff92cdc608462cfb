-- What is judged of a command's parts, by the bytes at their places: one law for each way through the reader.
use mathlib.Core.Path.{◌≡◌, refl, sym, ap, ◌∙◌, subst}
use mathlib.Core.Bool.{Bool, true, false, cond}
use Prim.Native.Nat.{ℕ, ◌+◌, ◌-◌, ◌<◌, ◌≤◌}
use mathlib.Core.List.{List, [], ◌∷◌, ◌++◌, append_assoc}
use native.Mathlib.Omega.{arith}
use lib.ListN.{length, get_or, take, drop, length-append, length-drop}
use borrow.Author.Tests.{eqb-true}
use lib.Seq.{drop-drop, drop_at, take_at, get_or-drop}
use Rattle.bytes_number.proofs.Truth.{clash, true_false}
use Rattle.refusal.specs.declared.Refusal.TheVariants.{PartCountWrong, NameWrong, AddressWrong, SeparatorWrong}
use Rattle.refusal.specs.Answer.{Answer, refused, answered}
use Rattle.frame_forms.specs.Forms.{is_route}
use Rattle.frame_message.specs.Frame.{size_bytes, part_bytes, joined}
use Rattle.frame_message.specs.Writing.{is_empty}
use Rattle.frame_forms.proofs.Routes as forms
use Rattle.frame_parts.proofs.Passing.{part_has_size}
use Rattle.frame_message.proofs.Lists.{Each}
use Rattle.frame_message.proofs.Parts.{Sized, first_join}
use Rattle.std.specs.Prelude.{Some, None, Result, Ok, Err}
use Rattle.refusal.specs.declared.Refusal.{Refusal}
use Rattle.frame_message.specs.declared.Stretch.{Stretch}
use native.Mathlib.Decide.{dec_lt}
use Rattle.frame_part_size.specs.WorkingSizes.{size_at}
use Rattle.mdp_command.specs.declared.CommandPlaces.{CommandPlaces}
use Rattle.mdp_command.specs.Command.{Command, has_name, has_address, has_body, is_command_name}
use Rattle.mdp_command.specs.CommandBytes.{mark_of}
use Rattle.mdp_command.specs.CommandWriting.{body_fits}
use Rattle.mdp_command.specs.CommandReading.{command_as}
use Rattle.mdp_command.specs.Places.{places_of}
use Rattle.mdp_command.specs.Working.{command_read_as, parts_there}
use Rattle.mdp_command.proofs.Carrying.{Carries, Kind, asks, ready, works, bare}
use Rattle.mdp_command.proofs.Commands.{holding, named_short, named_judged, addressed_short, addressed_judged, bare_judged}
use Rattle.mdp_command.proofs.Placing.{stretch_of, places_at, named_places, addressed_places, bare_places}
use Rattle.mdp_read.specs.WorkingOpening.{OpenedAs}
use Rattle.mdp_read.proofs.Opening.{Fore, fore, fixed_part, fixed_size}

-- ---- what a command carries, by what it has

pub carries_name : {sender code : ℕ} → Kind sender code → has_name sender code ≡ true → Carries sender code true false (has_body sender code)
carries_name (asks e k) n = record { named = n; addressed = k.addressed; bodied = refl }
carries_name (ready e k) n = record { named = n; addressed = k.addressed; bodied = refl }
carries_name (works e k) n = clash _ n k.named
carries_name (bare e k) n = clash _ n k.named

pub carries_address : {sender code : ℕ} → Kind sender code → has_name sender code ≡ false → has_address sender code ≡ true → Carries sender code false true true
carries_address (asks e k) n a = clash _ k.named n
carries_address (ready e k) n a = clash _ k.named n
carries_address (works e k) n a = k
carries_address (bare e k) n a = clash _ a k.addressed

pub carries_nothing : {sender code : ℕ} → Kind sender code → has_name sender code ≡ false → has_address sender code ≡ false → Carries sender code false false false
carries_nothing (asks e k) n a = clash _ k.named n
carries_nothing (ready e k) n a = clash _ k.named n
carries_nothing (works e k) n a = clash _ k.addressed a
carries_nothing (bare e k) n a = k

-- ---- the third part

-- lists with a first element, and with two
record Firsts (rest : List (List ℕ)) : Type 0 where
  first : List ℕ
  others : List (List ℕ)
  is : rest ≡ first ∷ others

some_first : (rest : List (List ℕ)) → 1 ≤ length rest → Firsts rest
some_first [] h = absurd (omega arith)
some_first (p ∷ ps) h = record { first = p; others = ps; is = refl }

-- the size of a part tells where its data starts and how long it is
size_of : (p rest : List ℕ) → Sized p → size_at (part_bytes p ++ rest) ≡ Some (stretch_of (length (size_bytes (length p))) (length p))
size_of p rest h = let first = first_join p rest h in rw (first.same, first.read)

no_route : (p : List ℕ) → (length p ≡ 37 → ⊥) → is_route p ≡ false
no_route p n = forms.route_length_lem p n

not_empty : (p : List ℕ) → (length p ≡ 0 → ⊥) → is_empty p ≡ false
not_empty [] n = absurd (n refl)
not_empty (x ∷ p) n = refl

is_empty_lem : (p : List ℕ) → length p ≡ 0 → is_empty p ≡ true
is_empty_lem [] e = refl
is_empty_lem (x ∷ p) e = absurd (omega arith)

no_parts : (ps : List (List ℕ)) → length ps ≡ 0 → ps ≡ []
no_parts [] e = refl
no_parts (p ∷ ps) e = absurd (omega arith)

module _ {b : List ℕ} {count sender code : ℕ} (o : OpenedAs b count sender code) where
  f : Fore b count sender code
  f = fore o

  abbrev Says : Result CommandPlaces Refusal → Type 0
  Says r = r ≡ command_read_as (command_as sender code (parts_there b))

  -- what is judged of the parts behind the first two
  says : {rest : List (List ℕ)} (a : Answer Command) → f.rest ≡ rest → command_as sender code (mark_of sender ∷ (code ∷ []) ∷ rest) ≡ a → Says (command_read_as a)
  says a e j = ap command_read_as (sym (ap (command_as sender code) (f.parts ∙ ap (λ (qs : List (List ℕ)). mark_of sender ∷ (code ∷ []) ∷ qs) e) ∙ j))

  pub two_at_least : 2 ≤ count
  two_at_least = omega (arith, f.many)

  pub nine_at_least : 9 ≤ length b
  nine_at_least = omega (arith, f.long)

  module _ (k : Carries sender code true false (has_body sender code)) where
    few_named : count < 3 → Says (Err PartCountWrong)
    few_named h = go f.rest refl (omega (arith, f.many))
      where
        go : (rest : List (List ℕ)) → f.rest ≡ rest → length rest < 1 → Says (Err PartCountWrong)
        go [] e l = says (refused PartCountWrong) e (named_short sender code k (mark_of sender) (code ∷ []))
        go (p ∷ ps) e l = absurd (omega arith)

    module _ (enough : 3 ≤ count) where
      t : Firsts f.rest
      t = some_first f.rest (omega (arith, f.many))

      abbrev name : List ℕ
      name = t.first

      abbrev body : List (List ℕ)
      body = t.others

      counts : count - 3 ≡ length body
      counts = omega (arith, f.many, ap length t.is)

      abbrev judges : Answer Command → Type 0
      judges a = command_as sender code (mark_of sender ∷ (code ∷ []) ∷ name ∷ body) ≡ a

      unfit_named : body_fits sender code (count - 3) ≡ false → Says (Err PartCountWrong)
      unfit_named h =
          let none : body_fits sender code (length body) ≡ false = rw counts at h in
          let j : judges (refused PartCountWrong) = named_judged sender code k (mark_of sender) (code ∷ []) name body ∙ rw none in
          says (refused PartCountWrong) t.is j

      third : drop 9 b ≡ part_bytes name ++ joined body
      third = f.behind ∙ ap joined t.is

      size : size_at (drop 9 b) ≡ Some (stretch_of (length (size_bytes (length name))) (length name))
      size =
          let sized = subst (λ (qs : List (List ℕ)). Each Sized qs) t.is f.sized in
          ap size_at third ∙ size_of name (joined body) sized.0

      -- its size was found right when the parts were counted
      pub named_right : None ≡ size_at (drop 9 b) → ⊥
      named_right e = let z : true ≡ false = cc (e ∙ size) in true_false z

      module _ {told : Stretch} (finds : Some told ≡ size_at (drop 9 b)) where
        abbrev start : ℕ
        start = told.start

        abbrev len : ℕ
        len = told.len

        starts : start ≡ length (size_bytes (length name))
        starts = cc (finds ∙ size)

        long : len ≡ length name
        long = cc (finds ∙ size)

        ends : 9 + start + len + length (joined body) ≡ length b
        ends = omega (arith, f.long, ap (λ (qs : List (List ℕ)). length (joined qs)) t.is, length-append (part_bytes name) (joined body), length-append (size_bytes (length name)) name, starts, long)

        pub named_within : 9 + start + len ≤ length b
        named_within = omega (arith, ends)

        there : take (9 + start + len - (9 + start)) (drop (9 + start) b) ≡ name
        there =
            let all : 9 + start + len - (9 + start) ≡ length name = omega (arith, long) in
            rw (all, ← drop-drop start 9 b, third, append_assoc (size_bytes (length name)) name (joined body), drop_at (size_bytes (length name)) (name ++ joined body) start (sym starts))
            (take_at name (joined body) (length name) refl)

        module _ (fits : body_fits sender code (count - 3) ≡ true) where
          pub named_bad : is_command_name (take (9 + start + len - (9 + start)) (drop (9 + start) b)) ≡ false → Says (Err NameWrong)
          named_bad h =
              let some : body_fits sender code (length body) ≡ true = rw counts at fits in
              let none : is_command_name name ≡ false = rw there at h in
              let j : judges (refused NameWrong) = named_judged sender code k (mark_of sender) (code ∷ []) name body ∙ rw (some, none) in
              says (refused NameWrong) t.is j

          pub named_good : is_command_name (take (9 + start + len - (9 + start)) (drop (9 + start) b)) ≡ true → {has : Bool} → has ≡ has_body sender code → {parts : ℕ} → parts ≡ count - 3 →
              Says (Ok (places_at sender code (stretch_of (9 + start) len) 0 (stretch_of (cond has (9 + start + len) 0) (length b - (9 + start + len))) parts))
          named_good h {has} e {parts} p =
              let some : body_fits sender code (length body) ≡ true = rw counts at fits in
              let good : is_command_name name ≡ true = rw there at h in
              let c = holding sender code name [] body in
              let j : judges (answered c) = named_judged sender code k (mark_of sender) (code ∷ []) name body ∙ rw (some, good) in
              let left : length b - (9 + start + len) ≡ length (joined body) = omega (arith, ends) in
              let places : places_at sender code (stretch_of (9 + start) len) 0 (stretch_of (cond has (9 + start + len) 0) (length b - (9 + start + len))) parts ≡ places_of c =
              rw (left, p, counts, e, starts, long) (sym (named_places sender code f.kind k name body)) in
              ap Ok places ∙ says (answered c) t.is j

    pub named_uncounted : (3 ≤ count → body_fits sender code (count - 3) ≡ false) → Says (Err PartCountWrong)
    named_uncounted h = go (dec_lt count 3)
      where
        go : Dec (count < 3) → Says (Err PartCountWrong)
        go (yes few) = few_named few
        go (no n) = unfit_named (omega arith) (h (omega arith))

  module _ (w : Carries sender code false true true) where
    few_addressed : count < 4 → Says (Err PartCountWrong)
    few_addressed h = says (refused PartCountWrong) refl (addressed_short sender code w (mark_of sender) (code ∷ []) f.rest (omega (arith, f.many)))

    module _ (enough : 4 ≤ count) where
      a : Firsts f.rest
      a = some_first f.rest (omega (arith, f.many))

      g : Firsts a.others
      g = some_first a.others (omega (arith, f.many, ap length a.is))

      abbrev address : List ℕ
      address = a.first

      abbrev gap : List ℕ
      gap = g.first

      abbrev work : List (List ℕ)
      work = g.others

      is : f.rest ≡ address ∷ gap ∷ work
      is = a.is ∙ ap (λ (qs : List (List ℕ)). address ∷ qs) g.is

      works_count : count - 4 ≡ length work
      works_count = omega (arith, f.many, ap length is)

      abbrev rules : Answer Command → Type 0
      rules r = command_as sender code (mark_of sender ∷ (code ∷ []) ∷ address ∷ gap ∷ work) ≡ r

      unfit_addressed : body_fits sender code (count - 4) ≡ false → Says (Err PartCountWrong)
      unfit_addressed h =
          let none : body_fits sender code (length work) ≡ false = rw works_count at h in
          let j : rules (refused PartCountWrong) = addressed_judged sender code w (mark_of sender) (code ∷ []) address gap work ∙ rw none in
          says (refused PartCountWrong) is j

      abbrev behind : List ℕ
      behind = part_bytes gap ++ joined work

      address_part : drop 9 b ≡ part_bytes address ++ behind
      address_part = f.behind ∙ ap joined is

      pub address_within : 9 < length b
      address_within = omega (arith, f.long, ap (λ (qs : List (List ℕ)). length (joined qs)) is, length-append (part_bytes address) behind, part_has_size address)

      size_byte_lem : get_or b 9 0 ≡ get_or (part_bytes address ++ behind) 0 0
      size_byte_lem = sym (get_or-drop 9 b 0 0) ∙ ap (λ (xs : List ℕ). get_or xs 0 0) address_part

      module _ (fits : body_fits sender code (count - 4) ≡ true) where
        some_work : body_fits sender code (length work) ≡ true
        some_work = rw works_count at fits

        address_bad : is_route address ≡ false → Says (Err AddressWrong)
        address_bad none =
            let j : rules (refused AddressWrong) = addressed_judged sender code w (mark_of sender) (code ∷ []) address gap work ∙ rw (some_work, none) in
            says (refused AddressWrong) is j

        pub address_size : (get_or b 9 0 ≡ 37 → ⊥) → Says (Err AddressWrong)
        address_size n = address_bad (no_route address (λ e. n (size_byte_lem ∙ ap (λ (xs : List ℕ). get_or xs 0 0) (fixed_part address behind 37 (omega arith) e))))

        module _ (sized : get_or b 9 0 ≡ 37) where
          address_long : length address ≡ 37
          address_long = fixed_size address behind 37 (omega arith) (sym size_byte_lem ∙ sized)

          address_front : drop 9 b ≡ 37 ∷ (address ++ behind)
          address_front = address_part ∙ fixed_part address behind 37 (omega arith) address_long

          address_there : take 37 (drop 10 b) ≡ address
          address_there = rw (← drop-drop 1 9 b, address_front) (take_at address behind 37 address_long)

          gap_there : drop 47 b ≡ behind
          gap_there = rw (← drop-drop 38 9 b, address_front) (drop_at (37 ∷ address) behind 38 (omega (arith, address_long)))

          pub gap_within : 47 < length b
          gap_within = omega (arith, ap length gap_there, length-drop 47 b, length-append (part_bytes gap) (joined work), part_has_size gap)

          gap_byte : get_or b 47 0 ≡ get_or (part_bytes gap ++ joined work) 0 0
          gap_byte = sym (get_or-drop 47 b 0 0) ∙ ap (λ (xs : List ℕ). get_or xs 0 0) gap_there

          pub address_wrong : is_route (take 37 (drop 10 b)) ≡ false → Says (Err AddressWrong)
          address_wrong h = address_bad (rw address_there at h)

          module _ (route : is_route (take 37 (drop 10 b)) ≡ true) where
            good : is_route address ≡ true
            good = rw address_there at route

            pub gap_wrong : (get_or b 47 0 ≡ 0 → ⊥) → Says (Err SeparatorWrong)
            gap_wrong n =
                let some : is_empty gap ≡ false = not_empty gap (λ e. n (gap_byte ∙ ap (λ (xs : List ℕ). get_or xs 0 0) (fixed_part gap (joined work) 0 (omega arith) e))) in
                let j : rules (refused SeparatorWrong) = addressed_judged sender code w (mark_of sender) (code ∷ []) address gap work ∙ rw (some_work, good, some) in
                says (refused SeparatorWrong) is j

            pub addressed_good : get_or b 47 0 ≡ 0 → {has : Bool} → has ≡ true → {parts : ℕ} → parts ≡ count - 4 →
                Says (Ok (places_at sender code (stretch_of 0 0) 10 (stretch_of (cond has 48 0) (length b - 48)) parts))
            addressed_good z {has} e {parts} p =
                let short : length gap ≡ 0 = fixed_size gap (joined work) 0 (omega arith) (sym gap_byte ∙ z) in
                let none : is_empty gap ≡ true = is_empty_lem gap short in
                let c = holding sender code [] address work in
                let j : rules (answered c) = addressed_judged sender code w (mark_of sender) (code ∷ []) address gap work ∙ rw (some_work, good, none) in
                let front : behind ≡ 0 ∷ (gap ++ joined work) = fixed_part gap (joined work) 0 (omega arith) short in
                let left : length b - 48 ≡ length (joined work) = omega (arith, ap length gap_there, ap length front, length-drop 47 b, length-append gap (joined work)) in
                let places : places_at sender code (stretch_of 0 0) 10 (stretch_of (cond has 48 0) (length b - 48)) parts ≡ places_of c =
                rw (left, e, p, works_count) (sym (addressed_places sender code f.kind w address work address_long)) in
                ap Ok places ∙ says (answered c) is j

    pub addressed_uncounted : (4 ≤ count → body_fits sender code (count - 4) ≡ false) → Says (Err PartCountWrong)
    addressed_uncounted h = go (dec_lt count 4)
      where
        go : Dec (count < 4) → Says (Err PartCountWrong)
        go (yes few) = few_addressed few
        go (no n) = unfit_addressed (omega arith) (h (omega arith))

  module _ (n : Carries sender code false false false) where
    rest_count : count - 2 ≡ length f.rest
    rest_count = omega (arith, f.many)

    unfit_bare : body_fits sender code (count - 2) ≡ false → Says (Err PartCountWrong)
    unfit_bare h =
        let none : body_fits sender code (length f.rest) ≡ false = rw rest_count at h in
        says (refused PartCountWrong) refl (bare_judged sender code n (mark_of sender) (code ∷ []) f.rest ∙ rw none)

    pub bare_uncounted : (2 ≤ count → body_fits sender code (count - 2) ≡ false) → Says (Err PartCountWrong)
    bare_uncounted h = unfit_bare (h two_at_least)

    pub bare_good : body_fits sender code (count - 2) ≡ true → {has : Bool} → has ≡ has_body sender code → {parts : ℕ} → parts ≡ count - 2 →
        Says (Ok (places_at sender code (stretch_of 0 0) 0 (stretch_of (cond has (length b) 0) (length b - length b)) parts))
    unfolding body_fits
    bare_good h {has} e {parts} p =
        let some : body_fits sender code (length f.rest) ≡ true = rw rest_count at h in
        let none : f.rest ≡ [] = no_parts f.rest (bare_parts some) in
        let c = holding sender code [] [] [] in
        let fit : body_fits sender code 0 ≡ true = subst (λ (qs : List (List ℕ)). body_fits sender code (length qs) ≡ true) none some in
        let left : length b - length b ≡ 0 = omega arith in
        let none_left : parts ≡ 0 = p ∙ rest_count ∙ ap length none in
        rw (left, none_left, e, n.bodied) (ap Ok (sym (bare_places sender code f.kind n []))) ∙ says (answered c) none (bare_judged sender code n (mark_of sender) (code ∷ []) [] ∙ rw fit)
      where
        bare_parts : body_fits sender code (length f.rest) ≡ true → length f.rest ≡ 0
        bare_parts e = eqb-true (length f.rest) 0 (rw n.bodied at e)

  -- ---- 34, by what the command has

  module _ (named : has_name sender code ≡ true) where
    pub named_few : count < 3 → Says (Err PartCountWrong)
    named_few h = few_named (carries_name f.kind named) h

    module _ (enough : 3 ≤ count) where
      pub named_unfit : body_fits sender code (count - 3) ≡ false → Says (Err PartCountWrong)
      named_unfit h = unfit_named (carries_name f.kind named) enough h

  module _ (unnamed : has_name sender code ≡ false) (addressed : has_address sender code ≡ true) where
    pub addressed_few : count < 4 → Says (Err PartCountWrong)
    addressed_few h = few_addressed (carries_address f.kind unnamed addressed) h

    module _ (enough : 4 ≤ count) where
      pub addressed_unfit : body_fits sender code (count - 4) ≡ false → Says (Err PartCountWrong)
      addressed_unfit h = unfit_addressed (carries_address f.kind unnamed addressed) enough h

  module _ (unnamed : has_name sender code ≡ false) (unaddressed : has_address sender code ≡ false) where
    pub bare_unfit : body_fits sender code (count - 2) ≡ false → Says (Err PartCountWrong)
    bare_unfit h = unfit_bare (carries_nothing f.kind unnamed unaddressed) h
