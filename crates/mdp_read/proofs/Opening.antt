-- The first two parts of a command, by the bytes at their places.
use mathlib.Core.Path.{◌≡◌, refl, sym, ap, ◌∙◌, subst}
use mathlib.Core.Bool.{Bool, true, false, cond}
use Prim.Native.Nat.{ℕ, ◌+◌, ◌<◌, ◌≤◌}
use mathlib.Core.List.{List, [], ◌∷◌, ◌++◌}
use native.Mathlib.Omega.{arith}
use lib.Dec.{eqb, ltb}
use lib.ListN.{length, get_or, take, drop, length-append}
use lib.Seq.{get_or-append-add, take-append_seam}
use borrow.Author.Tests.{eqb-true, eqb-false, eq-eqb, ne_eqb, lt-ltb, le-ltb}
use Rattle.bytes_number.specs.Number.{Bytes}
use Rattle.refusal.specs.declared.Refusal.TheVariants.{CommandLong, CommandPartWrong, MarkWrong, CommandWrong}
use Rattle.refusal.specs.Answer.{refused, answered}
use Rattle.frame_message.specs.Frame.{part_bytes, joined}
use Rattle.frame_message.specs.Reading.{parts_in}
use Rattle.frame_message.proofs.Lists.{Each}
use Rattle.frame_message.proofs.Parts.{Sized, Split, split, part_short}
use Rattle.table_records.specs.Bytes.{same_bytes}
use Rattle.table_records.proofs.Bytes.{same_lengths}
use Rattle.mdp_command.specs.Command.{client_mark, worker_mark, is_command}
use Rattle.std.specs.Prelude.{Err}
use Rattle.mdp_command.specs.declared.Sender.{Sender}
use Rattle.mdp_command.specs.declared.Sender.TheVariants.{Client, Worker}
use Rattle.mdp_command.specs.WorkingSender.{sender_number}
use Rattle.mdp_command.specs.CommandBytes.{mark_of, cut_parts}
use Rattle.mdp_command.specs.Working.{command_read_as, parts_there}
use Rattle.mdp_command.proofs.Cutting.{CutInto}
use Rattle.mdp_command.specs.CommandReading.{sender_of, code_of, command_as, command_judged, command_read}
use Rattle.mdp_command.proofs.Carrying.{Kind, kind_of}
use Rattle.mdp_command.proofs.Commands.{two_parts, no_zero_lem, judged_as_lem}
use Rattle.mdp_command.proofs.Placing.{nine, nine_long}
use Rattle.mdp_read.specs.WorkingOpening.{sender_at, code_at, CountOf, OpenedAs}

-- ---- a part with a short size at the front

module _ (p rest : List ℕ) (n : ℕ) (short : n < 255) where
  pub fixed_part : length p ≡ n → part_bytes p ++ rest ≡ n ∷ (p ++ rest)
  fixed_part e = rw (part_short p (omega arith), e)

  -- the size byte tells it
  pub fixed_size : get_or (part_bytes p ++ rest) 0 0 ≡ n → length p ≡ n
  fixed_size e = go (ltb (length p) 255) refl e
    where
      go : (t : Bool) → ltb (length p) 255 ≡ t → get_or (part_bytes p ++ rest) 0 0 ≡ n → length p ≡ n
      go true t e = rw t at e
      go false t e = let full : 255 ≡ n = rw t at e in absurd (omega arith)

-- ---- the mark

-- whoever has a mark, it has six bytes
no_mark : (p : List ℕ) → (length p ≡ 6 → ⊥) → sender_of p ≡ 0
unfolding sender_of
no_mark p n = rw (same_lengths p client_mark n, same_lengths p worker_mark n)

pub sender_found : (ps : List (List ℕ)) → sender_at (joined ps) ≡ sender_of (get_or ps 0 [])
unfolding sender_at
sender_found [] = sym (no_mark [] (λ e. omega arith))
sender_found (p ∷ ps) = go (eqb (length p) 6) refl
  where
    go : (t : Bool) → eqb (length p) 6 ≡ t → sender_at (joined (p ∷ ps)) ≡ sender_of p
    go true t =
        let long = eqb-true (length p) 6 t in
        let front = fixed_part p (joined ps) 6 (omega arith) long in
        let enough : 7 ≤ length (6 ∷ (p ++ joined ps)) = omega (arith, length-append p (joined ps)) in
        rw (front, le-ltb (length (6 ∷ (p ++ joined ps))) 7 enough)
        (ap (λ (n : ℕ). sender_of (take n (p ++ joined ps))) (sym long) ∙ ap sender_of (take-append_seam p (joined ps)))
    go false t = rw (no_mark p (eqb-false (length p) 6 t)) (by (ltb (length (joined (p ∷ ps))) 7) refl)
      where
        by : (u : Bool) → ltb (length (joined (p ∷ ps))) 7 ≡ u → sender_at (joined (p ∷ ps)) ≡ 0
        by true u = rw u
        by false u = rw (u, ne_eqb (get_or (joined (p ∷ ps)) 0 0) 6 (λ e. eqb-false (length p) 6 t (fixed_size p (joined ps) 6 (omega arith) e)))

-- ---- the number

-- no command's number where the part has another length than 1
no_code : (q : List ℕ) → (length q ≡ 1 → ⊥) → code_of q ≡ 0
unfolding code_of
no_code q n = rw (ne_eqb (length q) 1 n)

-- the number of the bytes behind a mark
number_behind : List ℕ → ℕ
number_behind xs = cond (ltb (7 + length xs) 9) 0 (cond (eqb (get_or xs 0 0) 1) (get_or xs 1 0) 0)

other_number : (q : List ℕ) (ps : List (List ℕ)) → (length q ≡ 1 → ⊥) → number_behind (joined (q ∷ ps)) ≡ code_of q
unfolding number_behind
other_number q ps n = rw (no_code q n) (by (ltb (7 + length (joined (q ∷ ps))) 9) refl)
  where
    by : (u : Bool) → ltb (7 + length (joined (q ∷ ps))) 9 ≡ u → number_behind (joined (q ∷ ps)) ≡ 0
    by true u = rw u
    by false u = rw (u, ne_eqb (get_or (joined (q ∷ ps)) 0 0) 1 (λ e. n (fixed_size q (joined ps) 1 (omega arith) e)))

number_found : (ps : List (List ℕ)) → number_behind (joined ps) ≡ code_of (get_or ps 0 [])
unfolding number_behind code_of
number_found [] = refl
number_found ([] ∷ ps) = other_number [] ps (λ e. omega arith)
number_found ((x ∷ []) ∷ ps) = rw (le-ltb (7 + length (1 ∷ x ∷ joined ps)) 9 (omega arith))
number_found ((x ∷ y ∷ q) ∷ ps) = other_number (x ∷ y ∷ q) ps (λ e. omega arith)

-- behind a mark stands what is behind its part
behind_mark : (m xs : List ℕ) (i : ℕ) → length m ≡ 6 → get_or (6 ∷ (m ++ xs)) (7 + i) 0 ≡ get_or xs i 0
behind_mark m xs i e =
    let there : length (6 ∷ m) + i ≡ 7 + i = omega arith in
    ap (λ (n : ℕ). get_or (6 ∷ (m ++ xs)) n 0) (sym there) ∙ get_or-append-add (6 ∷ m) xs i 0

pub code_found : (m : List ℕ) (ps : List (List ℕ)) → length m ≡ 6 → code_at (joined (m ∷ ps)) ≡ code_of (get_or ps 0 [])
unfolding code_at number_behind
code_found m ps e =
    let front = fixed_part m (joined ps) 6 (omega arith) e in
    let long : length (6 ∷ (m ++ joined ps)) ≡ 7 + length (joined ps) = omega (arith, length-append m (joined ps)) in
    rw (front, long, behind_mark m (joined ps) 0 e, behind_mark m (joined ps) 1 e) (number_found ps)

-- ---- the same, test by test

module _ (p : List ℕ) where
  pub client_sends : same_bytes p client_mark ≡ true → sender_of p ≡ 1
  unfolding sender_of
  client_sends e = rw e

  pub worker_sends : same_bytes p client_mark ≡ false → same_bytes p worker_mark ≡ true → sender_of p ≡ 2
  unfolding sender_of
  worker_sends e f = rw (e, f)

  pub nobody_sends : same_bytes p client_mark ≡ false → same_bytes p worker_mark ≡ false → sender_of p ≡ 0
  unfolding sender_of
  nobody_sends e f = rw (e, f)

module _ (b : List ℕ) where
  pub mark_short : length b < 7 → sender_at b ≡ 0
  unfolding sender_at
  mark_short h = rw (lt-ltb (length b) 7 h)

  pub mark_size : 7 ≤ length b → (get_or b 0 0 ≡ 6 → ⊥) → sender_at b ≡ 0
  unfolding sender_at
  mark_size h n = rw (le-ltb (length b) 7 h, ne_eqb (get_or b 0 0) 6 n)

  pub mark_there : 7 ≤ length b → get_or b 0 0 ≡ 6 → sender_at b ≡ sender_of (take 6 (drop 1 b))
  unfolding sender_at
  mark_there h e = rw (le-ltb (length b) 7 h, eq-eqb (get_or b 0 0) 6 e)

  pub code_short : length b < 9 → code_at b ≡ 0
  unfolding code_at
  code_short h = rw (lt-ltb (length b) 9 h)

  pub code_size : 9 ≤ length b → (get_or b 7 0 ≡ 1 → ⊥) → code_at b ≡ 0
  unfolding code_at
  code_size h n = rw (le-ltb (length b) 9 h, ne_eqb (get_or b 7 0) 1 n)

  pub code_there : 9 ≤ length b → get_or b 7 0 ≡ 1 → code_at b ≡ get_or b 8 0
  unfolding code_at
  code_there h e = rw (le-ltb (length b) 9 h, eq-eqb (get_or b 7 0) 1 e)

-- ---- what stands behind the two

pub record Fore (b : List ℕ) (count sender code : ℕ) : Type 0 where
  pub rest : List (List ℕ)
  pub parts : parts_there b ≡ mark_of sender ∷ (code ∷ []) ∷ rest
  pub behind : drop 9 b ≡ joined rest
  pub long : length b ≡ 9 + length (joined rest)
  pub sized : Each Sized rest
  pub many : count ≡ 2 + length rest
  pub kind : Kind sender code

pub fore : {b : List ℕ} {count sender code : ℕ} → OpenedAs b count sender code → Fore b count sender code
fore {b} {count} {sender} {code} o =
    let ps = parts_there b in
    let whole : Split (length b) b ps = split (length b) b ps o.over.bytes o.over.found in
    let kind = kind_of sender code o.known in
    let first : sender_of (get_or ps 0 []) ≡ 0 → ⊥ = λ z. o.some (sym o.sends ∙ z) in
    let second : code_of (get_or ps 1 []) ≡ 0 → ⊥ = λ z. no_zero_lem sender (subst (λ (n : ℕ). is_command sender n ≡ true) (sym o.codes ∙ z) o.known) in
    let parts : ps ≡ mark_of sender ∷ (code ∷ []) ∷ drop 2 ps =
    two_parts ps first second ∙ ap (λ (s : ℕ). mark_of s ∷ (code_of (get_or ps 1 []) ∷ []) ∷ drop 2 ps) o.sends ∙ ap (λ (k : ℕ). mark_of sender ∷ (k ∷ []) ∷ drop 2 ps) o.codes in
    let same : b ≡ joined (mark_of sender ∷ (code ∷ []) ∷ drop 2 ps) = whole.same ∙ ap joined parts in
    let sized : Each Sized (mark_of sender ∷ (code ∷ []) ∷ drop 2 ps) = subst (λ (qs : List (List ℕ)). Each Sized qs) parts whole.sized in
    record {
      rest = drop 2 ps;
      parts = parts;
      behind = ap (drop 9) same ∙ nine sender code (drop 2 ps) kind;
      long = ap length same ∙ nine_long sender code (drop 2 ps) kind;
      sized = sized.1.1;
      many = omega (arith, o.over.counted, ap length parts);
      kind = kind;
    }

-- ---- 32 and 33

pub some_number : (sender : Sender) → sender_number sender ≡ 0 → ⊥
some_number Client e = omega arith
some_number Worker e = omega arith

pub no_zero : (sender : Sender) → is_command (sender_number sender) 0 ≡ false
unfolding is_command
no_zero Client = refl
no_zero Worker = refl

mark_six : (p : List ℕ) → (sender_of p ≡ 0 → ⊥) → length p ≡ 6
mark_six p some = go (eqb (length p) 6) refl
  where
    go : (t : Bool) → eqb (length p) 6 ≡ t → length p ≡ 6
    go true t = eqb-true (length p) 6 t
    go false t = absurd (some (no_mark p (eqb-false (length p) 6 t)))

behind_first : (ps : List (List ℕ)) → (sender_of (get_or ps 0 []) ≡ 0 → ⊥) → code_at (joined ps) ≡ code_of (get_or ps 1 [])
behind_first [] some = absurd (some (no_mark [] (λ e. omega arith)))
behind_first (p ∷ ps) some = code_found p ps (mark_six p some)

module _ {b : List ℕ} {count : ℕ} (o : CountOf b count) where
  abbrev ps : List (List ℕ)
  ps = parts_there b

  same : b ≡ joined ps
  same = (split (length b) b ps o.bytes o.found).same

  sends : {sender : ℕ} → sender ≡ sender_at b → sender_of (get_or ps 0 []) ≡ sender
  sends s = sym (s ∙ ap sender_at same ∙ sender_found ps)

  pub mark_wrong : {sender : ℕ} → sender ≡ sender_at b → sender ≡ 0 → Err MarkWrong ≡ command_read_as (command_judged ps)
  unfolding command_judged
  mark_wrong s z = rw (sends s, z)

  module _ {sender code : ℕ} (s : sender ≡ sender_at b) (some : sender ≡ 0 → ⊥) (k : code ≡ code_at b) where
    codes : code_of (get_or ps 1 []) ≡ code
    codes = sym (k ∙ ap code_at same ∙ behind_first ps (λ z. some (sym (sends s) ∙ z)))

    pub command_wrong : is_command sender code ≡ false → Err CommandWrong ≡ command_read_as (command_judged ps)
    unfolding command_judged
    command_wrong none = rw (sends s, codes, ne_eqb sender 0 some, none)

    pub opens : is_command sender code ≡ true → OpenedAs b count sender code
    opens known = record { over = o; sends = sends s; codes = codes; known = known; some = some }

pub opened_judged : {b : List ℕ} {count sender code : ℕ} → OpenedAs b count sender code → command_judged (parts_there b) ≡ command_as sender code (parts_there b)
opened_judged {b} {count} {sender} {code} o = judged_as_lem (parts_there b) sender code o.sends o.codes o.some o.known

-- ---- 31 and 30

module _ (b : List ℕ) where
  pub reads_long : 32768 < length b → Err CommandLong ≡ command_read_as (command_read b)
  unfolding command_read
  reads_long h = rw (lt-ltb 32768 (length b) h)

  module _ (short : length b ≤ 32768) where
    pub reads_wrong : cut_parts b ≡ refused CommandPartWrong → Err CommandPartWrong ≡ command_read_as (command_read b)
    unfolding command_read
    reads_wrong e = rw (le-ltb 32768 (length b) short, e)

    found_is : {ps : List (List ℕ)} → parts_in (length b) b ≡ answered ps → parts_there b ≡ ps
    unfolding parts_there
    found_is e = rw e

    pub reads_counted : {count : ℕ} → Bytes b → CutInto b count → CountOf b count
    reads_counted bytes c =
        let is = found_is c.found in
        record { found = c.found ∙ ap answered (sym is); bytes = bytes; short = short; counted = c.counted ∙ ap length (sym is) }

    pub reads_judged : {count : ℕ} → CutInto b count → command_read_as (command_judged (parts_there b)) ≡ command_read_as (command_read b)
    unfolding command_read
    reads_judged c = rw (le-ltb 32768 (length b) short, c.cuts, found_is c.found)
