-- The claims of specs/Commands.antt, from both ways round (mdp_command/proofs/RoundTrip.antt).
use mathlib.Core.Path.{◌≡◌, refl, sym, ap, ◌∙◌, subst}
use Prim.Native.Nat.{ℕ, ◌+◌, ◌<◌, ◌≤◌}
use native.Mathlib.Omega.{arith}
use mathlib.Core.List.{List, ◌++◌}
use lib.ListN.{length, get_or, take, drop}
use lib.Seq.{drop_at, take_at}
use Rattle.bytes_number.specs.Number.{Bytes, four, row_bytes, number_in}
use Rattle.bytes_number.specs.Laid.{laid}
use Rattle.bytes_number.proofs.Numbers.{number-four}
use Rattle.bytes_number.proofs.Rows.{row_number}
use Rattle.refusal.specs.Answer.{Answer, answered, written_over}
use Rattle.refusal.proofs.Answers.{answered_same}
use Rattle.frame_message.specs.Frame.{joined}
use Rattle.frame_message.proofs.Lists.{each_at}
use Rattle.mdp_command.specs.Command.{Command}
use Rattle.mdp_command.specs.CommandBytes.{command_bytes}
use Rattle.mdp_command.specs.CommandReading.{command_read}
use Rattle.mdp_command.specs.CommandWriting.{Given, command_of}
use Rattle.mdp_command.specs.Places.{places_of}
use Rattle.mdp_command.proofs.Cutting.{cut_split, wrong_size}
use Rattle.mdp_command.proofs.RoundTrip.{read_back, WrittenBack, write_back, Gave, gave, given_for, give}
use Rattle.call_specs.specs.Calls.{returned, recorded, wrote}
use Rattle.call_specs.specs.CommandCalls.{command_row, ReadsCommand, WritesCommand}
use Rattle.call_specs.proofs.CommandCalls.{command_on, CommandDone, command_done, given_on, GivenDone, given_done}
use Rattle.claim_mdp.specs.CommandRecords.{command_handed_on}
use Rattle.claim_mdp.specs.Commands.{HoldsCommand, RecordHoldsCommand, CommandWrittenBack, ReadIsWrittenBack, written_in, CommandReadBack, GivenIsReadBack, NeverBoth, AnyNumberOfParts}
use Rattle.claim_mdp.proofs.Telling.{Tells, places_tell}

-- ---- the record of a command's places

module _ (b : List ℕ) (c : Command) (t : Tells b c (places_of c)) (row : List ℕ) where
  abbrev numbers : List ℕ
  numbers = command_row (places_of c)

  abbrev record_of_lem : List ℕ
  record_of_lem = laid (row_bytes numbers) row

  at : (i : ℕ) → i < 8 → number_in record_of_lem i ≡ get_or numbers i 0
  at i h = row_number numbers (drop (length (row_bytes numbers)) row) i h (each_at (λ (n : ℕ). n < 4294967296) numbers i 0 t.fit h)

  pub holds : HoldsCommand b record_of_lem c
  holds =
      record {
        sender = at 0 (omega arith) ∙ t.sender;
        code = at 1 (omega arith) ∙ t.code;
        name = rw (at 2 (omega arith), at 3 (omega arith)) t.name;
        address = rw (at 4 (omega arith)) t.address;
        body = rw (at 5 (omega arith), at 6 (omega arith)) t.body;
        parts = at 7 (omega arith) ∙ t.parts;
        ends = λ has. rw (at 5 (omega arith), at 6 (omega arith)) (t.ends has);
        no_name = λ none. (at 2 (omega arith) ∙ (t.no_name none).0, at 3 (omega arith) ∙ (t.no_name none).1);
        no_address = λ none. at 4 (omega arith) ∙ t.no_address none;
        no_body = λ none. (at 5 (omega arith) ∙ (t.no_body none).0, at 6 (omega arith) ∙ (t.no_body none).1, at 7 (omega arith) ∙ (t.no_body none).2);
      }

-- what is handed on to the writer is the command
handed_on_lem : (b listed : List ℕ) (c : Command) → HoldsCommand b listed c → command_handed_on b listed ≡ given_for c
handed_on_lem b listed c h = λ i. record { sender = h.sender i; code = h.code i; name = h.name i; address = h.address i; body = h.body i }

-- ---- the calls

module _ (bytes : List ℕ) (are : Bytes bytes) where
  module _ (row listed : List ℕ) (reads : ReadsCommand bytes row 0 listed) where
    abbrev did : CommandDone bytes (length row)
    did = command_done bytes (length row) reads.returns

    abbrev c : Command
    c = did.command

    back : WrittenBack bytes c
    back = write_back bytes c are did.read

    listed_is : listed ≡ laid (row_bytes (command_row (places_of c))) row
    listed_is = reads.lists ∙ ap (λ (a : Answer (List ℕ)). recorded a row) did.lists

    tells : Tells bytes c (places_of c)
    tells = places_tell bytes c back.known back.passes back.same (omega (arith, back.short, ap length back.same))

    holds_it : HoldsCommand bytes listed c
    holds_it = subst (λ (l : List ℕ). HoldsCommand bytes l c) (sym listed_is) (holds bytes c tells row)

    module _ (out tally : List ℕ) (room : length bytes ≤ length out) (enough : 4 ≤ length tally) (r : ℕ) (filled counted : List ℕ) (writes : WritesCommand (command_handed_on bytes listed) out tally r filled counted) where
      wrote_it : WritesCommand (given_for c) out tally r filled counted
      wrote_it = subst (λ (g : Given). WritesCommand g out tally r filled counted) (handed_on_lem bytes listed c holds_it) writes

      written_back : CommandWrittenBack bytes out tally r filled counted
      written_back =
          let w = given_on (given_for c) (length out) (length tally) enough ∙ give (length out) c back.known back.passes back.short (omega (arith, ap length back.same)) ∙ ap answered back.same in
          record {
            returns = wrote_it.returns ∙ ap returned w;
            lists = wrote_it.lists ∙ ap (λ (a : Answer (List ℕ)). recorded (wrote a) tally) w;
            writes = wrote_it.fills ∙ ap (λ (a : Answer (List ℕ)). written_over a out) w;
          }

  pub record_holds_command : RecordHoldsCommand bytes
  record_holds_command row listed reads = record { command = c row listed reads; read = (did row listed reads).read; holds = holds_it row listed reads }

  pub read_is_written_back : ReadIsWrittenBack bytes
  read_is_written_back row listed reads out tally room enough r filled counted writes = written_back row listed reads out tally room enough r filled counted writes

  pub any-number_of_parts : AnyNumberOfParts bytes
  any-number_of_parts r e = wrong_size (length bytes) bytes r are (omega arith) e

-- ---- what was written

module _ (g : Given) (out tally filled counted : List ℕ) (writes : WritesCommand g out tally 0 filled counted) where
  abbrev done : GivenDone g (length out) (length tally)
  done = given_done g (length out) (length tally) writes.returns

  abbrev gives : Gave (length out) g done.bytes
  gives = gave (length out) g done.bytes done.writes

  abbrev made : Command
  made = command_of g gives.parts

  short : length done.bytes ≤ 32768
  short = omega (arith, gives.written.short, ap length gives.written.same)

  -- the bytes written are the command's
  pub made_bytes : written_in filled counted ≡ command_bytes made
  made_bytes =
      let is = done.lists in
      let counted_is : counted ≡ four (length done.bytes) ++ drop 4 tally = writes.lists ∙ ap (λ (a : Answer (List ℕ)). recorded (wrote a) tally) is in
      let filled_is : filled ≡ laid done.bytes out = writes.fills ∙ ap (λ (a : Answer (List ℕ)). written_over a out) is in
      let number : number_in counted 0 ≡ length done.bytes = ap (λ (l : List ℕ). number_in l 0) counted_is ∙ number-four (length done.bytes) (drop 4 tally) (omega (arith, short)) in
      ap (λ (n : ℕ). take n filled) number ∙ ap (take (length done.bytes)) filled_is ∙ take_at done.bytes (drop (length done.bytes) out) (length done.bytes) refl ∙ sym gives.written.same

  pub made_read : command_read (written_in filled counted) ≡ answered made
  made_read = ap command_read made_bytes ∙ read_back made gives.known gives.written.passes gives.written.short

  module _ (are : Bytes g.body) (row : List ℕ) (enough : 32 ≤ length row) (r : ℕ) (listed : List ℕ) (reads : ReadsCommand (written_in filled counted) row r listed) where
    abbrev b : List ℕ
    b = written_in filled counted

    read_again : CommandReadBack g b row r listed
    read_again =
        let on = command_on b (length row) enough made made_read in
        let tells = places_tell b made gives.known gives.written.passes (sym made_bytes) (omega (arith, gives.written.short, ap length made_bytes)) in
        let listed_is : listed ≡ laid (row_bytes (command_row (places_of made))) row = reads.lists ∙ ap (λ (a : Answer (List ℕ)). recorded a row) on in
        let h : HoldsCommand b listed made = subst (λ (l : List ℕ). HoldsCommand b l made) (sym listed_is) (holds b made tells row) in
        let body : joined gives.parts ≡ g.body = sym (cut_split g.body gives.parts are gives.cuts).same in
        record {
          returns = reads.returns ∙ ap returned on;
          same_sender = h.sender;
          same_code = h.code;
          same_name = h.name;
          same_address = h.address;
          same_body = h.body ∙ body;
          tail = ap (drop 32) listed_is ∙ drop_at (row_bytes (command_row (places_of made))) (drop 32 row) 32 refl;
        }

pub given_is_read_back : (g : Given) → Bytes g.body → GivenIsReadBack g
given_is_read_back g are out tally filled counted writes row enough r listed reads = read_again g out tally filled counted writes are row enough r listed reads

-- ---- never both

one_sender : {s t : ℕ} → s ≡ 1 → t ≡ 2 → s ≡ t → ⊥
one_sender e f g = omega arith

pub never_both : (bytes : List ℕ) → Bytes bytes → NeverBoth bytes
never_both bytes are =
    record {
      reads = λ row other listed others reads again is was.
          let same : c bytes are row listed reads ≡ c bytes are other others again = answered_same (sym (did bytes are row listed reads).read ∙ (did bytes are other others again).read) in
          one_sender (sym (holds_it bytes are row listed reads).sender ∙ is) (sym (holds_it bytes are other others again).sender ∙ was) (ap (λ (x : Command). x.sender) same);
      writes = λ g h is was out tally filled counted out' tally' filled' counted' one two e f.
          let first : command_read bytes ≡ answered (made g out tally filled counted one) = ap command_read (sym e) ∙ made_read g out tally filled counted one in
          let second : command_read bytes ≡ answered (made h out' tally' filled' counted' two) = ap command_read (sym f) ∙ made_read h out' tally' filled' counted' two in
          let same = answered_same (sym first ∙ second) in
          one_sender is was (ap (λ (x : Command). x.sender) same);
    }
