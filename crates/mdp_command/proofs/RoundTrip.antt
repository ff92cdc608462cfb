-- Both ways round, for every command and for all bytes.
-- read-back: what is written is read as the command that was written. write-back: what is read is written as the bytes that were read.
use mathlib.Core.Path.{◌≡◌, sym, ap, ◌∙◌}
use mathlib.Core.Bool.{true, not}
use Prim.Native.Nat.{ℕ, ◌+◌, ◌≤◌}
use mathlib.Core.List.{List, ◌++◌}
use native.Mathlib.Omega.{arith}
use borrow.Author.Tests.{ltb-false, le-ltb, not-false}
use lib.Dec.{ltb}
use lib.ListN.{length, length-append}
use Rattle.bytes_number.specs.Number.{Bytes}
use Rattle.refusal.specs.declared.Refusal.TheVariants.{OutputShort}
use Rattle.refusal.specs.Answer.{answered}
use Rattle.refusal.proofs.Answers.{passed, both, answered_same}
use Rattle.frame_message.specs.Frame.{joined}
use Rattle.frame_message.proofs.Parts.{joined-append, joined_sized}
use Rattle.mdp_command.specs.Command.{Command, is_command}
use Rattle.mdp_command.specs.CommandBytes.{front_parts, command_parts, command_bytes, cut_parts}
use Rattle.mdp_command.specs.CommandWriting.{command_written, Given, given_of, command_of, command_into}
use Rattle.mdp_command.specs.CommandReading.{command_judged, command_read}
use Rattle.mdp_command.proofs.Cutting.{cut_split, cut-joined}
use Rattle.mdp_command.proofs.Commands.{Passes, Written, written, write, judge, held}

-- the bytes in front of the body, and the body's
pub bytes_split : (c : Command) → command_bytes c ≡ joined (front_parts c) ++ joined c.body
unfolding command_bytes command_parts
bytes_split c = joined-append (front_parts c) c.body

pub bytes-length : (c : Command) → length (command_bytes c) ≡ length (joined (front_parts c)) + length (joined c.body)
bytes-length c = ap length (bytes_split c) ∙ length-append (joined (front_parts c)) (joined c.body)

-- ---- read back

pub read_back : (c : Command) → is_command c.sender c.code ≡ true → Passes c → length (command_bytes c) ≤ 32768 → command_read (command_bytes c) ≡ answered c
unfolding command_read command_bytes
read_back c known p short =
    rw (le-ltb 32768 (length (joined (command_parts c))) short, cut-joined (command_parts c) (joined_sized (command_parts c) (omega arith))) (judge c known p)

-- ---- write back

-- a command read from b: its bytes are b, and the writer writes it
pub record WrittenBack (b : List ℕ) (c : Command) : Type 0 where
  pub same : command_bytes c ≡ b
  pub short : length (command_bytes c) ≤ 32768
  pub known : is_command c.sender c.code ≡ true
  pub passes : Passes c

pub write_back : (b : List ℕ) (c : Command) → Bytes b → command_read b ≡ answered c → WrittenBack b c
unfolding command_read command_bytes
write_back b c bytes e =
    let p = passed (ltb 32768 (length b)) _ _ c e in
    let two = both (cut_parts b) command_judged c p.rest in
    let h = held two.value c two.second in
    let same : joined (command_parts c) ≡ b = ap joined h.same ∙ sym (cut_split b two.value bytes two.first).same in
    record { same = same; short = omega (arith, ltb-false 32768 (length b) p.test, ap length same); known = h.known; passes = h.passes }

-- ---- what the writer is given

-- what it wrote is a command, whose body are the bytes given
pub record Gave (room : ℕ) (g : Given) (bytes : List ℕ) : Type 0 where
  pub parts : List (List ℕ)
  pub cuts : cut_parts g.body ≡ answered parts
  pub known : is_command g.sender g.code ≡ true
  pub written : Written (command_of g parts) bytes
  pub fits : length bytes ≤ room

pub gave : (room : ℕ) (g : Given) (bytes : List ℕ) → command_into room g ≡ answered bytes → Gave room g bytes
unfolding command_into
gave room g bytes e =
    let p = passed (not (is_command g.sender g.code)) _ _ bytes e in
    let cut = both (cut_parts g.body) _ bytes p.rest in
    let wrote = both (command_written (command_of g cut.value)) _ bytes cut.second in
    let roomy = passed (ltb room (length wrote.value)) OutputShort (answered wrote.value) bytes wrote.second in
    let same = answered_same roomy.rest in
    record {
      parts = cut.value;
      cuts = cut.first;
      known = not-false (is_command g.sender g.code) p.test;
      written = written (command_of g cut.value) bytes (wrote.first ∙ ap answered same);
      fits = omega (arith, ltb-false room (length wrote.value) roomy.test, ap length same);
    }

-- a command, given to the writer
abbrev pub given_for : Command → Given
given_for c = given_of c.sender c.code c.name c.address (joined c.body)

pub give : (room : ℕ) (c : Command) → is_command c.sender c.code ≡ true → Passes c → length (command_bytes c) ≤ 32768 → length (command_bytes c) ≤ room →
    command_into room (given_for c) ≡ answered (command_bytes c)
unfolding command_into
give room c known p short fits =
    let parts = cut-joined c.body (joined_sized c.body (omega (arith, bytes-length c))) in
    rw (known, parts, write c p short, le-ltb room (length (command_bytes c)) fits)
