-- The frames listed so far, and the stream from here on, are the stream from the start on.
use Rattle.std.proofs.Common.{◌≡◌, Result, List, ℕ, ◌+◌, ◌-◌, ◌≤◌, length, take, drop, length-drop, arith, ap, ◌∙◌}
use borrow.Author.Rules.{part_to_end}
use Rattle.bytes_number.proofs.Numbers.{bytes_of_lem}
use Rattle.refusal.specs.declared.Refusal.{Refusal}
use Rattle.frame_layout.specs.declared.Layout.{Layout}
use Rattle.frame_message.specs.Reading.{reading_of}
use Rattle.frame_layout.specs.WorkingPlacing.{read_as}
use Rattle.frame_body.proofs.Readings.{refused_read, accepted_read}
use Rattle.frame_stream.proofs.Streaming.{listed_whole, listed_used, listed_length, listed_stopped, listed_full, listed_more}
use Rattle.frame_stream.proofs.frames_in.Goals as goal

-- what the reader said of what is left
rest : (bytes : List ℕ) (start : ℕ) {r : Result Layout Refusal} → r ≡ read_as (reading_of (take (length bytes - start) (drop start bytes))) → r ≡ read_as (reading_of (drop start bytes))
rest bytes start e = e ∙ ap (λ (xs : List ℕ). read_as (reading_of xs)) (part_to_end bytes start)

pub overflow_add-start : goal.overflow_add-start
overflow_add-start c =
    let bytes = c.args.bytes.now in
    let says = rest bytes c.loop-refusal.start c.in-Ok.ensures in
    let frame = listed_whole c.loop-refusal.invariant (accepted_read (reading_of (drop c.loop-refusal.start bytes)) says) (bytes_of_lem bytes (λ i. (c.type_inv.bytes i).fits)) in
    omega (arith, frame.within, length-drop c.loop-refusal.start bytes, c.loop-refusal.invariant.within)

pub loop-refusal-smaller : goal.loop-refusal-smaller
loop-refusal-smaller c =
    let bytes = c.args.bytes.now in
    let says = rest bytes c.loop-refusal.start c.in-Ok.ensures in
    let frame = listed_whole c.loop-refusal.invariant (accepted_read (reading_of (drop c.loop-refusal.start bytes)) says) (bytes_of_lem bytes (λ i. (c.type_inv.bytes i).fits)) in
    omega (arith, frame.least, frame.within, length-drop c.loop-refusal.start bytes)

pub loop-refusal-preserved : goal.loop-refusal-preserved
loop-refusal-preserved c =
    let bytes = c.args.bytes.now in
    let says = rest bytes c.loop-refusal.start c.in-Ok.ensures in
    let room : c.loop-refusal.used + 8 ≤ length c.loop-refusal.list = omega arith in
    listed_more c.loop-refusal.invariant (accepted_read (reading_of (drop c.loop-refusal.start bytes)) says) (bytes_of_lem bytes (λ i. (c.type_inv.bytes i).fits)) room c.put_pair.ensures

pub returns-in-Err : goal.returns-in-Err
returns-in-Err c =
    let bytes = c.args.bytes.now in
    let says = rest bytes c.loop-refusal.start c.in-Err.ensures in
    listed_stopped c.loop-refusal.invariant (refused_read (reading_of (drop c.loop-refusal.start bytes)) says)

pub returns-then-list-used-lt-ENTRY : goal.returns-then-list-used-lt-ENTRY
returns-then-list-used-lt-ENTRY c =
    let bytes = c.args.bytes.now in
    let says = rest bytes c.loop-refusal.start c.in-Ok.ensures in
    let l = c.loop-refusal.invariant in
    listed_full l (accepted_read (reading_of (drop c.loop-refusal.start bytes)) says).is (omega (arith, listed_used l, listed_length l, l.room))
