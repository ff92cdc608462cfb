-- A frame is refused as its last part is, or as the reader says.
use Rattle.std.proofs.Common.{rules}
use Rattle.frame_body.proofs.Readings.{refused_read, accepted_read}
use Rattle.frame_message.specs.Reading.{reading_of}
use Rattle.frame_fault.proofs.Bodies.{verdict_refused, refuses_body, read_verdict}
use Rattle.frame_fault.proofs.why.why_counted.Goals as goal

pub returns-in_err-test_last : goal.returns-in_err-test_last
returns-in_err-test_last c =
    let told = verdict_refused c.args.bytes.now (refuses_body c.args.bytes.now c.requires.0 c.in_err-test_last.ensures) in
    search rules

pub returns-in_err-read : goal.returns-in_err-read
returns-in_err-read c =
    let told = verdict_refused c.args.bytes.now (refused_read (reading_of c.args.bytes.now) c.in_err-read.ensures) in
    search rules

pub returns : goal.returns
returns c = read_verdict c.args.bytes.now (accepted_read (reading_of c.args.bytes.now) c.in_ok-read.ensures).is
