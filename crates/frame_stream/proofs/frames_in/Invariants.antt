use Rattle.std.proofs.Common.{length, ◌-◌}
use Rattle.frame_stream.proofs.Streaming.{Listed}
use Rattle.frame_stream.proofs.frames_in.Given as goal

abbrev pub invariant-loop-refusal : goal.invariant-loop-refusal
invariant-loop-refusal l = Listed l.bytes l.fn.list l.list l.start l.entries l.used

abbrev pub decreases-loop-refusal : goal.decreases-loop-refusal
decreases-loop-refusal l = length l.bytes - l.start
