-- Only the bytes that count are read.
use Rattle.std.proofs.Common.{arith}
use Rattle.frame_stream.proofs.Streaming.{streams_seen}
use Rattle.frame_stream.proofs.list_frames.Goals as goal

pub returns : goal.returns
returns c = streams_seen c.args.bytes.now c.min-end.result (omega arith) c.frames_in.ensures
