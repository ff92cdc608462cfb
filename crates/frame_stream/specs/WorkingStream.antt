-- What the code of a stream promises.
use Rattle.std.specs.Prelude.{◌≡◌, ℕ, List, length}
use Rattle.bytes_number.specs.Number.{row_bytes}
use Rattle.bytes_number.specs.Laid.{laid}
use Rattle.frame_stream.specs.declared.Stopped.{Stopped}
use Rattle.frame_stream.specs.Stream.{Stream, list_row}

-- a stream that comes to s says r, and leaves the list so: "it tells how many entries it wrote, and bytes behind them stay" (paper 01)
pub record Streams (s : Stream) (list : List ℕ) (r : Stopped) (filled : List ℕ) : Type 0 where
  pub told : r ≡ record { entries = length s.frames; refusal = s.stopped; start = s.stop }
  pub fills : filled ≡ laid (row_bytes (list_row s.frames)) list
