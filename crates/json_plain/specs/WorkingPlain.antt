-- Bytes that stand for themselves in a string.
use Rattle.std.specs.Prelude.{ℕ, Bool, not, ◌&&◌, ◌==◌}
use Rattle.json_scan.specs.Scan.{is_within}

unfoldable pub is_plain : ℕ → Bool
is_plain c = not (c == 34) && (not (c == 92) && is_within 32 127 c)
