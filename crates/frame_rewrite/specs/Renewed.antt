-- What a frame's buffer holds after its body has changed: "every byte behind the new frame is zero".
use Rattle.std.specs.Prelude.{ℕ, ◌-◌, List, ◌++◌, length, replicate}

-- xs in front of a buffer, and zeros behind it to the buffer's end
abbrev pub cleared : List ℕ → List ℕ → List ℕ
cleared xs buffer = xs ++ replicate (length buffer - length xs) 0
