-- A frame changed in its buffer, by what is done to its body. Each is the buffer as it was where the change has no room.
use Rattle.std.specs.Prelude.{ℕ, ◌+◌, cond, ◌&&◌, List, ◌++◌, leb, ltb, length, take, drop}
use Rattle.frame_message.specs.declared.Header.{Header}
use Rattle.frame_message.specs.Header.{header_bytes}
use Rattle.frame_message.specs.Frame.{most_body, part_bytes, framed}
use Rattle.frame_rewrite.specs.Renewed.{cleared}

-- the body of so many bytes behind the eight in front
abbrev pub body_in : ℕ → List ℕ → List ℕ
body_in size buffer = take size (drop 8 buffer)

-- a frame of this body
abbrev pub renewed : List ℕ → List ℕ → List ℕ
renewed body buffer = cleared (framed body) buffer

-- a part of less than 255 bytes in front of the body
abbrev pub with_part : List ℕ → ℕ → List ℕ → List ℕ
with_part part size buffer =
    cond (ltb (length part) 255 && (leb size most_body && leb (9 + length part + size) (length buffer))) (renewed (part_bytes part ++ body_in size buffer) buffer) buffer

-- the body without its first so many bytes
abbrev pub without_front : ℕ → ℕ → List ℕ → List ℕ
without_front n size buffer =
    cond (leb size most_body && (leb n size && leb (8 + size) (length buffer))) (renewed (drop n (body_in size buffer)) buffer) buffer

-- the first so many bytes of the body, and a header behind them
abbrev pub with_header : Header → ℕ → List ℕ → List ℕ
with_header h size buffer = cond (leb size most_body && leb (8 + (size + 21)) (length buffer)) (renewed (body_in size buffer ++ part_bytes (header_bytes h)) buffer) buffer
