-- Where a message lies in the caller's bytes.
use Rattle.std.specs.Prelude.{ℕ, ◌+◌, Bool, cond, List, [], ◌∷◌, ◌++◌, length, take, drop}
use Rattle.frame_message.specs.Header.{has_topic, has_payload}
use Rattle.frame_message.specs.Message.{Message}
use Rattle.frame_message.specs.Frame.{size_bytes, joined, routing, topic_part, frame_of}
use Rattle.frame_message.specs.Writing.{is_empty}
use Rattle.frame_message.specs.declared.Stretch.{Stretch}
use Rattle.frame_layout.specs.declared.Layout.{Layout}

-- a stretch of the caller's bytes
abbrev pub stretch : List ℕ → ℕ → ℕ → List ℕ
stretch b start len = take len (drop start b)

-- where the data of a part starts that stands behind other parts: behind the frame's eight bytes, those parts, and its own size
abbrev pub data_at : List (List ℕ) → List ℕ → ℕ
data_at before p = 8 + length (joined before) + length (size_bytes (length p))

-- a part's data where its flag is set, as many bytes as are shown of it
abbrev pub stretch_if : Bool → ℕ → ℕ → Stretch
stretch_if flag start len = record { start = cond flag start 0; len = len }

-- "the answer says how many bytes the frame took", and where each part lies; the topic is shown without its zero byte
unfoldable pub layout_of : Message → Layout
layout_of m =
    record {
      taken = length (frame_of m);
      header = m.header;
      routes = length m.routes;
      route = cond (is_empty m.routes) 0 9;
      topic = stretch_if (has_topic m.header.flags) (data_at (routing m) (m.topic ++ (0 ∷ []))) (length m.topic);
      payload = stretch_if (has_payload m.header.flags) (data_at (routing m ++ topic_part m) m.payload) (length m.payload);
    }
