-- Where a command lies in the caller's bytes.
use Rattle.std.specs.Prelude.{ℕ, ◌+◌, cond, List, length, take}
use Rattle.frame_message.specs.Frame.{size_bytes, joined}
use Rattle.frame_layout.specs.Layout.{stretch_if}
use Rattle.mdp_command.specs.declared.CommandPlaces.{CommandPlaces}
use Rattle.mdp_command.specs.Command.{Command, has_name, has_address, has_body}
use Rattle.mdp_command.specs.CommandBytes.{front_parts}

-- where the third part's data starts, of so many bytes: behind the first two parts, and its own size
abbrev pub third_data : Command → List ℕ → ℕ
third_data c p = length (joined (take 2 (front_parts c))) + length (size_bytes (length p))

-- sender, command, name, address, body and its number of parts: "Starts are counted from the front of the bytes. The name's and the address's start is that
-- of the data, behind the size .. The body's start is the size of its first part .. What the command lacks has start 0, length 0, and 0 parts" (the C
-- interface)
unfoldable pub places_of : Command → CommandPlaces
places_of c =
    record {
      sender = c.sender;
      code = c.code;
      name = stretch_if (has_name c.sender c.code) (third_data c c.name) (length c.name);
      address = cond (has_address c.sender c.code) (third_data c c.address) 0;
      body = stretch_if (has_body c.sender c.code) (length (joined (front_parts c))) (length (joined c.body));
      parts = length c.body;
    }
