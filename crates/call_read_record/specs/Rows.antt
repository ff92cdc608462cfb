-- A read's answer as a row of numbers.
use Rattle.std.specs.Prelude.{ℕ, List, [], ◌∷◌}
use Rattle.frame_layout.specs.declared.Layout.{Layout}

-- bytes the frame took, type, flags, userid, rolemask, first field, second field, number of routes, start of the first route's data,
-- topic start, topic length, payload start, payload length
abbrev pub read_row : Layout → List ℕ
read_row f =
    f.taken ∷ f.header.kind ∷ f.header.flags ∷ f.header.userid ∷ f.header.rolemask ∷ f.header.first ∷ f.header.second
    ∷ f.routes ∷ f.route ∷ f.topic.start ∷ f.topic.len ∷ f.payload.start ∷ f.payload.len ∷ []
