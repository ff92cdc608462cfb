-- What a C program reads off the record of lampreycoil_read, and hands on to lampreycoil_write.
use Rattle.std.specs.Prelude.{ℕ, zero, suc, ◌+◌, List, [], ◌++◌}
use Rattle.bytes_number.specs.Number.{number_in}
use Rattle.frame_message.specs.declared.Header.{Header}
use Rattle.frame_message.specs.Message.{Message}
use Rattle.frame_forms.specs.Forms.{route_length}
use Rattle.frame_message.specs.Writing.{given_message}
use Rattle.frame_layout.specs.Layout.{stretch}
use Rattle.call_specs.specs.Calls.{header_of}

-- how many bytes the frame took: the first number of the record
abbrev pub taken : List ℕ → ℕ
taken row = number_in row 0

-- type, flags, userid, rolemask, first field, second field: the next six
abbrev pub fields_in : List ℕ → Header
fields_in row = header_of (number_in row 1) (number_in row 2) (number_in row 3) (number_in row 4) (number_in row 5) (number_in row 6)

-- "its length grows by 38": a route with its size byte
abbrev pub route_part : ℕ
route_part = 38

-- so many routes, laid end to end without their size bytes, where the first one's data starts at a place of the bytes and the others lie 38
-- bytes apart
abbrev pub routes_from : List ℕ → ℕ → ℕ → List ℕ
routes_from bytes zero start = []
routes_from bytes (suc n) start = stretch bytes start route_length ++ routes_from bytes n (start + route_part)

-- the routes, the topic and the payload at the places that the record names: number of routes, start of the first route's data, topic start,
-- topic length, payload start, payload length
abbrev pub routes_at : List ℕ → List ℕ → List ℕ
routes_at bytes row = routes_from bytes (number_in row 7) (number_in row 8)

abbrev pub topic_at : List ℕ → List ℕ → List ℕ
topic_at bytes row = stretch bytes (number_in row 9) (number_in row 10)

abbrev pub payload_at : List ℕ → List ℕ → List ℕ
payload_at bytes row = stretch bytes (number_in row 11) (number_in row 12)

-- all of it, as lampreycoil_write is given it
abbrev pub handed_on : List ℕ → List ℕ → Message
handed_on bytes row = given_message (fields_in row) (routes_at bytes row) (topic_at bytes row) (payload_at bytes row)
