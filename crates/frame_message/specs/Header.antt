-- The header's fields: which types and flags there are, which parts go with them, and which fields are free.
use Rattle.std.specs.Prelude.{ℕ, ◌/◌, ◌%◌, Bool, true, cond, not, ◌&&◌, ◌||◌, List, ◌∷◌, ◌++◌, eqb, ltb, get_or, drop}
use Rattle.bytes_number.specs.Number.{number, four}
use Rattle.frame_message.specs.declared.Header.{Header}

-- "Flags: 01 topic, 02 payload, 04 noresponse, 08 route, 10 upstream, 20 private, 40 streaming"
abbrev pub has_topic : ℕ → Bool
has_topic flags = eqb (flags % 2) 1

abbrev pub has_payload : ℕ → Bool
has_payload flags = eqb (flags / 2 % 2) 1

abbrev pub no_response : ℕ → Bool
no_response flags = eqb (flags / 4 % 2) 1

abbrev pub has_route : ℕ → Bool
has_route flags = eqb (flags / 8 % 2) 1

abbrev pub is_upstream : ℕ → Bool
is_upstream flags = eqb (flags / 16 % 2) 1

abbrev pub is_streaming : ℕ → Bool
is_streaming flags = eqb (flags / 64 % 2) 1

-- "1 request, 2 response, 4 event, 8 control"
abbrev pub request_type : ℕ
request_type = 1

abbrev pub response_type : ℕ
response_type = 2

abbrev pub event_type : ℕ
event_type = 4

abbrev pub control_type : ℕ
control_type = 8

abbrev pub is_type : ℕ → Bool
is_type kind = eqb kind request_type || eqb kind response_type || eqb kind event_type || eqb kind control_type

-- "80 is refused"
abbrev pub are_flags : ℕ → Bool
are_flags flags = ltb flags 0x80

-- Requests and responses: "delimiter and topic required, routes and payload may be"; events: "topic required, payload may be, no routes or
-- delimiter"; control: "header alone". "Flags 01, 02 and 08 agree exactly with the parts present", so this is a test of the flags.
unfoldable pub parts_fit : Header → Bool
parts_fit h =
    let flags = h.flags in
    cond (eqb h.kind control_type) (not (has_route flags) && not (has_topic flags) && not (has_payload flags))
    (cond (eqb h.kind event_type) (not (has_route flags) && has_topic flags)
    (has_route flags && has_topic flags))

-- "nodeid 4294967294 never appears on the wire"
abbrev pub no_node : ℕ
no_node = 4294967294

-- 10: "request nodeid 4294967294; event's unused field not zero"
unfoldable pub fields_good : Header → Bool
fields_good h =
    cond (eqb h.kind request_type) (not (eqb h.first no_node))
    (cond (eqb h.kind event_type) (eqb h.second 0) true)

-- "The header .. has 20 bytes: 8E, 01, type, .."
abbrev pub header_length : ℕ
header_length = 20

abbrev pub magic : ℕ
magic = 0x8E

abbrev pub version : ℕ
version = 1

-- "20 bytes: 8E, 01, type, flags, userid, rolemask, two 4-byte fields"
unfoldable pub header_bytes : Header → List ℕ
header_bytes h = magic ∷ version ∷ h.kind ∷ h.flags ∷ (four h.userid ++ four h.rolemask ++ four h.first ++ four h.second)

-- the fields in the 20 bytes of a header
unfoldable pub header_in : List ℕ → Header
header_in p =
    record {
      kind = get_or p 2 0;
      flags = get_or p 3 0;
      userid = number (drop 4 p);
      rolemask = number (drop 8 p);
      first = number (drop 12 p);
      second = number (drop 16 p);
    }
