-- The messages that a step makes.
use Rattle.std.specs.Prelude.{ℕ, Bool, cond, ◌||◌, List, [], ◌∷◌, ltb, length, drop}
use Rattle.frame_message.specs.declared.Header.{Header}
use Rattle.frame_message.specs.Header.{response_type, is_streaming}
use Rattle.frame_message.specs.Message.{Message}
use Rattle.frame_message.specs.Frame.{most_body, body_of}
use Rattle.frame_message.specs.Writing.{most_routes}

-- whose the error replies are: the userid and rolemask that they carry
pub record Owner : Type 0 where
  pub userid : ℕ
  pub rolemask : ℕ

abbrev pub owner_of : ℕ → ℕ → Owner
owner_of userid rolemask = record { userid = userid; rolemask = rolemask }

-- a message with these routes, and all else as it was
abbrev pub with_routes : Message → List (List ℕ) → Message
with_routes m routes = record { header = m.header; routes = routes; topic = m.topic; payload = m.payload }

-- "A forwarded request gains this broker's identity on top"
abbrev pub pushed : List ℕ → Message → Message
pushed identity m = with_routes m (identity ∷ m.routes)

-- "remove it": the response without its top route
abbrev pub popped : Message → Message
popped m = with_routes m (drop 1 m.routes)

-- "The error reply has type 2, the request's routes, topic and matchtag, the error number, userid FFFFFFFF, rolemask 0, flags 09, or 49 if streaming
-- was set, no payload." Userid and rolemask are the caller's to give.
abbrev pub reply_header : ℕ → ℕ → ℕ → Header → Header
reply_header userid rolemask errnum request =
    record {
      kind = response_type;
      flags = cond (is_streaming request.flags) 0x49 0x09;
      userid = userid;
      rolemask = rolemask;
      first = errnum;
      second = request.second;
    }

abbrev pub error_reply : ℕ → ℕ → ℕ → Message → Message
error_reply userid rolemask errnum m = record { header = reply_header userid rolemask errnum m.header; routes = m.routes; topic = m.topic; payload = [] }

-- 12: "forwarding would make 65 routes or a body above 32,768"
abbrev pub too_large : Message → Bool
too_large m = ltb most_routes (length m.routes) || ltb most_body (length (body_of m))
