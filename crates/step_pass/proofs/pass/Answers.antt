-- The step behind the tables: what the reader said of the buffer, and one law of `Passing` for each way through the order.
use Rattle.std.proofs.Common.{arith, rules, refl, sym, ap, ◌∙◌}
use Rattle.bytes_number.specs.Number.{Bytes}
use Rattle.bytes_number.proofs.Numbers.{bytes_of_lem}
use Rattle.bytes_number.proofs.Truth.{true_false}
use Rattle.frame_message.specs.WorkingKind.{type_number}
use Rattle.frame_message.specs.Reading.{reading_of}
use Rattle.frame_body.proofs.Readings.{refused_read}
use Rattle.step_routing.specs.Routed.{tables_in}
use Rattle.step_routing.proofs.Outcomes.{routed_request, routed_response, routed_neither}
use Rattle.step_pass.specs.Working.{held_in}
use Rattle.step_pass.proofs.Lying.{refuses, makes_as}
use Rattle.step_pass.proofs.Passing.{read_accepted, pass_outside, pass_unread, pass_as}
use Rattle.step_pass.proofs.Types.{type_read, lies_read, some_type, request_named, response_named}
use Rattle.step_pass.proofs.pass.Goals as goal

pub returns-then-b-ranks_in : goal.returns-then-b-ranks_in
returns-then-b-ranks_in c =
    refuses (pass_outside (tables_in c.args.t) c.args.b c.args.buffer.now (omega (arith, c.if-b-ranks_in.true, c.ranks_in.ensures)))

pub returns-in_err-f : goal.returns-in_err-f
returns-in_err-f c =
    let told =
    refuses {buffer = c.args.buffer.now}
    (pass_unread (tables_in c.args.t) c.args.b c.args.buffer.now
    (omega (arith, c.if-b-ranks_in.false, c.ranks_in.ensures))
    c.in_err-f.field-0.0
    (refused_read (reading_of c.args.buffer.now) c.in_err-f.ensures)) in
    search rules

pub request-requires : goal.request-requires
request-requires c =
    let bytes : Bytes c.args.buffer.now = search (rules, bytes_of_lem) in
    lies_read c.args.buffer.now c.in_ok-f.f 1 bytes (read_accepted c.args.buffer.now c.in_ok-f.f c.in_ok-f.ensures) (sym c.in_ok-kind.ensures ∙ ap type_number c.in-Request.is)

pub response-requires : goal.response-requires
response-requires c =
    let bytes : Bytes c.args.buffer.now = search (rules, bytes_of_lem) in
    lies_read c.args.buffer.now c.in_ok-f.f 2 bytes (read_accepted c.args.buffer.now c.in_ok-f.f c.in_ok-f.ensures) (sym c.in_ok-kind.ensures ∙ ap type_number c.in-Response.is)

pub returns-in-Request : goal.returns-in-Request
returns-in-Request c =
    let read = read_accepted c.args.buffer.now c.in_ok-f.f c.in_ok-f.ensures in
    let kind = type_read c.args.buffer.now c.in_ok-f.f 1 read (sym c.in_ok-kind.ensures ∙ ap type_number c.in-Request.is) in
    makes_as
    (pass_as (tables_in c.args.t) c.args.b c.args.buffer.now
    (omega (arith, c.if-b-ranks_in.false, c.ranks_in.ensures))
    (held_in c.args.buffer.now)
    read.read
    (routed_request (tables_in c.args.t) c.args.b (held_in c.args.buffer.now) kind))
    c.request.ensures

pub returns-in-Response : goal.returns-in-Response
returns-in-Response c =
    let read = read_accepted c.args.buffer.now c.in_ok-f.f c.in_ok-f.ensures in
    let kind = type_read c.args.buffer.now c.in_ok-f.f 2 read (sym c.in_ok-kind.ensures ∙ ap type_number c.in-Response.is) in
    makes_as
    (pass_as (tables_in c.args.t) c.args.b c.args.buffer.now
    (omega (arith, c.if-b-ranks_in.false, c.ranks_in.ensures))
    (held_in c.args.buffer.now)
    read.read
    (routed_response (tables_in c.args.t) c.args.b (held_in c.args.buffer.now) kind))
    c.response.ensures

-- what was read has one of the four types
pub returns-in_err-kind : goal.returns-in_err-kind
returns-in_err-kind c =
    let bytes : Bytes c.args.buffer.now = search (rules, bytes_of_lem) in
    let typed = some_type c.args.buffer.now c.in_ok-f.f bytes (read_accepted c.args.buffer.now c.in_ok-f.f c.in_ok-f.ensures) in
    absurd (true_false (sym typed ∙ c.in_err-kind.ensures.1))

pub returns-in_default : goal.returns-in_default
returns-in_default c =
    let read = read_accepted c.args.buffer.now c.in_ok-f.f c.in_ok-f.ensures in
    let kind = type_read c.args.buffer.now c.in_ok-f.f c.in_ok-f.f.header.kind read refl in
    refuses
    (pass_as (tables_in c.args.t) c.args.b c.args.buffer.now
    (omega (arith, c.if-b-ranks_in.false, c.ranks_in.ensures))
    (held_in c.args.buffer.now)
    read.read
    (routed_neither (tables_in c.args.t) c.args.b (held_in c.args.buffer.now)
    (λ e. c.in_default.not-Request (request_named c.in_ok-kind.kind (c.in_ok-kind.ensures ∙ sym kind ∙ e)))
    (λ e. c.in_default.not-Response (response_named c.in_ok-kind.kind (c.in_ok-kind.ensures ∙ sym kind ∙ e)))))
