-- Demand 2 of the calls: the claims of specs/Frames.antt, from the two laws of the round trip.
use mathlib.Core.Path.{◌≡◌, refl, sym, ap, ◌∙◌, subst}
use Prim.Native.Nat.{ℕ, ◌+◌, ◌<◌, ◌≤◌}
use native.Mathlib.Omega.{arith}
use mathlib.Core.List.{List, ◌++◌}
use lib.ListN.{length, get_or, take, drop}
use lib.Seq.{drop_at}
use Rattle.bytes_number.specs.Number.{Bytes, four, row_bytes, number_in}
use Rattle.bytes_number.specs.Laid.{laid}
use Rattle.bytes_number.proofs.Numbers.{number-four}
use Rattle.frame_message.specs.declared.Header.{Header}
use Rattle.refusal.specs.Answer.{Answer, answered, written_over}
use Rattle.frame_message.specs.Message.{Message}
use Rattle.frame_message.specs.Working.{FieldsFit}
use Rattle.frame_message.specs.Frame.{frame_of}
use Rattle.frame_message.specs.Reading.{reading_of}
use Rattle.frame_message.specs.Writing.{cut, given_message}
use Rattle.frame_message.proofs.Forms.{routes_each}
use Rattle.frame_message.proofs.Messages.{write}
use Rattle.frame_message.proofs.RoundTrip.{write_back, read_back}
use Rattle.frame_layout.specs.Layout.{layout_of}
use Rattle.frame_message.proofs.Frames.{frame_long}
use Rattle.frame_body.proofs.Holding.{FrameBegins, begins_read, begins_written, topic_told, payload_told, topic_absent, payload_absent, route_told}
use Rattle.call_read_record.specs.Rows.{read_row}
use Rattle.call_specs.specs.Calls.{returned, recorded, wrote, Reads, Writes}
use Rattle.call_specs.proofs.ReadCalls.{ReadDone, read_done, read_on}
use Rattle.call_specs.proofs.WriteCalls.{write_whole, write_done}
use Rattle.claim_frames.specs.Records.{taken, routes_from, routes_at, handed_on}
use Rattle.claim_frames.specs.Frames.{Holds, HeldMessage, RecordHoldsMessage, WrittenBack, AcceptedIsWrittenBack, WrittenIsReadBack}
use Rattle.claim_frames.proofs.Routes.{flat, flat_cut, cut_flat, routes_from_lem}
use Rattle.claim_frames.proofs.Records.{number-told}

-- ---- bytes that begin with a message's frame, and the record of its places

module _ (b : List ℕ) (m : Message) (back : FrameBegins b m) (fits : FieldsFit m.header) (row : List ℕ) where
  abbrev record_of_lem : List ℕ
  record_of_lem = laid (row_bytes (read_row (layout_of m))) row

  at : (i : ℕ) → i < 13 → number_in record_of_lem i ≡ get_or (read_row (layout_of m)) i 0
  at i h = number-told b m back fits row i h

  pub holds : Holds b record_of_lem m
  unfolding layout_of
  holds =
      record {
        taken = at 0 (omega arith);
        fields = λ i. record { kind = at 1 (omega arith) i; flags = at 2 (omega arith) i; userid = at 3 (omega arith) i; rolemask = at 4 (omega arith) i; first = at 5 (omega arith) i; second = at 6 (omega arith) i };
        count = at 7 (omega arith);
        routes = λ i h. rw (at 8 (omega arith)) (route_told b m back i h);
        topic = rw (at 9 (omega arith), at 10 (omega arith)) (topic_told b m back);
        payload = rw (at 11 (omega arith), at 12 (omega arith)) (payload_told b m back);
        no_topic = λ clear. rw (at 9 (omega arith), at 10 (omega arith)) (topic_absent b m back clear);
        no_payload = λ clear. rw (at 11 (omega arith), at 12 (omega arith)) (payload_absent b m back clear);
      }

  -- the routes at the places told, end to end
  pub routes_told : routes_at b record_of_lem ≡ flat m.routes
  routes_told =
      let h = holds in
      ap (λ (n : ℕ). routes_from b n (number_in record_of_lem 8)) h.count ∙ routes_from_lem b m.routes (number_in record_of_lem 8) h.routes

  -- what is handed on to the writer is the message
  pub handed_on_lem : handed_on b record_of_lem ≡ m
  unfolding given_message
  handed_on_lem =
      let h = holds in
      let routes : cut (routes_at b record_of_lem) ≡ m.routes = ap cut routes_told ∙ cut_flat m.routes (routes_each m.routes back.whole.passes.routes) in
      λ i. record { header = h.fields i; routes = routes i; topic = h.topic i; payload = h.payload i }

-- ---- the calls

module _ (bytes : List ℕ) (are : Bytes bytes) where
  module _ (row listed : List ℕ) (reads : Reads bytes row 0 listed) where
    abbrev did : ReadDone bytes (length row)
    did = read_done bytes (length row) reads.returns

    abbrev m : Message
    m = did.message

    abbrev begins : FrameBegins bytes m
    begins = begins_read bytes m (write_back bytes m are did.read)

    abbrev fits : FieldsFit m.header
    fits = (write_back bytes m are did.read).fits

    listed_is : listed ≡ laid (row_bytes (read_row (layout_of m))) row
    listed_is = reads.lists ∙ ap (λ (a : Answer (List ℕ)). recorded a row) did.lists

    holds_it : Holds bytes listed m
    holds_it = subst (λ (l : List ℕ). Holds bytes l m) (sym listed_is) (holds bytes m begins fits row)

    held : HeldMessage bytes listed
    held = record { message = m; read = did.read; holds = holds_it }

    module _ (out tally : List ℕ) (room : taken listed ≤ length out) (enough : 4 ≤ length tally) (r : ℕ) (filled counted : List ℕ) (writes : Writes (handed_on bytes listed) out tally r filled counted) where
      handed : handed_on bytes listed ≡ m
      handed = ap (handed_on bytes) listed_is ∙ handed_on_lem bytes m begins fits row

      wrote_it : Writes m out tally r filled counted
      wrote_it = subst (λ (n : Message). Writes n out tally r filled counted) handed writes

      whole_is : taken listed ≡ length (frame_of m)
      whole_is = holds_it.taken

      written_back : WrittenBack bytes listed out tally r filled counted
      written_back =
          let w = write_whole m (length out) (length tally) enough (write m begins.whole.passes begins.whole.short) (omega (arith, whole_is)) in
          record {
            returns = wrote_it.returns ∙ ap returned w;
            lists = wrote_it.lists ∙ ap (λ (a : Answer (List ℕ)). recorded (wrote a) tally) w ∙ ap (λ (n : ℕ). four n ++ drop 4 tally) (sym whole_is);
            writes = wrote_it.fills ∙ ap (λ (a : Answer (List ℕ)). written_over a out) w
                ∙ ap (λ (f : List ℕ). f ++ drop (length (frame_of m)) out) begins.same
                ∙ ap (λ (n : ℕ). take n bytes ++ drop n out) (sym whole_is);
          }

  pub record_holds_message : RecordHoldsMessage bytes
  record_holds_message row listed reads = held row listed reads

  pub accepted_is_written_back : AcceptedIsWrittenBack bytes
  accepted_is_written_back row listed reads out tally room enough r filled counted writes = written_back row listed reads out tally room enough r filled counted writes

module _ (header : Header) (fits : FieldsFit header) (routes topic payload : List ℕ) where
  abbrev given : Message
  given = given_message header routes topic payload

  given_header : given.header ≡ header
  unfolding given_message
  given_header = refl

  given_routes : given.routes ≡ cut routes
  unfolding given_message
  given_routes = refl

  given_topic : given.topic ≡ topic
  unfolding given_message
  given_topic = refl

  given_payload : given.payload ≡ payload
  unfolding given_message
  given_payload = refl

  given_fits : FieldsFit given.header
  given_fits = subst FieldsFit (sym given_header) fits

  pub written_is_read_back : WrittenIsReadBack header routes topic payload
  written_is_read_back out tally filled counted writes row enough r listed reads =
      let w = write_done given (length out) (length tally) writes.returns in
      let frame = frame_of given in
      let filled_is : filled ≡ laid frame out = writes.fills ∙ ap (λ (a : Answer (List ℕ)). written_over a out) w.lists in
      let begins : FrameBegins filled given = subst (λ (b : List ℕ). FrameBegins b given) (sym filled_is) (begins_written given (drop (length frame) out) w.whole) in
      let writable = write given w.whole.passes w.whole.short in
      let read : reading_of filled ≡ answered given = ap reading_of filled_is ∙ read_back given given_fits writable (drop (length frame) out) in
      let on = read_on filled (length row) given enough read in
      let listed_is : listed ≡ laid (row_bytes (read_row (layout_of given))) row = reads.lists ∙ ap (λ (a : Answer (List ℕ)). recorded a row) on in
      let h : Holds filled listed given = subst (λ (l : List ℕ). Holds filled l given) (sym listed_is) (holds filled given begins given_fits row) in
      let counted_is : counted ≡ four (length frame) ++ drop 4 tally = writes.lists ∙ ap (λ (a : Answer (List ℕ)). recorded (wrote a) tally) w.lists in
      let short : length frame < 4294967296 = omega (arith, frame_long given, w.whole.short) in
      record {
        returns = reads.returns ∙ ap returned on;
        whole_frame = h.taken ∙ sym (ap (λ (l : List ℕ). number_in l 0) counted_is ∙ number-four (length frame) (drop 4 tally) short);
        same_fields = h.fields ∙ given_header;
        same_routes = ap (routes_at filled) listed_is ∙ routes_told filled given begins given_fits row ∙ ap flat given_routes ∙ flat_cut routes;
        same_topic = h.topic ∙ given_topic;
        same_payload = h.payload ∙ given_payload;
        tail = ap (drop 52) listed_is ∙ drop_at (row_bytes (read_row (layout_of given))) (drop 52 row) 52 refl;
      }
