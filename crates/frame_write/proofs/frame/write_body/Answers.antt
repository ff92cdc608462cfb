-- Each part is laid behind those before it, and what the whole body has room for has room for each.
use Rattle.std.proofs.Common.{refl, length, arith}
use lib.ListN.{length-append}
use Rattle.frame_message.specs.Header.{header_bytes}
use Rattle.frame_message.specs.Frame.{part_bytes}
use Rattle.bytes_number.proofs.Laying.{lays_more, lays_rest, lays_counted, lays_length}
use Rattle.frame_write_check.proofs.Bodies.{body_parts}
use Rattle.frame_write.proofs.Bodies.{Room, group_fits, topic_fits, payload_fits, header_fits}
use Rattle.frame_write.proofs.frame.write_body.Goals as goal

pub write_group-at-requires-clause-routes_in_bounds : goal.write_group-at-requires-clause-routes_in_bounds
write_group-at-requires-clause-routes_in_bounds c =
    let room : Room c.args.draft.now (length c.args.out.now) = record { body = c.requires.payload_in_bounds } in
    group_fits room c.has_route.ensures refl refl

pub write_topic-at-requires-clause-topic_in_bounds : goal.write_topic-at-requires-clause-topic_in_bounds
write_topic-at-requires-clause-topic_in_bounds c =
    let room : Room c.args.draft.now (length c.args.out.now) = record { body = c.requires.payload_in_bounds } in
    lays_rest c.write_group-at.ensures _ (topic_fits room c.has_route.ensures c.has_topic.ensures refl)

-- all that is laid in front of the header lies within the output
pub slice_bounds-write_header-count : goal.slice_bounds-write_header-count
slice_bounds-write_header-count c =
    let room : Room c.args.draft.now (length c.args.out.now) = record { body = c.requires.payload_in_bounds } in
    let upto_topic = lays_more c.write_group-at.ensures c.write_topic-at.ensures in
    let payload_room = lays_rest upto_topic _ (payload_fits room c.has_route.ensures c.has_topic.ensures c.has_payload.ensures) in
    let laid = lays_more upto_topic (lays_counted payload_room c.write_part_if-at.ensures.value c.write_part_if-at.ensures.out_after) in
    let whole = header_fits room c.has_route.ensures c.has_topic.ensures c.has_payload.ensures in
    let fits = rw length-append at whole in
    omega (arith, laid.told, lays_length laid (omega (arith, fits)), fits)

pub slice_bounds-write_header-start : goal.slice_bounds-write_header-start
slice_bounds-write_header-start c =
    let room : Room c.args.draft.now (length c.args.out.now) = record { body = c.requires.payload_in_bounds } in
    let upto_topic = lays_more c.write_group-at.ensures c.write_topic-at.ensures in
    let payload_room = lays_rest upto_topic _ (payload_fits room c.has_route.ensures c.has_topic.ensures c.has_payload.ensures) in
    let laid = lays_more upto_topic (lays_counted payload_room c.write_part_if-at.ensures.value c.write_part_if-at.ensures.out_after) in
    let whole = header_fits room c.has_route.ensures c.has_topic.ensures c.has_payload.ensures in
    let fits = rw length-append at whole in
    omega (arith, laid.told, lays_length laid (omega (arith, fits)), fits)

pub returns : goal.returns
returns c =
    let room : Room c.args.draft.now (length c.args.out.now) = record { body = c.requires.payload_in_bounds } in
    let upto_topic = lays_more c.write_group-at.ensures c.write_topic-at.ensures in
    let payload_room = lays_rest upto_topic _ (payload_fits room c.has_route.ensures c.has_topic.ensures c.has_payload.ensures) in
    let laid = lays_more upto_topic (lays_counted payload_room c.write_part_if-at.ensures.value c.write_part_if-at.ensures.out_after) in
    let fits = lays_rest laid (part_bytes (header_bytes c.args.draft.now.header)) (header_fits room c.has_route.ensures c.has_topic.ensures c.has_payload.ensures) in
    rw (body_parts c.args.draft.now c.has_route.ensures c.has_topic.ensures c.has_payload.ensures)
    (lays_more laid (lays_counted fits c.write_header.ensures.value c.write_header.ensures.out_after))
