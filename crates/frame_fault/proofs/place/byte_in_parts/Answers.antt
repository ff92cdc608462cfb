-- One law for each refusal.
use Rattle.std.proofs.Common.{eqb, arith}
use Rattle.bytes_number.proofs.Numbers.{bytes_of_lem}
use Rattle.frame_body.specs.WorkingJudging.{parts_found}
use Rattle.frame_fault.specs.Fault.{first_malformed}
use Rattle.frame_fault.proofs.Places.{why_magic, part_low, field_low, topic_low, place_7, place_8, place_9, place_10, place_20, place_21, place_22, place_23}
use Rattle.frame_fault.proofs.place.byte_in_parts.Goals as goal

pub overflow_add-result : goal.overflow_add-result
overflow_add-result c = omega (arith, c.field_byte.ensures, field_low (eqb c.byte_at.result 1))

pub data_at-requires : goal.data_at-requires
data_at-requires c =
    let b = bytes_of_lem c.args.body.now (λ i. (c.type_inv.body i).fits) in
    part_low c.args.body.now b c.args.counts c.requires.body_len_bound.1 c.requires.body_len_bound.0 (first_malformed 64 (parts_found c.args.body.now)) c.first_malformed.ensures

pub data_at-requires-in-TopicWrong : goal.data_at-requires-in-TopicWrong
data_at-requires-in-TopicWrong c =
    let b = bytes_of_lem c.args.body.now (λ i. (c.type_inv.body i).fits) in
    topic_low c.args.body.now b c.args.counts c.requires.body_len_bound.1 c.requires.body_len_bound.0 c.requires.alike.1 c.in-TopicWrong.is c.byte_at-flags.ensures c.if_routed.ensures

pub returns-in-PartsDisagree : goal.returns-in-PartsDisagree
returns-in-PartsDisagree c =
    let b = bytes_of_lem c.args.body.now (λ i. (c.type_inv.body i).fits) in
    place_7 c.args.body.now b c.args.counts c.requires.body_len_bound.1 c.requires.body_len_bound.0 c.requires.alike.1 c.in-PartsDisagree.is

pub returns-in-RouteWrong : goal.returns-in-RouteWrong
returns-in-RouteWrong c =
    let b = bytes_of_lem c.args.body.now (λ i. (c.type_inv.body i).fits) in
    place_8 c.args.body.now b c.args.counts c.requires.body_len_bound.1 c.requires.body_len_bound.0 c.requires.alike.1 c.in-RouteWrong.is c.first_malformed.ensures c.data_at.ensures

pub returns-in-TopicWrong : goal.returns-in-TopicWrong
returns-in-TopicWrong c =
    let b = bytes_of_lem c.args.body.now (λ i. (c.type_inv.body i).fits) in
    place_9 c.args.body.now b c.args.counts c.requires.body_len_bound.1 c.requires.body_len_bound.0 c.requires.alike.1 c.in-TopicWrong.is c.byte_at-flags.ensures c.if_routed.ensures c.data_at-in-TopicWrong.ensures

pub returns-in-FieldWrong : goal.returns-in-FieldWrong
returns-in-FieldWrong c =
    let b = bytes_of_lem c.args.body.now (λ i. (c.type_inv.body i).fits) in
    place_10 c.args.body.now b c.args.counts c.requires.body_len_bound.1 c.requires.body_len_bound.0 c.requires.alike.1 c.in-FieldWrong.is c.byte_at.ensures c.field_byte.ensures

pub returns-in-VersionWrong : goal.returns-in-VersionWrong
returns-in-VersionWrong c =
    let b = bytes_of_lem c.args.body.now (λ i. (c.type_inv.body i).fits) in
    place_21 c.args.body.now b c.args.counts c.requires.body_len_bound.1 c.requires.body_len_bound.0 c.requires.alike.1 c.in-VersionWrong.is

pub returns-in-TypeWrong : goal.returns-in-TypeWrong
returns-in-TypeWrong c =
    let b = bytes_of_lem c.args.body.now (λ i. (c.type_inv.body i).fits) in
    place_22 c.args.body.now b c.args.counts c.requires.body_len_bound.1 c.requires.body_len_bound.0 c.requires.alike.1 c.in-TypeWrong.is

pub returns-in-FlagWrong : goal.returns-in-FlagWrong
returns-in-FlagWrong c =
    let b = bytes_of_lem c.args.body.now (λ i. (c.type_inv.body i).fits) in
    place_23 c.args.body.now b c.args.counts c.requires.body_len_bound.1 c.requires.body_len_bound.0 c.requires.alike.1 c.in-FlagWrong.is

-- no other refusal of a body is left
pub returns-in_default : goal.returns-in_default
returns-in_default c =
    let b = bytes_of_lem c.args.body.now (λ i. (c.type_inv.body i).fits) in
    let d = c.in_default in
    let left = why_magic c.requires.alike.1 d.not-HeaderWrong d.not-PartsDisagree d.not-RouteWrong d.not-TopicWrong d.not-FieldWrong d.not-VersionWrong d.not-TypeWrong d.not-FlagWrong in
    place_20 c.args.body.now b c.args.counts c.requires.body_len_bound.1 c.requires.body_len_bound.0 c.requires.alike.1 left
