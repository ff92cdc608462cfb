-- What 6 to 10 let through is short enough to be added up, but for the payload.
use Rattle.std.proofs.Common.{arith, refl, ◌∙◌}
use Rattle.frame_write_given.proofs.Cuts.{good_few, good_whole}
use Rattle.frame_write_given.specs.WorkingDrafts.{drafted}
use Rattle.frame_write_check.proofs.Bodies.{body_most}
use Rattle.frame_write_check.proofs.Judging.{topic_short, payload_long, measured_long, measured_fitted}
use Rattle.frame_write_check.proofs.measure.Goals as goal

pub returns-then-draft-gt-MOST_BODY : goal.returns-then-draft-gt-MOST_BODY
returns-then-draft-gt-MOST_BODY c =
    measured_long c.args.room _ (payload_long c.args.draft.now c.requires.payload_value (omega arith))

pub body_length-whole-requires-clause-routes_len_bound : goal.body_length-whole-requires-clause-routes_len_bound
body_length-whole-requires-clause-routes_len_bound c = (good_few c.args.draft.now.routes.now c.requires.routes_value, good_whole c.args.draft.now.routes.now c.requires.routes_value)

pub body_length-whole-requires-clause-topic_len_bound : goal.body_length-whole-requires-clause-topic_len_bound
body_length-whole-requires-clause-topic_len_bound c =
    (topic_short c.args.draft.now c.requires.payload_value c.requires.topic_value, omega arith)

pub overflow_add-whole : goal.overflow_add-whole
overflow_add-whole c =
    let d = c.args.draft.now in
    let short = topic_short d c.requires.payload_value c.requires.topic_value in
    let most = body_most d refl refl refl (good_whole d.routes.now c.requires.routes_value) (good_few d.routes.now c.requires.routes_value) short (omega arith) in
    omega (arith, c.body_length-whole.ensures, most)

pub returns : goal.returns
returns c = c.fit.ensures ∙ measured_fitted c.args.room (drafted c.args.draft.now) c.body_length-whole.ensures
