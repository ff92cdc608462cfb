-- The writer's order, at the tests that led to each return.
use Rattle.std.proofs.Common.{rules, ◌∙◌, not}
use Rattle.frame_message.specs.Writing.{writing_into}
use Rattle.frame_write_given.specs.WorkingDrafts.{drafted}
use Rattle.frame_write_check.specs.Working.{measured}
use Rattle.frame_write_check.proofs.Judging.{Order, order_is, told_type, told_flag, told_parts, told_route, told_topic, told_field, told_rest}
use Rattle.frame_write_check.proofs.check_message.Goals as goal
use Rattle.frame_write_check.proofs.check_message.Goals.{After-fields_good-fields}

-- the six tests, as they are known before any is told: what is written into so much room is the message that is given, or what is left of the
-- order behind the six tests
order : (d : After-fields_good-fields) → Order (not d.is_type-typed.result) (not d.are_flags-clear.result) (not d.parts_agree-agree.result) (not d.routes_good-good.result) d.topic_wrong-wrong.result (not d.fields_good-fields.result) (measured d.args.room (drafted d.args.draft.now)) (writing_into d.args.room (drafted d.args.draft.now))
order d =
    record {
      order = order_is d.args.draft.now d.args.room d.is_type-typed.ensures d.are_flags-clear.ensures d.parts_agree-agree.ensures d.routes_good-good.ensures d.topic_wrong-wrong.ensures d.fields_good-fields.ensures;
    }

pub returns-then-not-typed : goal.returns-then-not-typed
returns-then-not-typed c = told_type (order (goal.at.returns-then-not-typed c).After-fields_good-fields) (search rules)

pub returns-then-not-clear : goal.returns-then-not-clear
returns-then-not-clear c = told_flag (order (goal.at.returns-then-not-clear c).After-fields_good-fields) (search rules) (search rules)

pub returns-then-not-agree : goal.returns-then-not-agree
returns-then-not-agree c = told_parts (order (goal.at.returns-then-not-agree c).After-fields_good-fields) (search rules) (search rules) (search rules)

pub returns-then-not-good : goal.returns-then-not-good
returns-then-not-good c = told_route (order (goal.at.returns-then-not-good c).After-fields_good-fields) (search rules) (search rules) (search rules) (search rules)

pub returns-then-wrong : goal.returns-then-wrong
returns-then-wrong c = told_topic (order (goal.at.returns-then-wrong c).After-fields_good-fields) (search rules) (search rules) (search rules) (search rules) (search rules)

pub returns-then-not-fields : goal.returns-then-not-fields
returns-then-not-fields c = told_field (order (goal.at.returns-then-not-fields c).After-fields_good-fields) (search rules) (search rules) (search rules) (search rules) (search rules) (search rules)

-- where all six were passed, what is told is what is left of the order:
-- 3, and 11
pub returns : goal.returns
returns c = c.measure.ensures ∙ told_rest (order (goal.at.returns c).After-fields_good-fields) (search rules) (search rules) (search rules) (search rules) (search rules) (search rules)
