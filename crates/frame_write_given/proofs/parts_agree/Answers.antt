-- One law, at the tests that were passed.
use Rattle.std.proofs.Common.{refl, sym, ◌∙◌}
use Rattle.frame_write_given.proofs.Giving.{agrees}
use Rattle.frame_write_given.proofs.parts_agree.Goals as goal
use Rattle.frame_write_given.proofs.parts_agree.Goals.{then-parts_fit, else-parts_fit, then-may_be_given, else-may_be_given}

pub returns-then-may_be_given-2 : goal.returns-then-may_be_given-2
returns-then-may_be_given-2 c =
    elim c.if-may_be_given.branch [
      | then-may_be_given w ↦ elim c.if-parts_fit.branch [
        | then-parts_fit v ↦
            rw (v.if-parts_fit.true, sym v.value-is ∙ w.if-may_be_given.true, sym w.value-is ∙ c.if-may_be_given-2.true) at
            (agrees c.args.draft.now c.parts_fit.ensures v.has_route.ensures w.has_topic.ensures c.has_payload.ensures v.may_be_given.ensures w.may_be_given-then-may_be_given.ensures c.may_be_given-then-may_be_given-2.ensures)
        | else-parts_fit v ↦ cc
      ]
      | else-may_be_given w ↦ cc
    ]

pub returns-else-may_be_given-2 : goal.returns-else-may_be_given-2
returns-else-may_be_given-2 c =
    elim c.if-may_be_given.branch [
      | then-may_be_given w ↦ elim c.if-parts_fit.branch [
        | then-parts_fit v ↦
            c.if-may_be_given-2.false
            ∙ rw (v.if-parts_fit.true, sym v.value-is ∙ w.if-may_be_given.true, sym w.value-is ∙ c.if-may_be_given-2.false) at
            (agrees c.args.draft.now c.parts_fit.ensures v.has_route.ensures w.has_topic.ensures refl v.may_be_given.ensures w.may_be_given-then-may_be_given.ensures refl)
        | else-parts_fit v ↦ cc
      ]
      | else-may_be_given w ↦ elim c.if-parts_fit.branch [
        | then-parts_fit v ↦
            c.if-may_be_given-2.false
            ∙ rw (v.if-parts_fit.true, sym v.value-is ∙ w.if-may_be_given.false) at
            (agrees c.args.draft.now c.parts_fit.ensures v.has_route.ensures refl refl v.may_be_given.ensures refl refl)
        | else-parts_fit v ↦ c.if-may_be_given-2.false ∙ rw v.if-parts_fit.false at (agrees c.args.draft.now c.parts_fit.ensures refl refl refl refl refl refl)
      ]
    ]
