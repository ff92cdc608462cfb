use Rattle.std.proofs.Common.{arith}
use Rattle.call_specs.proofs.StepCalls.{step_short, step_on, tells_on, tells_refused, tells_no, tells_yes}
use Rattle.call_step.proofs.steps.step.Goals as goal

pub returns-then-row-lt-STEP_RECORD : goal.returns-then-row-lt-STEP_RECORD
returns-then-row-lt-STEP_RECORD c = tells_refused (step_short _ _ _ _ (omega arith)) c.from.ensures

pub returns-in-Err : goal.returns-in-Err
returns-in-Err c = tells_on (step_on _ _ _ _ (omega arith)) (tells_no _ c.in-Err.ensures.told c.in-Err.ensures.leaves c.from-in-Err.ensures)

pub returns-in-Ok : goal.returns-in-Ok
returns-in-Ok c =
    tells_on (step_on _ _ _ _ (omega arith))
    (tells_yes _ c.in-Ok.ensures.told c.in-Ok.ensures.leaves c.frame_length.ensures c.step_row.ensures (omega arith) c.put_row.ensures)
