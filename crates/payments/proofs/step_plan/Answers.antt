use Rattle.steps.proofs.StepReady as parts
use Rattle.payments.proofs.step_plan.Goals as goal

pub invariant_of-day : goal.invariant_of-day
invariant_of-day c =
    let y = c.requires.2 in
    record { placed = parts.span_in y; kept = parts.kept y; month = c.requires.0 }
