use Rattle.std.proofs.Common.{rules}
use Rattle.step_sums.proofs.Turns.{before-past, before-later}
use Rattle.step_sums.proofs.StepRows.entered_before.Goals as goal

pub returns-then-arrival-step : goal.returns-then-arrival-step
returns-then-arrival-step c = search (before-past, rules)

pub returns : goal.returns
returns c = search (before-later, rules)
