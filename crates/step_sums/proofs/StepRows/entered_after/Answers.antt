use Rattle.std.proofs.Common.{rules}
use Rattle.step_sums.proofs.Turns.{after-past, after_last, after-earlier}
use Rattle.step_sums.proofs.StepRows.entered_after.Goals as goal

pub returns-then-arrival-step : goal.returns-then-arrival-step
returns-then-arrival-step c = search (after-past, rules)

pub returns-then-boundary-step : goal.returns-then-boundary-step
returns-then-boundary-step c = search (after_last, rules)

pub returns : goal.returns
returns c = search (after-earlier, rules)
