-- `step_limits::movements_within_limits` meets its contract. The invariant: the first j movements keep their limits, and have been added to the row.
use Rattle.step_rows.specs.Rows.{RowAlone}
use Rattle.step_limits.specs.Limits.{MovementsPassed}
use Rattle.step_limits.proofs.movements_within_limits.Given as goal

abbrev pub invariant-loop-j : goal.invariant-loop-j
invariant-loop-j l = MovementsPassed l.step l.initial.row l.j l.row × RowAlone l.step.counts l.initial.row l.row
