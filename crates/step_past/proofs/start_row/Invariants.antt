-- `step_past::start_row` meets its contract. The invariant: the first i links are at their start.
use Rattle.step_past.proofs.Keeping.{StartingTo}
use Rattle.step_past.proofs.start_row.Given as goal

abbrev pub invariant-loop-i : goal.invariant-loop-i
invariant-loop-i l = StartingTo l.links l.initial.row l.row l.i
