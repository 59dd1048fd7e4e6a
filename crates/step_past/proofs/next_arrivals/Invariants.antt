-- `step_past::next_arrivals` meets its contract. The invariant: the first i links are moved on.
use Rattle.step_past.proofs.Moving.{MovedTo}
use Rattle.step_past.proofs.next_arrivals.Given as goal

abbrev pub invariant-loop-i : goal.invariant-loop-i
invariant-loop-i l = MovedTo l.tables l.at l.arrivals l.i
