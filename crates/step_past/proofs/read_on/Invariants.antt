-- `step_past::read_on` meets its contract. The invariant: the curve of the lines read so far.
use Rattle.step_past.proofs.Reading.{ReadTo}
use Rattle.step_past.proofs.read_on.Given as goal

abbrev pub invariant-loop-step : goal.invariant-loop-step
invariant-loop-step l = ReadTo l.text l.i l.from l.to l.initial.arrival l.arrival l.step
