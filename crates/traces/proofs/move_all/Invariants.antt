use Rattle.traces.proofs.Turns.{Moving}
use Rattle.traces.proofs.move_all.Given as goal

abbrev pub invariant-loop-i : goal.invariant-loop-i
invariant-loop-i l = Moving l.initial.places l.advances l.red_lines l.spacing l.places l.ahead l.i
