-- `carry::put_steps` meets its contract.
use Rattle.carry.proofs.Reading.{StepsTo}
use Rattle.carry.proofs.put_steps.Given as goal

abbrev pub invariant-loop-n : goal.invariant-loop-n
invariant-loop-n l = StepsTo l.tables l.standing l.initial.output l.row l.line l.output l.n
