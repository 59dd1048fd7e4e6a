-- `split_checks::steps_free` meets its contract.
use Rattle.split_checks.proofs.Network.{StepsTo}
use Rattle.split_checks.proofs.steps_free.Given as goal

abbrev pub invariant-loop : goal.invariant-loop
invariant-loop l = StepsTo l.whole l.half l.step l.line l.counter
