-- `split_text::put_steps` meets its contract.
use Rattle.split_text.proofs.Steps.{StepsTo}
use Rattle.split_text.proofs.put_steps.Given as goal

abbrev pub invariant-loop : goal.invariant-loop
invariant-loop l = StepsTo l.whole l.half l.initial.output l.place l.output l.counter
