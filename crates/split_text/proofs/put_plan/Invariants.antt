-- `split_text::put_plan` meets its contract.
use Rattle.split_text.proofs.Steps.{PlanTo}
use Rattle.split_text.proofs.put_plan.Given as goal

abbrev pub invariant-loop : goal.invariant-loop
invariant-loop l = PlanTo l.whole l.half l.initial.output l.line l.output l.counter
