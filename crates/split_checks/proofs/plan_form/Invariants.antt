-- `split_checks::plan_form` meets its contract.
use Rattle.split_checks.specs.Plan.{FormsTo}
use Rattle.split_checks.proofs.plan_form.Given as goal

abbrev pub invariant-loop-n : goal.invariant-loop-n
invariant-loop-n l = FormsTo l.plan l.signals l.counts l.at l.n
