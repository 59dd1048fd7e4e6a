-- `plan_compare::order_of_texts` meets its contract.
use Rattle.plan_compare.specs.Curves.{ComparedTo}
use Rattle.plan_compare.proofs.order_of_texts.Given as goal

abbrev pub invariant-loop : goal.invariant-loop
invariant-loop l = ComparedTo l.counts l.first l.second l.counter l.first_so_far l.second_so_far
