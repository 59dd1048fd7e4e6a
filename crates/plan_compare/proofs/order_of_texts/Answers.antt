-- `plan_compare::order_of_texts` meets its contract.
use Rattle.base_laws.proofs.Kit.{◌∙◌, arith}
use Rattle.plan_compare.proofs.Curves.{read_none, read_next, read_all}
use Rattle.plan_compare.proofs.order_of_texts.Goals as goal

pub loop-init : goal.loop-init
loop-init c = read_none _ _ _

pub loop-preserved : goal.loop-preserved
loop-preserved c = read_next c.loop.invariant c.loop-test.true c.next_boundary-first_so_far.ensures c.next_boundary-second_so_far.ensures

pub returns : goal.returns
returns c = c.order_by.ensures ∙ read_all c.loop.invariant (omega arith)
