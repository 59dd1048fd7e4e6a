use Rattle.std.proofs.Common.{arith, rules}
use Rattle.split_checks.proofs.Plan.{forms-none, forms-stop, forms-next, forms-all}
use Rattle.split_checks.proofs.plan_form.Goals as goal

pub loop-n-init : goal.loop-n-init
loop-n-init c = search (forms-none, rules)

pub returns-in_default : goal.returns-in_default
returns-in_default c = search (forms-stop, rules)

pub loop-n-preserved : goal.loop-n-preserved
loop-n-preserved c = search (forms-next, rules)

pub returns : goal.returns
returns c = forms-all c.loop-n.invariant (omega arith) c.is_end-ended.ensures c.checked.ensures
