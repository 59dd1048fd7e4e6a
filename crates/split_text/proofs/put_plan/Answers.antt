use Rattle.std.proofs.Common.{rules}
use Rattle.base_laws.proofs.Kit.{refl}
use Rattle.split_text.proofs.Steps.{plan-none, plan-line-asked, plan-next, plan-all, put-back}
use Rattle.split_text.proofs.put_plan.Goals as goal

pub loop-init : goal.loop-init
loop-init c = plan-none

pub put_plan_line-line-requires : goal.put_plan_line-line-requires
put_plan_line-line-requires c = plan-line-asked c.loop.invariant c.loop-test.true c.requires refl

pub loop-preserved : goal.loop-preserved
loop-preserved c = plan-next c.loop.invariant c.loop-test.true c.requires c.put_plan_line-line.ensures

pub returns : goal.returns
returns c = λ network_text held set h one.
    let lent = (c.loop.invariant.put network_text held set h one).buffer in
    put-back (plan-all c.loop.invariant refl (search rules) network_text held set h one) (search rules)
