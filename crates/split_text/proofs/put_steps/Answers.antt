use Rattle.std.proofs.Common.{rules}
use Rattle.split_text.proofs.Steps.{steps-none, step-asked, steps_next, steps-all}
use Rattle.split_text.proofs.put_steps.Goals as goal

pub loop-init : goal.loop-init
loop-init c = rw c.first-place.ensures (steps-none c.requires)

pub put_step-place-requires : goal.put_step-place-requires
put_step-place-requires c = step-asked c.requires c.loop.invariant c.loop-test.true

pub loop-preserved : goal.loop-preserved
loop-preserved c = steps_next c.requires c.loop.invariant c.loop-test.true c.put_step-place.ensures

pub returns : goal.returns
returns c = steps-all c.requires c.loop.invariant (search rules)
