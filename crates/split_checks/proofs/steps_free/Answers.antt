use Rattle.std.proofs.Common.{rules}
use Rattle.base_laws.proofs.Kit.{refl}
use Rattle.split_checks.proofs.Network.{steps-none, free-asked, room-kept, steps-fail, steps_next}
use Rattle.split_checks.proofs.steps_free.Goals as goal

pub loop-init : goal.loop-init
loop-init c = steps-none c.requires _ refl

pub step_free-requires : goal.step_free-requires
step_free-requires c = room-kept c.requires _ c.loop.invariant c.step_width-width.ensures c.read_again-line.ensures

pub invariant_of-border : goal.invariant_of-border
invariant_of-border c = record { ends = free-asked c.requires c.args.half.now }

pub returns-then-not-step_free : goal.returns-then-not-step_free
returns-then-not-step_free c = steps-fail c.requires _ c.loop.invariant c.step_width-width.ensures c.read_again-line.ensures c.loop-test.true c.step_free.ensures (search rules)

pub loop-preserved : goal.loop-preserved
loop-preserved c = steps_next c.requires _ c.loop.invariant c.step_width-width.ensures c.read_again-line.ensures c.loop-test.true c.step_free.ensures (search rules)
