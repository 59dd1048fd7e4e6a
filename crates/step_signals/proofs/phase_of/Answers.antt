-- `step_signals::phase_of` meets its contract: each way out is one law on the two counts.
use Rattle.step_signals.proofs.Phase.{phase-one, phase-past, phase-many}
use Rattle.step_signals.proofs.phase_of.Goals as goal

pub returns-then-place-phases : goal.returns-then-place-phases
returns-then-place-phases c = phase-one 32 _ _ c.ranges.mask.fits c.if-mask-eq1.true c.if-place-phases.true

pub returns-else-place-phases : goal.returns-else-place-phases
returns-else-place-phases c = phase-past 32 _ _ c.ranges.mask.fits c.if-mask-eq1.true c.if-place-phases.false

pub returns-else-mask-eq1 : goal.returns-else-mask-eq1
returns-else-mask-eq1 c = phase-many _ _ c.if-mask-eq1.false
