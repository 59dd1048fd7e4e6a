use Rattle.std.proofs.Common.{rules}
use Rattle.step_past.proofs.Reading.{read-begin, read-asked, read-next}
use Rattle.step_past.proofs.read_on.Goals as goal

pub loop-step-init : goal.loop-step-init
loop-step-init c = read-begin c.requires

pub next_curve-arrival-requires : goal.next_curve-arrival-requires
next_curve-arrival-requires c = read-asked c.requires c.loop-step.invariant (search rules)

pub loop-step-preserved : goal.loop-step-preserved
loop-step-preserved c = read-next c.requires c.loop-step.invariant (search rules) c.next_curve-arrival.ensures
