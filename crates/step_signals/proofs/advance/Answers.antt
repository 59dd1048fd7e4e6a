use Rattle.step_signals.proofs.Cuts.{advancing-none, ready-part, advanced-part}
use Rattle.step_signals.proofs.advance.Goals as goal

pub loop-r-init : goal.loop-r-init
loop-r-init c = advancing-none

pub after-requires-clause-ready : goal.after-requires-clause-ready
after-requires-clause-ready c = ready-part c.requires c.loop-r-test.true c.loop-r.invariant

pub returns : goal.returns
returns c = advanced-part c.requires c.loop-r-test.false c.loop-r.invariant
