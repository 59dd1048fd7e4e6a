use Rattle.std.proofs.Common.{rules}
use Rattle.step_arrivals.proofs.Arrivals.{arrival-here, arrival-on}
use Rattle.step_arrivals.proofs.arrival_step.Goals as goal

pub loop-m-preserved : goal.loop-m-preserved
loop-m-preserved c = search (arrival-on, rules)

pub returns : goal.returns
returns c = search (arrival-here, rules)
