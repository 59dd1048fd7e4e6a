use Rattle.std.proofs.Common.{rules, arith}
use Rattle.cells_steps.proofs.Turns.{running_more, running_done}
use Rattle.cells_steps.proofs.run_steps.Goals as goal

pub loop-demand-preserved : goal.loop-demand-preserved
loop-demand-preserved c =
    running_more c.loop-demand.invariant (omega arith) c.step_cells-step.ensures c.from.ensures c.from-in-loop-demand.ensures (search rules) (search rules)

pub returns : goal.returns
returns c = running_done c.loop-demand.invariant (omega arith)
