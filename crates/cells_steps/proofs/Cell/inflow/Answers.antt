-- `cells_steps::Cell::inflow` meets its contract.
use Rattle.std.proofs.Common.{rules}
use Rattle.cells_steps.specs.Steps.{inflow}
use Rattle.cells_steps.proofs.Cell.inflow.Goals as goal

pub returns : goal.returns
unfolding inflow
returns c = search rules
