-- `cells_steps::step_cells` meets its contract.
use Rattle.cells_steps.specs.Steps.{chain_of}
use Rattle.cells_steps.proofs.Turns.{Going}
use Rattle.cells_steps.proofs.step_cells.Given as goal

abbrev pub invariant-loop-i : goal.invariant-loop-i
invariant-loop-i l = Going (chain_of l.cells l.exit) l.demand l.initial.volumes l.volumes l.first l.entering l.i
