-- `cells_steps::run_steps` meets its contract.
use Rattle.cells_steps.specs.Steps.{chain_of}
use Rattle.cells_steps.proofs.Turns.{Running}
use Rattle.cells_steps.proofs.run_steps.Given as goal

abbrev pub invariant-loop-demand : goal.invariant-loop-demand
invariant-loop-demand l = Running (chain_of l.cells l.exit) l.demands l.initial.volumes l.volumes l.total.flow_in l.total.flow_out l.demand-index
