-- `cells_lines::read_demands` meets its contract.
use Rattle.cells_lines.proofs.Demands.{DemandsReading}
use Rattle.cells_lines.proofs.read_demands.Given as goal

abbrev pub invariant-loop-k : goal.invariant-loop-k
invariant-loop-k l = DemandsReading l.text l.cells l.initial.demands l.demands l.place l.k
