-- `cells_lines::read_cells` meets its contract.
use Rattle.cells_lines.proofs.Cells.{CellsReading}
use Rattle.cells_lines.proofs.read_cells.Given as goal

abbrev pub invariant-loop-n : goal.invariant-loop-n
invariant-loop-n l = CellsReading l.text l.initial.cells l.initial.volumes l.cells l.volumes l.place l.n
