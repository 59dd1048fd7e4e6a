-- `cells_lines::is_cell` meets its contract.
use Rattle.std.proofs.Common.{arith}
use Rattle.text_reader.specs.Lines.{starts_as, all_numbers}
use Rattle.cells_lines.proofs.is_cell.Goals as goal

pub returns : goal.returns
unfolding starts_as all_numbers
returns c = grind arith
