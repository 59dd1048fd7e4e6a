-- `sheet_lines::read_sheet` meets its contract. The loop's invariant: the first r lines are read.
use Rattle.std.specs.Int.{from_bool}
use Rattle.sheet_lines.proofs.Lines.{ReadTo}
use Rattle.sheet_lines.proofs.read_sheet.Given as goal

abbrev pub invariant-loop-r : goal.invariant-loop-r
invariant-loop-r l = ReadTo l.signals (from_bool l.offset) l.text l.place l.r l.table
