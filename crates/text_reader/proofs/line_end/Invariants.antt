-- `text_reader::line_end` meets its contract. The invariant: the place is in the line.
use Rattle.base_laws.proofs.Kit.{◌-◌, length}
use Rattle.text_reader.specs.Passing.{InLine}
use Rattle.text_reader.proofs.line_end.Given as goal

abbrev pub invariant-loop-place : goal.invariant-loop-place
invariant-loop-place l = InLine l.text l.at l.place

abbrev pub decreases-loop-place : goal.decreases-loop-place
decreases-loop-place l = length l.text - l.place
