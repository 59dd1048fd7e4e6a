-- `split_text::add_border` meets its contract.
use Rattle.split_text.proofs.Border.{BorderTo}
use Rattle.split_text.proofs.add_border.Given as goal

abbrev pub invariant-loop-j : goal.invariant-loop-j
invariant-loop-j g l = BorderTo l.tables.movements.now l.half.links l.tables.reading.counts.movements l.side (goal.F-post g l.number_of) l.sums l.j
