-- `text_reader::stays_in_line` meets its contract. The invariant: whether the first k bytes have no line feed.
use Rattle.base_laws.proofs.Kit.{◌≡◌}
use Rattle.text_reader.specs.Passing.{stays_in_line}
use Rattle.text_reader.proofs.stays_in_line.Given as goal

abbrev pub invariant-loop-k : goal.invariant-loop-k
invariant-loop-k l = l.stays ≡ stays_in_line l.text l.at l.k
