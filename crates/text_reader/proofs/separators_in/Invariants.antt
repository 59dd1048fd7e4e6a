-- `text_reader::separators_in` meets its contract. The invariant: the separators of the first k bytes.
use Rattle.base_laws.proofs.Kit.{◌≡◌}
use Rattle.text_reader.specs.Passing.{separators}
use Rattle.text_reader.proofs.separators_in.Given as goal

abbrev pub invariant-loop-k : goal.invariant-loop-k
invariant-loop-k l = l.sum ≡ separators l.text l.at l.k
