-- `carry::fill_volumes` meets its contract.
use Rattle.carry.proofs.Filling.{VolumesTo}
use Rattle.carry.proofs.fill_volumes.Given as goal

abbrev pub invariant-loop-i : goal.invariant-loop-i
invariant-loop-i l = VolumesTo l.ledger l.links l.n l.initial.row l.row l.i
