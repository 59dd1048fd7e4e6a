-- `network_signals::read_signals` meets its contract.
use Rattle.network_signals.proofs.Loops.{SignalsTo}
use Rattle.network_signals.proofs.read_signals.Given as goal

abbrev pub invariant-loop-r : goal.invariant-loop-r
invariant-loop-r l = SignalsTo l.text l.signals l.place l.shortest l.r
