-- `carry::put_signals` meets its contract.
use Rattle.carry.proofs.Lines.{SignalsTo}
use Rattle.carry.proofs.put_signals.Given as goal

abbrev pub invariant-loop-signal : goal.invariant-loop-signal
invariant-loop-signal l = SignalsTo l.signals l.initial.output l.output l.signal-index
