use Rattle.network_writer.proofs.Put.{rows_none}
use Rattle.carry.proofs.Lines.{signals-next}
use Rattle.carry.proofs.put_signals.Goals as goal

pub loop-signal-init : goal.loop-signal-init
loop-signal-init c = rows_none

pub loop-signal-preserved : goal.loop-signal-preserved
loop-signal-preserved c = signals-next c.requires c.loop-signal.invariant c.loop-signal-test.true c.from-row.ensures c.width.ensures c.put_line.ensures
