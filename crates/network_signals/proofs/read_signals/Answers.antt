use Rattle.base_search.proofs.Laws.{passed_on}
use Rattle.network_signals.proofs.Loops.{signals-begin, signals-stop, signals-next, signals-done}
use Rattle.network_signals.proofs.read_signals.Goals as goal

pub loop-r-init : goal.loop-r-init
loop-r-init c = signals-begin c.requires

pub returns-in_err-passed : goal.returns-in_err-passed
returns-in_err-passed c =
    rw (passed_on _ _ c.from_residual.ensures.1) (signals-stop c.requires c.loop-r.invariant c.loop-r-test.true c.read_signal.ensures c.in_err-passed.was)

pub loop-r-preserved : goal.loop-r-preserved
loop-r-preserved c =
    signals-next c.requires c.loop-r.invariant c.loop-r-test.true c.read_signal.ensures c.in_ok-passed.was c.shortest_time-shortest.ensures

pub returns : goal.returns
returns c = signals-done c.requires c.loop-r.invariant c.loop-r-test.false
