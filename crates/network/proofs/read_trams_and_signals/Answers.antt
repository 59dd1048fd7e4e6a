-- `network::read_trams_and_signals` meets its contract.
use Rattle.base_search.proofs.Laws.{passed_on}
use Rattle.network.proofs.First.{trams-stop, signals-stop, tram-phases-asked, phases-stop, first-judged}
use Rattle.network.proofs.read_trams_and_signals.Goals as goal

pub returns-in_err-reading : goal.returns-in_err-reading
returns-in_err-reading c = rw (passed_on _ _ c.from_residual.ensures.1) (trams-stop c.read_trams.ensures c.in_err-reading.was)

pub returns-in_err-reading-2 : goal.returns-in_err-reading-2
returns-in_err-reading-2 c = rw (passed_on _ _ c.from_residual-in_err-reading-2.ensures.1) (signals-stop c.read_trams.ensures c.in_ok-reading.was c.read_signals.ensures c.in_err-reading-2.was)

pub check_tram_phases-requires : goal.check_tram_phases-requires
check_tram_phases-requires c = tram-phases-asked c.read_trams.ensures c.in_ok-reading.was c.read_signals.ensures c.in_ok-reading-2.was

pub returns-in_err-check_tram_phases : goal.returns-in_err-check_tram_phases
returns-in_err-check_tram_phases c =
    rw (passed_on _ _ c.from_residual-in_err-check_tram_phases.ensures.1)
    (phases-stop c.read_trams.ensures c.in_ok-reading.was c.read_signals.ensures c.in_ok-reading-2.was c.check_tram_phases.ensures c.in_err-check_tram_phases.was)

pub returns : goal.returns
returns c = first-judged c.read_trams.ensures c.in_ok-reading.was c.read_signals.ensures c.in_ok-reading-2.was c.check_tram_phases.ensures c.in_ok-check_tram_phases.was
