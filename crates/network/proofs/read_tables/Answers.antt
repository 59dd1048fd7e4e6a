-- `network::read_tables` meets its contract.
use Rattle.base_search.proofs.Laws.{passed_on}
use Rattle.network.proofs.Chain.{counts-stop, signals-asked, signals-stop, links-asked, links-stop, movements-asked, movements-stop, links-cut, movements-cut, shares-ready, shares-stop, timeline-asked, network-judged}
use Rattle.network.proofs.read_tables.Goals as goal

pub returns-in_err-reading : goal.returns-in_err-reading
returns-in_err-reading c = rw (passed_on _ _ c.from_residual.ensures.1) (counts-stop c.requires c.read_counts.ensures c.in_err-reading.was)

pub read_trams_and_signals-requires : goal.read_trams_and_signals-requires
read_trams_and_signals-requires c = signals-asked c.requires c.read_counts.ensures c.in_ok-reading.was

pub returns-in_err-reading-2 : goal.returns-in_err-reading-2
returns-in_err-reading-2 c = rw (passed_on _ _ c.from_residual-in_err-reading-2.ensures.1) (signals-stop c.requires c.read_counts.ensures c.in_ok-reading.was c.read_trams_and_signals.ensures c.in_err-reading-2.was)

pub read_links-requires : goal.read_links-requires
read_links-requires c = links-asked c.requires c.read_counts.ensures c.in_ok-reading.was c.read_trams_and_signals.ensures c.in_ok-reading-2.was

pub returns-in_err-reading-3 : goal.returns-in_err-reading-3
returns-in_err-reading-3 c = rw (passed_on _ _ c.from_residual-in_err-reading-3.ensures.1) (links-stop c.requires c.read_counts.ensures c.in_ok-reading.was c.read_trams_and_signals.ensures c.in_ok-reading-2.was c.read_links.ensures c.in_err-reading-3.was)

pub read_movements-requires : goal.read_movements-requires
read_movements-requires c = movements-asked c.requires c.read_counts.ensures c.in_ok-reading.was c.read_trams_and_signals.ensures c.in_ok-reading-2.was c.read_links.ensures c.in_ok-reading-3.was

pub returns-in_err-reading-4 : goal.returns-in_err-reading-4
returns-in_err-reading-4 c = rw (passed_on _ _ c.from_residual-in_err-reading-4.ensures.1) (movements-stop c.requires c.read_counts.ensures c.in_ok-reading.was c.read_trams_and_signals.ensures c.in_ok-reading-2.was c.read_links.ensures c.in_ok-reading-3.was c.read_movements.ensures c.in_err-reading-4.was)

pub slice_bounds-links-end : goal.slice_bounds-links-end
slice_bounds-links-end c = links-cut c.requires c.read_counts.ensures c.in_ok-reading.was c.read_trams_and_signals.ensures c.in_ok-reading-2.was c.read_links.ensures c.in_ok-reading-3.was c.read_movements.ensures c.in_ok-reading-4.was

pub slice_bounds-movements-end : goal.slice_bounds-movements-end
slice_bounds-movements-end c = movements-cut c.requires c.read_counts.ensures c.in_ok-reading.was c.read_trams_and_signals.ensures c.in_ok-reading-2.was c.read_links.ensures c.in_ok-reading-3.was c.read_movements.ensures c.in_ok-reading-4.was

pub check_shares-requires : goal.check_shares-requires
check_shares-requires c = shares-ready c.requires c.read_counts.ensures c.in_ok-reading.was c.read_trams_and_signals.ensures c.in_ok-reading-2.was c.read_links.ensures c.in_ok-reading-3.was c.read_movements.ensures c.in_ok-reading-4.was

pub returns-in_err-check_shares : goal.returns-in_err-check_shares
returns-in_err-check_shares c = rw (passed_on _ _ c.from_residual-in_err-check_shares.ensures.1) (shares-stop c.requires c.read_counts.ensures c.in_ok-reading.was c.read_trams_and_signals.ensures c.in_ok-reading-2.was c.read_links.ensures c.in_ok-reading-3.was c.read_movements.ensures c.in_ok-reading-4.was c.check_shares.ensures c.in_err-check_shares.was)

pub read_timeline-requires : goal.read_timeline-requires
read_timeline-requires c = timeline-asked c.requires c.read_counts.ensures c.in_ok-reading.was c.read_trams_and_signals.ensures c.in_ok-reading-2.was c.read_links.ensures c.in_ok-reading-3.was c.read_movements.ensures c.in_ok-reading-4.was c.check_shares.ensures c.in_ok-check_shares.was

pub returns : goal.returns
returns c = network-judged c.requires c.read_counts.ensures c.in_ok-reading.was c.read_trams_and_signals.ensures c.in_ok-reading-2.was c.read_links.ensures c.in_ok-reading-3.was c.read_movements.ensures c.in_ok-reading-4.was c.check_shares.ensures c.in_ok-check_shares.was c.read_timeline.ensures
